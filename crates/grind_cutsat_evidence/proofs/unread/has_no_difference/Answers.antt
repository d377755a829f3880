use Rattle.std.proofs.Common.{◌≡◌, ◌↔◌, ◌⊎◌, inl, inr, ℕ, List, [], ◌∷◌, Option, Some, None, IsTrue, pos, refl, sym, ap, ◌∙◌, subst}
use Rattle.std.proofs.lemmas.Bool.{false≢true}
use Rattle.std.proofs.lemmas.Option.{none-some, same_Some}
use Rattle.grind_cutsat_evidence.proofs.unread.has_no_difference.Goals as goal

pub returns-in_default : goal.returns-in_default
returns-in_default c = (λ yes. sym c.in_ok-found.ensures ∙ c.in_default.is, λ none. refl)

pub returns : goal.returns
returns c = (
  λ yes. absurd (false≢true yes),
  λ none. absurd (none-some c.in-Some._form (sym none ∙ sym c.in_ok-found.ensures ∙ c.in-Some.is)),
)
