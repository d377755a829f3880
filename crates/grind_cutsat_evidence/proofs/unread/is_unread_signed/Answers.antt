use Rattle.std.proofs.lemmas.Int.{to_z-of_z}
use Rattle.std.specs.Int.{w128}
use Rattle.std.proofs.Common.{◌≡◌, ◌↔◌, ◌⊎◌, inl, inr, ℕ, List, [], ◌∷◌, Option, Some, None, IsTrue, pos, refl, sym, ap, ◌∙◌, subst}
use Rattle.std.proofs.lemmas.Bool.{false≢true}
use Rattle.std.proofs.lemmas.Option.{none-some, same_Some}
use Rattle.grind_cutsat_evidence.proofs.unread.is_unread_signed.Goals as goal

pub returns-in_default : goal.returns-in_default
returns-in_default c =
    let found = simp (to_z-of_z w128 c.args.factor c.ranges.factor) at c.in_ok-found.ensures in (λ yes. sym found ∙ c.in_default.is, λ none. refl)

pub returns : goal.returns
returns c =
    let found = simp (to_z-of_z w128 c.args.factor c.ranges.factor) at c.in_ok-found.ensures in (
      λ yes. absurd (false≢true yes),
      λ none. absurd (none-some c.in-Some._form (sym none ∙ sym found ∙ c.in-Some.is)),
    )
