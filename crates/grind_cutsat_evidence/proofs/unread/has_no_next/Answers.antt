use Rattle.std.proofs.Common.{◌≡◌, ◌↔◌, ◌⊎◌, inl, inr, ℕ, List, [], ◌∷◌, Option, Some, None, IsTrue, pos, refl, sym, ap, ◌∙◌, subst}
use Rattle.std.proofs.lemmas.Bool.{false≢true}
use Rattle.std.proofs.lemmas.Option.{none-some, same_Some}
use Rattle.std.specs.Int.{w128}
use Rattle.grind_linear_forms.specs.Forms.{FormData}
use Rattle.grind_cutsat_evidence.proofs.UnreadLemmas.{next_fits}
use Rattle.grind_cutsat_evidence.proofs.unread.has_no_next.Goals as goal

pub returns-in_default : goal.returns-in_default
returns-in_default c = (λ yes. inl (sym c.in_ok-found.ensures ∙ c.in_default.is), λ none. refl)

pub returns-in_default-one_more : goal.returns-in_default-one_more
returns-in_default-one_more c =
    (λ yes. inr (c.in-Some.base, sym c.in_ok-found.ensures ∙ c.in-Some.is, c.in_default-one_more.ensures), λ none. refl)

pub returns : goal.returns
returns c =
    next_fits c.args.terms.now.nodes c.args.a c.args.b c.in-Some.base (sym c.in_ok-found.ensures ∙ c.in-Some.is) c.in-Some-one_more._next
    c.in-Some-one_more.ensures.0 c.in-Some-one_more.ensures.1
