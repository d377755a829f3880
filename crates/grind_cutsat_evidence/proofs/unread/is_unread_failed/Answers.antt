use Rattle.std.proofs.Common.{◌≡◌, ◌↔◌, ◌⊎◌, inl, inr, ℕ, List, [], ◌∷◌, Option, Some, None, IsTrue, pos, refl, sym, ap, ◌∙◌, subst}
use Rattle.std.proofs.lemmas.Bool.{false≢true}
use Rattle.grind_differences.specs.Differences.{difference}
use Rattle.grind_cutsat_evidence.specs.Unread.{HasNoNext}
use Rattle.grind_cutsat_evidence.proofs.UnreadLemmas.{at_sides}
use Rattle.grind_cutsat_evidence.proofs.unread.is_unread_failed.Goals as goal

pub returns-in_default : goal.returns-in_default
returns-in_default c = (λ yes. absurd (false≢true yes), λ h. absurd (c.in_default.ensures.none h.0 h.1 h.2))

pub returns : goal.returns
returns c =
    at_sides c.args.terms.now.nodes c.args.node c.in-Some.sides.left c.in-Some.sides.right (λ a b. HasNoNext c.args.terms.now.nodes b a)
    c.in_ok-unread.unread c.in-Some.ensures.some c.in_ok-unread.ensures
