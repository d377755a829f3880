use Rattle.std.proofs.Common.{ℕ, Option, inl, refl, subst}
use Rattle.std.specs.Prelude.{MatchOption}
use Rattle.grind_cutsat_assignment.specs.Given.{given}
use Rattle.grind_cutsat_evidence.specs.Evidence.{IsLeftAlone}
use Rattle.grind_cutsat_evidence.proofs.LeftLemmas.{left_by}
use Rattle.grind_cutsat_evidence.proofs.remaining.left.Goals as goal

pub returns-in-Some : goal.returns-in-Some
returns-in-Some c =
    inl (refl, subst (λ (found : Option ℕ). MatchOption found ((post : ℕ) → ¬ IsLeftAlone (given c.args.view.now.facts.now c.args.view.now.terms.now.nodes c.args.view.now.classes.now.lists) post) (IsLeftAlone (given c.args.view.now.facts.now c.args.view.now.terms.now.nodes c.args.view.now.classes.now.lists))) c.in-Some.is c.in_ok-alone.ensures)

pub returns : goal.returns
returns c =
    left_by (given c.args.view.now.facts.now c.args.view.now.terms.now.nodes c.args.view.now.classes.now.lists)
    (subst (λ (found : Option ℕ). MatchOption found ((post : ℕ) → ¬ IsLeftAlone (given c.args.view.now.facts.now c.args.view.now.terms.now.nodes c.args.view.now.classes.now.lists) post) (IsLeftAlone (given c.args.view.now.facts.now c.args.view.now.terms.now.nodes c.args.view.now.classes.now.lists))) c.in_default.is c.in_ok-alone.ensures)
    c.in_ok-together.together c.in_ok-together.ensures
