use Rattle.std.proofs.Common.{rules, FitsSigned, subst}
use Rattle.std.proofs.lemmas.Int.{to_z-of_z}
use Rattle.std.specs.Int.{w128}
use Rattle.grind_cutsat_assignment.specs.Given.{given}
use Rattle.grind_cutsat_assignment.specs.declared.outcome.Outcome.{Outcome}
use Rattle.grind_cutsat_splits.specs.Alone.{IsLeft}
use Rattle.grind_cutsat_splits.proofs.GapLemmas.{gap_is_inside}
use Rattle.grind_cutsat_splits.proofs.VerdictLemmas.{gap_verdict}
use Rattle.grind_cutsat_splits.proofs.verdicts.told.Goals as goal

pub gap_split-requires : goal.gap_split-requires
gap_split-requires c =
    let fits : FitsSigned w128 c.in-Gap.floor = search rules in
    let left = subst (λ (outcome : Outcome). IsLeft (given c.args.view.now.facts.now c.args.view.now.terms.now.nodes c.args.view.now.classes.now.lists) outcome) c.in-Gap.is c.requires.left in
    simp (to_z-of_z w128 c.in-Gap.floor fits) (gap_is_inside (given c.args.view.now.facts.now c.args.view.now.terms.now.nodes c.args.view.now.classes.now.lists) c.requires.ordered c.in-Gap.node c.in-Gap.floor left.0)

pub returns-in_ok-form-in-Gap : goal.returns-in_ok-form-in-Gap
returns-in_ok-form-in-Gap c =
    let fits : FitsSigned w128 c.in-Gap.floor = search rules in
    let left = subst (λ (outcome : Outcome). IsLeft (given c.args.view.now.facts.now c.args.view.now.terms.now.nodes c.args.view.now.classes.now.lists) outcome) c.in-Gap.is c.requires.left in
    let form = simp (to_z-of_z w128 c.in-Gap.floor fits) at c.in_ok-form-in-Gap.ensures in
    gap_verdict (given c.args.view.now.facts.now c.args.view.now.terms.now.nodes c.args.view.now.classes.now.lists) c.requires.ordered c.in-Gap.node c.in-Gap.floor c.in_ok-form-in-Gap.form left.0 left.1 form
