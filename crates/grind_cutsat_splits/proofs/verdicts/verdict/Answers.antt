use Rattle.std.proofs.Common.{List, sym, subst}
use Rattle.grind_cutsat_facts.specs.declared.facts.Fact.{Fact}
use Rattle.grind_cutsat_assignment.specs.Given.{given, Fits}
use Rattle.grind_cutsat_assignment.specs.Assignments.{IsOutcome, IsFailure, NoAssignment}
use Rattle.grind_cutsat_assignment.proofs.AssignLemmas.{atom_within}
use Rattle.grind_cutsat_splits.specs.Alone.{AreBoundsOf}
use Rattle.grind_cutsat_splits.proofs.VerdictLemmas.{bounds_fit, left_by}
use Rattle.grind_cutsat_splits.proofs.verdicts.verdict.Goals as goal

pub assign-requires : goal.assign-requires
assign-requires c =
    let are = subst (λ (facts : List Fact). AreBoundsOf facts c.in_ok-bounds.bounds) c.as_slice.ensures.value c.in_ok-bounds.ensures in
    subst (λ (bounds : List Fact). Fits (given bounds c.args.view.now.terms.now.nodes c.args.view.now.classes.now.lists))
    (sym c.as_slice-2.ensures.value)
    (bounds_fit (given c.args.view.now.facts.now c.args.view.now.terms.now.nodes c.args.view.now.classes.now.lists) c.in_ok-bounds.bounds are c.requires)

pub told-requires-clause-ordered : goal.told-requires-clause-ordered
told-requires-clause-ordered c =
    let are = subst (λ (facts : List Fact). AreBoundsOf facts c.in_ok-bounds.bounds) c.as_slice.ensures.value c.in_ok-bounds.ensures in
    record {
      forms = are.forms;
      constants = are.constants;
      within = atom_within (given c.args.view.now.facts.now c.args.view.now.terms.now.nodes c.args.view.now.classes.now.lists) c.requires c.readings_name_numbers.ensures c.len-count.ensures.table;
    }

pub told-requires-clause-left : goal.told-requires-clause-left
told-requires-clause-left c =
    let are = subst (λ (facts : List Fact). AreBoundsOf facts c.in_ok-bounds.bounds) c.as_slice.ensures.value c.in_ok-bounds.ensures in
    left_by (given c.args.view.now.facts.now c.args.view.now.terms.now.nodes c.args.view.now.classes.now.lists) c.in_ok-bounds.bounds are c.in_ok-outcome.outcome
    (subst (λ (bounds : List Fact). IsOutcome (given bounds c.args.view.now.terms.now.nodes c.args.view.now.classes.now.lists) c.in_ok-outcome.outcome)
    c.as_slice-2.ensures.value c.in_ok-outcome.ensures.outcome)
    (subst (λ (bounds : List Fact). IsFailure c.in_ok-outcome.outcome → NoAssignment (given bounds c.args.view.now.terms.now.nodes c.args.view.now.classes.now.lists))
    c.as_slice-2.ensures.value c.in_ok-outcome.ensures.none)
