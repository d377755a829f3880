use Rattle.std.proofs.Common.{List, Bool, ℤ, length, refl, sym, subst}
use Rattle.grind_cutsat_assignment.specs.Given.{Given, given}
use Rattle.grind_cutsat_assignment.specs.Assignments.{IsOutcome}
use Rattle.grind_cutsat_assignment.specs.Collecting.{AreCollected}
use Rattle.grind_cutsat_assignment.specs.Courses.{IsWalk}
use Rattle.grind_cutsat_assignment.specs.Judgements.{SaysOf, NoneSaysOf, AreUnfit, AreEqual}
use Rattle.grind_cutsat_assignment.specs.declared.outcome.Outcome.{Outcome}
use Rattle.grind_cutsat_assignment.specs.declared.walk.Walk.{Walk}
use Rattle.grind_cutsat_bounds.specs.Evaluations.{value_of}
use Rattle.grind_cutsat_assignment.proofs.AssignLemmas.{walk_is_outcome, unfit_is_outcome, equal_is_outcome, list_is_outcome}
use Rattle.grind_cutsat_assignment.proofs.assignment.outcome_of.Goals as goal

pub returns-in-Stopped-clause-outcome : goal.returns-in-Stopped-clause-outcome
returns-in-Stopped-clause-outcome c =
    let it : Given = given c.args.facts.now c.args.terms.now.nodes c.args.classes.now.lists in
    let walked = subst (λ (marks : List Bool). IsWalk c.args.facts.now marks c.in_ok-values.field-0) c.as_slice.ensures.value
    c.in_ok-values.ensures in
    let stopped = subst (λ (walk : Walk). IsWalk c.args.facts.now c.in_ok-marks.marks walk) c.in-Stopped.is walked in
    subst (λ (outcome : Outcome). IsOutcome it outcome) (sym c.stopped.ensures)
    (walk_is_outcome it c.in_ok-marks.marks c.in_ok-marks.ensures.marks c.requires.within c.in-Stopped.stop stopped)

pub returns-in-Some-clause-outcome : goal.returns-in-Some-clause-outcome
returns-in-Some-clause-outcome c =
    let it : Given = given c.args.facts.now c.args.terms.now.nodes c.args.classes.now.lists in
    let walked = subst (λ (marks : List Bool). IsWalk c.args.facts.now marks c.in_ok-values.field-0) c.as_slice.ensures.value
    c.in_ok-values.ensures in
    let settled = subst (λ (walk : Walk). IsWalk c.args.facts.now c.in_ok-marks.marks walk) c.in-Values.is walked in
    unfit_is_outcome it c.in_ok-marks.marks c.in_ok-marks.ensures.marks c.requires.within (value_of c.in-Values.values) settled
    c.in-Some.post
    (subst (λ (values : List ℤ). SaysOf c.args.facts.now c.args.terms.now.nodes (AreUnfit c.args.terms.now.nodes (value_of values))
    c.in-Some.post) c.as_slice-2.ensures.value c.in-Some.ensures.found)

pub returns-in-Some-first_equal-clause-outcome : goal.returns-in-Some-first_equal-clause-outcome
returns-in-Some-first_equal-clause-outcome c =
    let it : Given = given c.args.facts.now c.args.terms.now.nodes c.args.classes.now.lists in
    let walked = subst (λ (marks : List Bool). IsWalk c.args.facts.now marks c.in_ok-values.field-0) c.as_slice.ensures.value
    c.in_ok-values.ensures in
    let settled = subst (λ (walk : Walk). IsWalk c.args.facts.now c.in_ok-marks.marks walk) c.in-Values.is walked in
    equal_is_outcome it c.in_ok-marks.marks c.in_ok-marks.ensures.marks c.requires.within (value_of c.in-Values.values) settled
    c.in-Some-first_equal.post
    (subst (λ (values : List ℤ). SaysOf c.args.facts.now c.args.terms.now.nodes (AreEqual c.args.terms.now.nodes (value_of values))
    c.in-Some-first_equal.post) c.as_slice-3.ensures.value c.in-Some-first_equal.ensures.found)

pub returns-clause-outcome : goal.returns-clause-outcome
returns-clause-outcome c =
    let it : Given = given c.args.facts.now c.args.terms.now.nodes c.args.classes.now.lists in
    let walked = subst (λ (marks : List Bool). IsWalk c.args.facts.now marks c.in_ok-values.field-0) c.as_slice.ensures.value
    c.in_ok-values.ensures in
    let settled = subst (λ (walk : Walk). IsWalk c.args.facts.now c.in_ok-marks.marks walk) c.in-Values.is walked in
    let fit = subst (λ (values : List ℤ). NoneSaysOf c.args.facts.now c.args.terms.now.nodes
    (AreUnfit c.args.terms.now.nodes (value_of values))) c.as_slice-2.ensures.value (c.in_default.ensures.none refl) in
    let unequal = subst (λ (values : List ℤ). NoneSaysOf c.args.facts.now c.args.terms.now.nodes
    (AreEqual c.args.terms.now.nodes (value_of values))) c.as_slice-3.ensures.value (c.in_default-first_equal.ensures.none refl) in
    let by_marks = subst (λ (marks : List Bool). AreCollected marks (value_of c.as_slice-5.result.now) (length marks) c.in_ok-list.list)
    c.as_slice-4.ensures.value c.in_ok-list.ensures in
    let all = subst (λ (values : List ℤ). AreCollected c.in_ok-marks.marks (value_of values) (length c.in_ok-marks.marks) c.in_ok-list.list)
    c.as_slice-5.ensures.value by_marks in
    list_is_outcome it c.in_ok-marks.marks c.in_ok-marks.ensures.marks c.requires.within (value_of c.in-Values.values) settled
    c.in_ok-list.list all c.in_ok-marks.ensures.forms fit unequal
