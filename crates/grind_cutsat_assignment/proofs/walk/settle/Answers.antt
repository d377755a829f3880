use Rattle.std.proofs.Common.{rules, FitsSigned}
use Rattle.std.proofs.lemmas.Int.{to_z-of_z}
use Rattle.std.specs.Int.{w128}
use Rattle.grind_cutsat_assignment.proofs.WalkLemmas.{settled_by, stopped_by_gap, stopped_by_post}
use Rattle.grind_cutsat_assignment.proofs.walk.settle.Goals as goal

pub returns-in-Value : goal.returns-in-Value
returns-in-Value c =
    let fits : FitsSigned w128 c.in-Value.value = search rules in
    settled_by c.args.facts.now c.args.number c.new-x.result c.args.values.now c.as_slice.result.now c.as_slice.ensures.value
    c.new-x.ensures c.set.new.self c.in-Value.value (simp (to_z-of_z w128 c.in-Value.value fits) at c.set.ensures) c.in-Value.ensures

pub returns-in-Gap : goal.returns-in-Gap
returns-in-Gap c =
    let fits : FitsSigned w128 c.in-Gap.floor = search rules in
    simp (to_z-of_z w128 c.in-Gap.floor fits)
    (stopped_by_gap c.args.facts.now c.args.number c.new-x.result c.args.values.now c.as_slice.result.now c.as_slice.ensures.value
    c.new-x.ensures c.in-Gap.floor c.in-Gap.ensures)

pub returns-in-Unfit : goal.returns-in-Unfit
returns-in-Unfit c =
    stopped_by_post c.args.facts.now c.args.number c.new-x.result c.args.values.now c.as_slice.result.now c.as_slice.ensures.value
    c.new-x.ensures c.in-Unfit.post c.in-Unfit.ensures
