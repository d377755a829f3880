use Rattle.std.proofs.Common.{ℕ, FitsSigned, rules, refl}
use Rattle.std.specs.Int.{w128}
use Rattle.std.proofs.lemmas.Int.{to_z-of_z}
use Rattle.grind_cutsat_cuts.proofs.DivisorLemmas.{shared_begin, shared_step, shared_end}
use Rattle.grind_cutsat_cuts.proofs.divisor.shared.Goals as goal

pub loop-part-init : goal.loop-part-init
loop-part-init c = let none : ℕ = 0 in shared_begin c.args.parts.now c.args.parts.now none refl refl

pub loop-part-preserved : goal.loop-part-preserved
loop-part-preserved c =
    let fits : FitsSigned w128 c.in-Some.part.now.coefficient = search rules in
    let size = simp (to_z-of_z w128 c.in-Some.part.now.coefficient fits) at c.size.ensures in
    shared_step c.args.parts.now c.loop-part.rest.now c.in-Some.tail.now c.in-Some.part.now c.loop-part.all c.size.result c.gcd-all.result
    c.in-Some.ensures.cases.0 size c.gcd-all.ensures c.loop-part.invariant

pub returns : goal.returns
returns c = shared_end c.args.parts.now c.loop-part.rest.now c.loop-part.all c.in_default.ensures.cases c.loop-part.invariant
