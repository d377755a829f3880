use Rattle.grind_truth_prop.specs.Pairs.{FindsFirst}
use Rattle.indexmap.specs.IndexMap.{get}
use Rattle.grind_truth_prop.specs.Pairs.{couple_eq}
use Rattle.grind_truth_prop.proofs.pairs.places_of.Given as goal

abbrev pub invariant-loop-i : goal.invariant-loop-i
invariant-loop-i l = FindsFirst (λ pair. get couple_eq l.places pair) l.pairs l.i
