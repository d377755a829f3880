use Rattle.std.proofs.Common.{length}
use Rattle.grind_rules.specs.Rules.{AreTwoNumbers}
use Rattle.grind_closure_steps.proofs.StepLemmas.{IsLeftOver}
use Rattle.grind_closure_steps.proofs.units.numbers.other_number.Given as goal

-- each other number among the nodes is among the rest
abbrev pub invariant-loop-node : goal.invariant-loop-node
invariant-loop-node l = IsLeftOver (AreTwoNumbers l.terms.nodes l.one) l.fn.nodes l.rest

abbrev pub decreases-loop-node : goal.decreases-loop-node
decreases-loop-node l = length l.rest
