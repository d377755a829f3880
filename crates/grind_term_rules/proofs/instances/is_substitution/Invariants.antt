use Rattle.std.proofs.Common.{◌↔◌, length}
use Rattle.grind_schemes.specs.Instances.{IsSubstitution}
use Rattle.grind_term_rules.proofs.instances.is_substitution.Given as goal

-- what is left says the same as the whole
abbrev pub invariant-loop-node : goal.invariant-loop-node
invariant-loop-node l =
    IsSubstitution l.fn.terms.nodes l.sorts l.nodes ↔ IsSubstitution l.fn.terms.nodes l.fn.vars l.fn.subst

abbrev pub decreases-loop-node : goal.decreases-loop-node
decreases-loop-node l = length l.nodes
