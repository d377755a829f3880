use Rattle.std.proofs.Common.{drop, ◌↔◌}
use Rattle.grind_term_rules.specs.Instances.{AreInstancesOf}
use Rattle.grind_term_rules.proofs.instances.+matching.Given as goal

-- what is left says the same as the whole
abbrev pub invariant-are_instances-loop-scheme : goal.invariant-are_instances-loop-scheme
invariant-are_instances-loop-scheme l =
    AreInstancesOf l.fn.terms.nodes l.fn.subst l.fn.schemes l.fn.ids
    ↔ AreInstancesOf l.fn.terms.nodes l.fn.subst (drop l.scheme-index l.fn.schemes) l.rest
