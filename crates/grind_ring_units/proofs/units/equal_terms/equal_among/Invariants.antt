use Rattle.std.specs.Prelude.{length}
use Rattle.grind_ring_units.specs.declared.units.equal_terms.NormalTerm.{NormalTerm}
use Rattle.grind_ring_units.specs.NormalTerms.{NoneAmong}
use Rattle.grind_ring_units.proofs.ListLemmas.{Passes}
use Rattle.grind_ring_units.proofs.units.equal_terms.equal_among.Given as goal

abbrev pub invariant-loop-first : goal.invariant-loop-first
invariant-loop-first l =
    Passes NormalTerm (λ (it : NormalTerm). ¬ NoneAmong l.setting.state.now l.setting.terms.now.nodes l.setting.classes.now.lists it.node l.fn.all)
    l.fn.all l.rest

abbrev pub decreases-loop-first : goal.decreases-loop-first
decreases-loop-first l = length l.rest
