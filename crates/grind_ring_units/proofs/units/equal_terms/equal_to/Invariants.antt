use Rattle.std.specs.Prelude.{length}
use Rattle.grind_ring_units.specs.declared.units.equal_terms.NormalTerm.{NormalTerm}
use Rattle.grind_ring_units.specs.NormalTerms.{AreEqualBySome}
use Rattle.grind_ring_units.proofs.ListLemmas.{Passes}
use Rattle.grind_ring_units.proofs.units.equal_terms.equal_to.Given as goal

abbrev pub invariant-loop-second : goal.invariant-loop-second
invariant-loop-second l =
    Passes NormalTerm (λ (it : NormalTerm). AreEqualBySome l.setting.state.now l.setting.terms.now.nodes l.setting.classes.now.lists l.first.node it.node)
    l.fn.all l.rest

abbrev pub decreases-loop-second : goal.decreases-loop-second
decreases-loop-second l = length l.rest
