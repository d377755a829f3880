use Rattle.grind_ring_units.specs.NormalTerms.{AreNormalTerms}
use Rattle.grind_ring_units.proofs.units.equal_terms.normal_terms.Given as goal

abbrev pub invariant-loop-number : goal.invariant-loop-number
invariant-loop-number l = AreNormalTerms l.setting.state.now l.setting.terms.now.nodes l.setting.classes.now.lists l.number l.all
