use Rattle.grind_ring_units.specs.declared.units.equal_terms.NormalTerm.{NormalTerm}
use Rattle.grind_ring_units.specs.NormalTerms.{AreEqualBySome}
use Rattle.grind_ring_units.proofs.ListLemmas.{passes_begin, passes_here, passes_step, passes_end}
use Rattle.grind_ring_units.proofs.units.equal_terms.equal_to.Goals as goal

pub loop-second-init : goal.loop-second-init
loop-second-init c =
    passes_begin (λ (it : NormalTerm). AreEqualBySome c.args.setting.now.state.now c.args.setting.now.terms.now.nodes c.args.setting.now.classes.now.lists
    c.args.first.now.node it.node)
    c.args.all.now c.as_slice-rest.result.now c.as_slice-rest.ensures.value

pub loop-second-preserved : goal.loop-second-preserved
loop-second-preserved c =
    passes_step (λ (it : NormalTerm). AreEqualBySome c.args.setting.now.state.now c.args.setting.now.terms.now.nodes c.args.setting.now.classes.now.lists
    c.args.first.now.node it.node)
    c.args.all.now c.loop-second.rest.now c.in-Some.second.now c.in-Some.tail.now c.in-Some.ensures.cases.0 c.loop-second.invariant
    (rw c.in_default-found.is at c.in_ok-found.ensures)

pub equal_at-requires-clause-second : goal.equal_at-requires-clause-second
equal_at-requires-clause-second c =
    c.requires.all.only c.in-Some.second.now (passes_here (λ (it : NormalTerm). AreEqualBySome c.args.setting.now.state.now c.args.setting.now.terms.now.nodes c.args.setting.now.classes.now.lists
    c.args.first.now.node it.node)
    c.args.all.now c.loop-second.rest.now c.in-Some.second.now c.in-Some.tail.now c.in-Some.ensures.cases.0 c.loop-second.invariant)

pub returns : goal.returns
returns c =
    passes_end (λ (it : NormalTerm). AreEqualBySome c.args.setting.now.state.now c.args.setting.now.terms.now.nodes c.args.setting.now.classes.now.lists
    c.args.first.now.node it.node)
    c.args.all.now c.loop-second.rest.now c.in_default.ensures.cases c.loop-second.invariant
