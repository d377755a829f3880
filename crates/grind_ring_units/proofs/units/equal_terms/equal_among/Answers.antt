use Rattle.grind_ring_units.specs.declared.units.equal_terms.NormalTerm.{NormalTerm}
use Rattle.grind_ring_units.specs.NormalTerms.{NoneAmong}
use Rattle.grind_ring_units.proofs.ListLemmas.{passes_begin, passes_here, passes_step, passes_end}
use Rattle.grind_ring_units.proofs.EqualLemmas.{no_equal_terms}
use Rattle.grind_ring_units.proofs.units.equal_terms.equal_among.Goals as goal

pub loop-first-init : goal.loop-first-init
loop-first-init c =
    passes_begin (λ (it : NormalTerm). ¬ NoneAmong c.args.setting.now.state.now c.args.setting.now.terms.now.nodes c.args.setting.now.classes.now.lists
    it.node c.args.all.now)
    c.args.all.now c.as_slice-rest.result.now c.as_slice-rest.ensures.value

pub loop-first-preserved : goal.loop-first-preserved
loop-first-preserved c =
    passes_step (λ (it : NormalTerm). ¬ NoneAmong c.args.setting.now.state.now c.args.setting.now.terms.now.nodes c.args.setting.now.classes.now.lists
    it.node c.args.all.now)
    c.args.all.now c.loop-first.rest.now c.in-Some.first.now c.in-Some.tail.now c.in-Some.ensures.cases.0 c.loop-first.invariant
    (λ some. some (rw c.in_default-found.is at c.in_ok-found.ensures))

pub equal_to-requires-clause-first : goal.equal_to-requires-clause-first
equal_to-requires-clause-first c =
    c.requires.all.only c.in-Some.first.now (passes_here (λ (it : NormalTerm). ¬ NoneAmong c.args.setting.now.state.now c.args.setting.now.terms.now.nodes c.args.setting.now.classes.now.lists
    it.node c.args.all.now)
    c.args.all.now c.loop-first.rest.now c.in-Some.first.now c.in-Some.tail.now c.in-Some.ensures.cases.0 c.loop-first.invariant)

pub returns : goal.returns
returns c =
    no_equal_terms c.args.setting.now.state.now c.args.setting.now.terms.now.nodes c.args.setting.now.classes.now.lists
    c.args.all.now c.requires.all (passes_end (λ (it : NormalTerm). ¬ NoneAmong c.args.setting.now.state.now c.args.setting.now.terms.now.nodes c.args.setting.now.classes.now.lists
    it.node c.args.all.now)
    c.args.all.now c.loop-first.rest.now c.in_default.ensures.cases c.loop-first.invariant)
