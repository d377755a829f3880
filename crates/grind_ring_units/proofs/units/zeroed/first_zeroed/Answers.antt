use Rattle.std.proofs.Common.{sym, ◌∙◌, refl}
use Rattle.std.proofs.lemmas.Bool.{false≢true}
use Rattle.grind_ring_units.specs.declared.types.Equality.{Equality}
use Rattle.grind_ring_units.specs.Zeroed.{LacksZero}
use Rattle.grind_ring_units.proofs.ListLemmas.{passes_begin, passes_here, passes_step, passes_end}
use Rattle.grind_ring_units.proofs.units.zeroed.first_zeroed.Goals as goal

pub loop-it-init : goal.loop-it-init
loop-it-init c =
    passes_begin (λ (it : Equality). LacksZero c.args.state.now c.args.terms.now.nodes it) c.args.state.now.equalities c.as_slice-rest.result.now
    c.as_slice-rest.ensures.value

pub loop-it-preserved : goal.loop-it-preserved
loop-it-preserved c =
    passes_step (λ (it : Equality). LacksZero c.args.state.now c.args.terms.now.nodes it) c.args.state.now.equalities c.loop-it.rest.now
    c.in-Some.it.now c.in-Some.tail.now c.in-Some.ensures.cases.0 c.loop-it.invariant
    (λ has. false≢true (sym c.if-lacks.false ∙ c.in_ok-lacks.ensures.1 has))

pub returns-then-lacks : goal.returns-then-lacks
returns-then-lacks c = (
  c.in-Some.it.now,
  passes_here (λ (it : Equality). LacksZero c.args.state.now c.args.terms.now.nodes it) c.args.state.now.equalities c.loop-it.rest.now
      c.in-Some.it.now c.in-Some.tail.now c.in-Some.ensures.cases.0 c.loop-it.invariant,
  refl,
  c.in_ok-lacks.ensures.0 c.if-lacks.true,
)

pub returns : goal.returns
returns c =
    passes_end (λ (it : Equality). LacksZero c.args.state.now c.args.terms.now.nodes it) c.args.state.now.equalities c.loop-it.rest.now
    c.in_default.ensures.cases c.loop-it.invariant
