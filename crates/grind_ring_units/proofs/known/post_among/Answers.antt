use Rattle.std.proofs.Common.{◌≡◌, sym, ◌∙◌, refl}
use Rattle.std.proofs.lemmas.Bool.{false≢true}
use Rattle.grind_ring_basis.specs.declared.types.Fact.{Fact}
use Rattle.grind_ring_units.proofs.ListLemmas.{passes_begin, passes_step}
use Rattle.grind_ring_units.proofs.ZeroedLemmas.{listed_here, listed_nowhere}
use Rattle.grind_ring_units.proofs.known.post_among.Goals as goal

pub loop-it-init : goal.loop-it-init
loop-it-init c = passes_begin (λ (it : Fact). it.poly ≡ c.args.poly.now) c.args.facts.now c.args.facts.now refl

pub loop-it-preserved : goal.loop-it-preserved
loop-it-preserved c =
    passes_step (λ (it : Fact). it.poly ≡ c.args.poly.now) c.args.facts.now c.loop-it.rest.now c.in-Some.it.now c.in-Some.tail.now
    c.in-Some.ensures.cases.0 c.loop-it.invariant (λ same. false≢true (sym c.if-is_same_poly.false ∙ c.is_same_poly.ensures.1 same))

pub returns-then-is_same_poly : goal.returns-then-is_same_poly
returns-then-is_same_poly c =
    listed_here c.args.facts.now c.loop-it.rest.now c.args.poly.now c.loop-it.invariant c.in-Some.it.now c.in-Some.tail.now
    c.in-Some.ensures.cases.0 (c.is_same_poly.ensures.0 c.if-is_same_poly.true)

pub returns : goal.returns
returns c =
    listed_nowhere c.args.facts.now c.loop-it.rest.now c.args.poly.now c.loop-it.invariant c.in_default.ensures.cases
