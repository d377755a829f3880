use Rattle.std.proofs.Common.{◌≡◌, refl, sym, ◌∙◌}
use Rattle.std.proofs.lemmas.Bool.{false≢true}
use Rattle.grind_ring_units.specs.declared.types.Equality.{Equality}
use Rattle.grind_ring_units.specs.Given.{equality}
use Rattle.grind_ring_units.proofs.ListLemmas.{passes_begin, passes_here, passes_step, passes_end}
use Rattle.grind_ring_units.proofs.EqualLemmas.{taken_here}
use Rattle.grind_ring_units.proofs.units.equal_terms.is_taken_as_equal.Goals as goal

pub loop-it-init : goal.loop-it-init
loop-it-init c =
    passes_begin (λ (it : Equality). (it.left ≡ c.args.a) × (it.right ≡ c.args.b)) c.args.state.now.equalities c.as_slice-rest.result.now
    c.as_slice-rest.ensures.value

pub loop-it-preserved : goal.loop-it-preserved
loop-it-preserved c =
    passes_step (λ (it : Equality). (it.left ≡ c.args.a) × (it.right ≡ c.args.b)) c.args.state.now.equalities c.loop-it.rest.now c.in-Some.it.now c.in-Some.tail.now
    c.in-Some.ensures.cases.0 c.loop-it.invariant (λ sides. false≢true (sym c.if-is_between.false ∙ c.is_between.ensures.1 sides))

pub returns-then-is_between : goal.returns-then-is_between
returns-then-is_between c = (
  λ _. taken_here c.args.state.now c.in-Some.it.now c.args.a c.args.b
      (passes_here (λ (it : Equality). (it.left ≡ c.args.a) × (it.right ≡ c.args.b)) c.args.state.now.equalities c.loop-it.rest.now c.in-Some.it.now c.in-Some.tail.now
      c.in-Some.ensures.cases.0 c.loop-it.invariant)
      (c.is_between.ensures.0 c.if-is_between.true),
  λ _. refl,
)

pub returns : goal.returns
returns c = (
  λ yes. absurd (false≢true yes),
  λ taken. absurd (passes_end (λ (it : Equality). (it.left ≡ c.args.a) × (it.right ≡ c.args.b)) c.args.state.now.equalities c.loop-it.rest.now c.in_default.ensures.cases c.loop-it.invariant
      (equality taken.0 c.args.a c.args.b) taken.1 (refl, refl)),
)
