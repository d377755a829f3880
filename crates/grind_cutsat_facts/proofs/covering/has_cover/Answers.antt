use Rattle.std.proofs.Common.{sym, ◌∙◌, refl}
use Rattle.std.proofs.lemmas.Bool.{false≢true}
use Rattle.grind_cutsat_facts.proofs.FactLemmas.{uncovering, covering}
use Rattle.grind_cutsat_facts.proofs.covering.has_cover.Goals as goal

pub returns-then-covers : goal.returns-then-covers
returns-then-covers c = (
  λ _. covering c.args.facts.now c.loop-fact.rest.now c.in-Some.tail.now c.in-Some.fact.now c.args.form.now
      c.in-Some.ensures.cases.0 (c.covers.ensures.0 c.if-covers.true) c.loop-fact.invariant,
  λ _. refl,
)

pub loop-fact-preserved : goal.loop-fact-preserved
loop-fact-preserved c =
    uncovering c.args.facts.now c.loop-fact.rest.now c.in-Some.tail.now c.in-Some.fact.now c.args.form.now
    c.in-Some.ensures.cases.0 (λ it. false≢true (sym c.if-covers.false ∙ c.covers.ensures.1 it)) c.loop-fact.invariant
