use Rattle.std.specs.Prelude.{ℕ}
use Rattle.std.proofs.Common.{subst}
use Rattle.grind_claims.specs.declared.claim.Claim.TheVariants.{Same}
use Rattle.grind_proof_writer.specs.Lines.{Tells}
use Rattle.grind_proof_writer.proofs.LineLemmas.{Appends-through}
use Rattle.grind_explain.proofs.NotedLemmas.{Goes-through, Goes-weaker}
use Rattle.grind_explain.proofs.ChainLemmas.{known_here, known_after, way_on, leads_after, no_way_on, of_way_none, of_way_first, of_way_after}
use Rattle.grind_explain.proofs.chain.Way.chain.Goals as goal

pub returns-in_default-clause-tells : goal.returns-in_default-clause-tells
returns-in_default-clause-tells c = λ b on.
    let branch : ℕ = c.args.self.now.writer.now.branch in
    subst (λ (n : ℕ). Tells c.itself.new.proof branch c.in_ok-number.number (Same c.args.a n))
    (no_way_on c.args.self.now.edges.now c.args.places.now c.args.a b c.in_default.ensures.cases on)
    c.in_ok-number.ensures.tells

pub passed-requires-clause-known : goal.passed-requires-clause-known
passed-requires-clause-known c =
    known_here c.args.self.now.edges.now c.args.told.now c.args.places.now c.in-Some.tail.now c.in-Some.place.now c.in-Some.ensures.cases.0
    c.requires.known

pub passed-requires-clause-passes : goal.passed-requires-clause-passes
passed-requires-clause-passes c =
    let on = way_on c.args.self.now.edges.now c.args.places.now c.in-Some.tail.now c.in-Some.place.now c.args.a c.requires.leads.0
    c.in-Some.ensures.cases.0 c.requires.leads.1 in
    (on.0, on.1)

pub go_along-requires-clause-known : goal.go_along-requires-clause-known
go_along-requires-clause-known c =
    known_after c.args.self.now.edges.now c.args.told.now c.passed.new.told c.args.places.now c.in-Some.tail.now c.in-Some.place.now
    c.in-Some.ensures.cases.0 c.in_ok-first.ensures.goes.keeps c.requires.known

pub go_along-requires-clause-leads : goal.go_along-requires-clause-leads
go_along-requires-clause-leads c = (
  c.requires.leads.0,
  leads_after c.args.self.now.edges.now c.args.places.now c.in-Some.tail.now c.in-Some.place.now c.args.a c.in_ok-first.first.right
      c.requires.leads.0 c.in-Some.ensures.cases.0 c.in_ok-first.ensures.only c.requires.leads.1,
)

pub returns-clause-tells : goal.returns-clause-tells
returns-clause-tells c = λ b on.
    subst (λ (n : ℕ). Tells c.go_along.new.proof c.args.self.now.writer.now.branch c.in_ok-last.last (Same n b)) c.in_ok-first.ensures.left
    (c.in_ok-last.ensures.tells b
    (leads_after c.args.self.now.edges.now c.args.places.now c.in-Some.tail.now c.in-Some.place.now c.args.a c.in_ok-first.first.right b
    c.in-Some.ensures.cases.0 c.in_ok-first.ensures.only on))

pub returns-in_err-last-clause-writes : goal.returns-in_err-last-clause-writes
returns-in_err-last-clause-writes c =
    let writer = c.args.self.now.writer.now in
    Appends-through writer.lemmas.now writer.goal.now c.args.proof.now c.passed.new.proof c.go_along.new.proof writer.branch
    c.passed.ensures.writes c.go_along.ensures.writes

pub returns-clause-writes : goal.returns-clause-writes
returns-clause-writes c =
    let writer = c.args.self.now.writer.now in
    Appends-through writer.lemmas.now writer.goal.now c.args.proof.now c.passed.new.proof c.go_along.new.proof writer.branch
    c.passed.ensures.writes c.go_along.ensures.writes

pub returns-in_default-clause-goes : goal.returns-in_default-clause-goes
returns-in_default-clause-goes c =
    Goes-weaker c.args.proof.now c.itself.new.proof c.args.told.now c.itself.new.told
    (λ x y h. of_way_none c.args.self.now.edges.now c.args.places.now c.args.a x y c.in_default.ensures.cases h) c.in_ok-number.ensures.goes

pub returns-clause-goes : goal.returns-clause-goes
returns-clause-goes c =
    let edges = c.args.self.now.edges.now in
    let on = way_on edges c.args.places.now c.in-Some.tail.now c.in-Some.place.now c.args.a c.requires.leads.0 c.in-Some.ensures.cases.0 c.requires.leads.1 in
    Goes-through c.args.proof.now c.passed.new.proof c.go_along.new.proof c.args.told.now c.passed.new.told c.go_along.new.told
    (Goes-weaker c.args.proof.now c.passed.new.proof c.args.told.now c.passed.new.told
    (λ x y h. of_way_first edges c.args.places.now c.in-Some.tail.now c.in-Some.place.now c.args.a x y c.in-Some.ensures.cases.0 h)
    c.in_ok-first.ensures.goes)
    (Goes-weaker c.passed.new.proof c.go_along.new.proof c.passed.new.told c.go_along.new.told
    (λ x y h. of_way_after edges c.args.places.now c.in-Some.tail.now c.in-Some.place.now c.args.a on.0 c.in_ok-first.first.left
    c.in_ok-first.first.right x y c.in-Some.ensures.cases.0 on.1 c.in_ok-first.ensures.left (c.in_ok-first.ensures.only on.0 on.1) h)
    c.in_ok-last.ensures.goes)
