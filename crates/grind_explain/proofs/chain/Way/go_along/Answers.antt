use Rattle.std.specs.Prelude.{ℕ}
use Rattle.std.proofs.Common.{subst}
use Rattle.grind_claims.specs.declared.claim.Claim.TheVariants.{Same}
use Rattle.grind_proof_writer.specs.Lines.{Tells}
use Rattle.grind_proof_writer.proofs.LineLemmas.{Appends-through}
use Rattle.grind_explain.proofs.ChainLemmas.{known_here, way_on, no_way_on, IsOnWay-start, IsOnWay-step}
use Rattle.grind_explain.proofs.chain.Way.go_along.Goals as goal

pub loop-place-init : goal.loop-place-init
loop-place-init c =
    let writer = c.args.self.now.writer.now in
    IsOnWay-start writer.lemmas.now writer.goal.now c.args.proof.now c.args.told.now writer.branch c.args.self.now.edges.now
    c.args.places.now c.args.first.now.line c.args.first.now.left c.args.first.now.right c.requires.ready c.requires.lines
    c.requires.first c.requires.known

pub go_on-requires-clause-known : goal.go_on-requires-clause-known
go_on-requires-clause-known c =
    known_here c.args.self.now.edges.now c.loop-place.told c.loop-place.rest.now
    c.in-Some.tail.now c.in-Some.place.now c.in-Some.ensures.cases.0 c.loop-place.invariant.edges_known

pub go_on-requires-clause-passes : goal.go_on-requires-clause-passes
go_on-requires-clause-passes c =
    let on = way_on c.args.self.now.edges.now c.loop-place.rest.now c.in-Some.tail.now c.in-Some.place.now c.loop-place.here
    c.requires.leads.0 c.in-Some.ensures.cases.0 (c.loop-place.invariant.leads c.requires.leads.0 c.requires.leads.1) in
    (on.0, on.1)

pub returns-in_err-next-clause-writes : goal.returns-in_err-next-clause-writes
returns-in_err-next-clause-writes c =
    let writer = c.args.self.now.writer.now in
    Appends-through writer.lemmas.now writer.goal.now c.args.proof.now c.loop-place.proof c.go_on.new.proof writer.branch
    c.loop-place.invariant.appends c.go_on.ensures.writes

pub loop-place-preserved : goal.loop-place-preserved
loop-place-preserved c =
    let writer = c.args.self.now.writer.now in
    IsOnWay-step writer.lemmas.now writer.goal.now c.args.proof.now c.loop-place.proof c.go_on.new.proof c.args.told.now c.loop-place.told
    c.go_on.new.told writer.branch
    c.args.self.now.edges.now c.args.places.now c.args.first.now.right c.requires.leads.0 c.loop-place.rest.now c.in-Some.tail.now
    c.loop-place.number c.in_ok-next.next.line c.args.first.now.left c.loop-place.here c.in_ok-next.next.right c.in-Some.place.now
    c.requires.leads.1 c.in-Some.ensures.cases.0
    c.in_ok-next.ensures.only c.loop-place.invariant c.in_ok-next.ensures.writes c.in_ok-next.ensures.ready c.in_ok-next.ensures.goes
    c.in_ok-next.ensures.lines
    (subst (λ (n : ℕ). Tells c.go_on.new.proof writer.branch c.in_ok-next.next.line (Same n c.in_ok-next.next.right)) c.in_ok-next.ensures.left
    c.in_ok-next.ensures.told)

pub returns-clause-tells : goal.returns-clause-tells
returns-clause-tells c = λ b on.
    subst (λ (n : ℕ). Tells c.loop-place.proof c.args.self.now.writer.now.branch c.loop-place.number (Same c.args.first.now.left n))
    (no_way_on c.args.self.now.edges.now c.loop-place.rest.now c.loop-place.here b c.in_default.ensures.cases (c.loop-place.invariant.leads b on))
    c.loop-place.invariant.tells
