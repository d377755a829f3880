use Rattle.std.proofs.Common.{◌∷◌, true≢false, sym}
use Rattle.grind_claims.specs.Claims.{claims_of}
use Rattle.grind_truth_tables.proofs.NeededLemmas.{covering_begins, covering_goes_on, covering_ends, set_falls, none_left}
use Rattle.grind_truth_tables.proofs.needed.needed.Goals as goal

pub loop-number-init : goal.loop-number-init
loop-number-init c =
    covering_begins c.args.terms.now.nodes c.args.free.now (c.args.claim.now ∷ claims_of c.args.premises.now)
    c.new-order.result c.in_ok-pending.pending.keys c.new-order.ensures c.in_ok-pending.ensures

pub loop-number-preserved : goal.loop-number-preserved
loop-number-preserved c =
    covering_goes_on c.args.terms.now.nodes c.args.free.now (c.args.claim.now ∷ claims_of c.args.premises.now)
    c.loop-number.order c.push.new.self c.loop-number.pending.keys c.pop_last.new.self.keys c.ask.new.pending.keys c.in-Some.number
    c.in-Some.ensures.removal c.in-Some.ensures.all_below (rw c.new-node.ensures at c.in_ok-push.ensures.ok)
    (rw c.new-node.ensures at c.in_ok-ask.ensures) c.loop-number.invariant

pub loop-number-smaller : goal.loop-number-smaller
loop-number-smaller c =
    set_falls c.args.terms.now.nodes c.args.free.now c.loop-number.pending.keys c.pop_last.new.self.keys c.ask.new.pending.keys
    c.in-Some.number c.in-Some.ensures.removal c.in-Some.ensures.all_below (rw c.new-node.ensures at c.in_ok-ask.ensures)

pub returns-clause-contained : goal.returns-clause-contained
returns-clause-contained c =
    let none = none_left c.loop-number.pending.keys (λ some. true≢false (sym (c.in_default.ensures.variant.1 some))) in
    (covering_ends c.args.terms.now.nodes c.args.free.now (c.args.claim.now ∷ claims_of c.args.premises.now)
    c.loop-number.order c.loop-number.pending.keys none c.loop-number.invariant).0

pub returns-clause-named : goal.returns-clause-named
returns-clause-named c =
    let none = none_left c.loop-number.pending.keys (λ some. true≢false (sym (c.in_default.ensures.variant.1 some))) in
    (covering_ends c.args.terms.now.nodes c.args.free.now (c.args.claim.now ∷ claims_of c.args.premises.now)
    c.loop-number.order c.loop-number.pending.keys none c.loop-number.invariant).1
