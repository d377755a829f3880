use Rattle.std.proofs.Common.{◌≡◌, true, Err, IsErrOf, rules}
use Rattle.grind_polynomials.specs.declared.poly.PolyRefusal.TheVariants.{Overflow}
use Rattle.grind_normal_forms.specs.Gathering.{move_with, factors_moved}
use Rattle.grind_normal_forms.proofs.GatherLemmas.{gather_step, gather_fails, gather_end, gather_no_more}
use Rattle.grind_normal_forms.proofs.gathering.moved_factors.Goals as goal

pub returns-in_default-split_first-clause-ok : goal.returns-in_default-split_first-clause-ok
returns-in_default-split_first-clause-ok c =
    gather_no_more (move_with c.args.moving.now) (factors_moved (move_with c.args.moving.now) true c.args.basis.now c.args.list.now) c.loop-b.free c.loop-b.all c.loop-b.elements.now c.loop-b.rest.now c.in_default-split_first.ensures.cases c.loop-b.invariant

pub returns-in_err-moved_factor-clause-overflow : goal.returns-in_err-moved_factor-clause-overflow
returns-in_err-moved_factor-clause-overflow c =
    let leads : IsErrOf c.moved_factor.result Overflow → factors_moved (move_with c.args.moving.now) true c.args.basis.now c.args.list.now ≡ Err Overflow = λ e.
    gather_fails (move_with c.args.moving.now) (factors_moved (move_with c.args.moving.now) true c.args.basis.now c.args.list.now) c.loop-b.free c.loop-b.all c.loop-b.elements.now c.loop-b.rest.now c.in-Some.b.now c.in-Some-split_first.q.now c.in-Some.others.now c.in-Some-split_first.tail.now
    c.in-Some.ensures.cases.0 c.in-Some-split_first.ensures.cases.0 c.loop-b.invariant c.hits-hit.result c.hits-hit.ensures Overflow (c.moved_factor.ensures.overflow e) in search rules

pub loop-b-preserved : goal.loop-b-preserved
loop-b-preserved c =
    gather_step (move_with c.args.moving.now) (factors_moved (move_with c.args.moving.now) true c.args.basis.now c.args.list.now) c.loop-b.free c.loop-b.all c.loop-b.elements.now c.loop-b.rest.now c.in-Some.b.now c.in-Some-split_first.q.now c.in-Some.others.now c.in-Some-split_first.tail.now
    c.in-Some.ensures.cases.0 c.in-Some-split_first.ensures.cases.0 c.loop-b.invariant c.hits-hit.result c.hits-hit.ensures c.in_ok-moved_factor.field-0 c.push.new.self c.stays_free-free.result c.in_ok-moved_factor.ensures.ok c.in_ok-push.ensures.ok
    c.stays_free-free.ensures

pub returns-clause-ok : goal.returns-clause-ok
returns-clause-ok c =
    gather_end (move_with c.args.moving.now) (factors_moved (move_with c.args.moving.now) true c.args.basis.now c.args.list.now) c.loop-b.free c.loop-b.all c.loop-b.elements.now c.loop-b.rest.now c.in_default.ensures.cases c.loop-b.invariant
