use Rattle.std.proofs.Common.{[], List, take, sym, subst, refl}
use Rattle.grind_schemes.specs.declared.scheme.Scheme.{Scheme}
use Rattle.grind_ematch.specs.Waiting.{Places, AllWait}
use Rattle.grind_ematch.proofs.Along.{take_next, take_whole}
use Rattle.grind_ematch.proofs.WaitingLemmas.{AllWait-push}
use Rattle.grind_ematch.proofs.patterns.at_each.Goals as goal

pub loop-pattern-init : goal.loop-pattern-init
loop-pattern-init c =
    subst (λ (places : Places). AllWait c.args.query.now [] places) (sym c.new-lists.ensures) (tt, refl)

pub loop-pattern-preserved : goal.loop-pattern-preserved
loop-pattern-preserved c =
    let k = c.loop-pattern.pattern-index in
    let item = c.pattern-item.result in
    subst (λ (xs : List Scheme). AllWait c.args.query.now xs c.push.new.self)
    (sym (take_next c.args.patterns.now k item c.loop-pattern-test.true c.pattern-item.is))
    (AllWait-push c.args.query.now (take k c.args.patterns.now) c.loop-pattern.lists c.push.new.self item c.in_ok-list.list
    c.loop-pattern.invariant c.in_ok-list.ensures c.in_ok-push.ensures.ok)

pub returns : goal.returns
returns c =
    subst (λ (xs : List Scheme). AllWait c.args.query.now xs c.loop-pattern.lists)
    (take_whole c.args.patterns.now c.loop-pattern.pattern-index c.loop-pattern-test.false) c.loop-pattern.invariant
