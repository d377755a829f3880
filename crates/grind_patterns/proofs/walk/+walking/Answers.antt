use Rattle.std.proofs.Common.{◌+◌, drop}
use Rattle.grind_patterns.specs.Patterns.{IsPatternTerm}
use Rattle.grind_patterns.specs.Walking.{TakesOn, WalksOn, WalksEachOn}
use Rattle.grind_patterns.proofs.Along.{fails, on_ok}
use Rattle.grind_patterns.proofs.CopyLemmas.{drop_at, drop_all}
use Rattle.grind_patterns.proofs.WalkLemmas.{IsWalking-first, IsWalking-next, IsWalking-last, walks_at, walks_inside}
use Rattle.grind_patterns.proofs.walk.+walking.Goals as goal

pub walk_each-loop-scheme-init : goal.walk_each-loop-scheme-init
walk_each-loop-scheme-init t c = IsWalking-first c.args.taken.now c.args.schemes.now

pub walk_each-loop-scheme-preserved : goal.walk_each-loop-scheme-preserved
walk_each-loop-scheme-preserved t c =
    let all = c.args.schemes.now in
    let k = c.loop-scheme.scheme-index in
    let item = c.scheme-item.result in
    IsWalking-next c.args.taken.now all c.loop-scheme.taken (drop k all) (drop (k + 1) all) c.walk.new.taken item
    (drop_at all k item c.loop-scheme-test.true c.scheme-item.is) c.in_ok-walk.ensures c.loop-scheme.invariant

pub walk_each-returns : goal.walk_each-returns
walk_each-returns t c =
    let all = c.args.schemes.now in
    let k = c.loop-scheme.scheme-index in
    IsWalking-last c.args.taken.now all c.loop-scheme.taken (drop k all) (drop_all all k c.loop-scheme-test.false)
    c.loop-scheme.invariant

pub walk-returns-then-is_pattern_term : goal.walk-returns-then-is_pattern_term
walk-returns-then-is_pattern_term t c =
    on_ok c.take.result (TakesOn c.args.taken.now c.args.scheme.now c.take.new.taken)
    (WalksOn c.args.taken.now c.args.scheme.now c.take.new.taken)
    (walks_at c.args.taken.now c.take.new.taken c.in-Apply.head c.in-Apply.sort c.in-Apply.args c.args.scheme.now
    c.in-Apply.is)
    c.take.ensures

pub walk-returns-else-is_pattern_term : goal.walk-returns-else-is_pattern_term
walk-returns-else-is_pattern_term t c =
    let no_pattern = fails c.is_pattern_term.result (IsPatternTerm c.args.scheme.now) c.is_pattern_term.ensures
    c.if-is_pattern_term.false in
    on_ok c.walk_each.result (WalksEachOn c.args.taken.now c.deref.result.now c.walk_each.new.taken)
    (WalksOn c.args.taken.now c.args.scheme.now c.walk_each.new.taken)
    (walks_inside c.args.taken.now c.walk_each.new.taken c.in-Apply.head c.in-Apply.sort c.in-Apply.args
    c.args.scheme.now c.deref.result.now c.in-Apply.is c.deref.ensures.value no_pattern)
    c.walk_each.ensures
