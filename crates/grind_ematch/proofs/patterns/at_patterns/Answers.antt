use Rattle.grind_ematch.specs.Partials.{Joins}
use Rattle.grind_ematch.proofs.ListLemmas.{patterns_first}
use Rattle.grind_ematch.proofs.WaitingLemmas.{AreJoined-first, AreJoined-next, AreJoined-last, fewer_wait}
use Rattle.grind_ematch.proofs.patterns.at_patterns.Goals as goal

pub loop-list-init : goal.loop-list-init
loop-list-init c =
    AreJoined-first c.args.query.now c.args.patterns.now c.in_ok-waiting.waiting c.in_ok-found.found c.in_ok-waiting.ensures
    (patterns_first c.args.query.now c.in_ok-found.found c.in_ok-found.ensures)

pub loop-list-preserved : goal.loop-list-preserved
loop-list-preserved c =
    let joins : Joins c.loop-list.found c.in-Some.list c.in_ok-both.both =
    rw (← c.as_slice-in-Some.ensures.value) c.in_ok-both.ensures in
    AreJoined-next c.args.query.now c.args.patterns.now c.loop-list.waiting c.take_next.new.waiting c.loop-list.found
    c.in-Some.list c.in_ok-both.both c.in_ok-found-2.found c.vars-vars.ensures.keeps.partition c.in-Some.ensures joins
    c.in_ok-found-2.ensures c.loop-list.invariant

pub returns : goal.returns
returns c =
    AreJoined-last c.args.query.now c.args.patterns.now c.loop-list.waiting c.loop-list.found c.in_default.ensures
    c.loop-list.invariant

pub loop-list-smaller : goal.loop-list-smaller
loop-list-smaller c = fewer_wait c.loop-list.waiting c.take_next.new.waiting c.in-Some.list c.in-Some.ensures
