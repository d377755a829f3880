use Rattle.grind_congruence.proofs.LegLemmas.{taken_pass, taken_same, taken_split, same_of}
use Rattle.grind_congruence.proofs.legs.take_leg.Goals as goal

pub returns-then-eq : goal.returns-then-eq
returns-then-eq c =
    rw c.in-Between.is
    (taken_same c.args._edges.now c.args.forest.now c.args.legs.now c.in-Between.a c.in-Between.b c.args.way.now
    (same_of c.in-Between.a c.in-Between.b c.if-eq.ensures) c.requires.legs)

pub returns-in_ok-push-in-Pass : goal.returns-in_ok-push-in-Pass
returns-in_ok-push-in-Pass c =
    rw (c.in-Pass.is, c.in_ok-push-in-Pass.ensures.ok)
    (taken_pass c.args._edges.now c.args.forest.now c.args.legs.now c.in-Pass.place c.args.way.now c.requires.legs)

pub returns-in_ok-push-in-Between-3 : goal.returns-in_ok-push-in-Between-3
returns-in_ok-push-in-Between-3 c =
    rw (c.in-Between.is, c.in_ok-push-in-Between-3.ensures.ok, c.in_ok-push-in-Between-2.ensures.ok, c.in_ok-push-in-Between.ensures.ok)
    (taken_split c.args._edges.now c.args.forest.now c.args.legs.now c.in-Between.a c.in-Between.b c.split_of-split.result.place
    c.split_of-split.result.near c.split_of-split.result.far c.args.way.now c.requires.edges c.joins-joins.ensures.forest c.split_of-split.ensures c.requires.legs)
