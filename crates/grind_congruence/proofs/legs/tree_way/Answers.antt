use Rattle.std.specs.Prelude.{◌≡◌, ◌∷◌, ◌<◌, []}
use Rattle.std.proofs.Common.{arith}
use Rattle.grind_congruence.specs.declared.legs.Leg.TheVariants.{Between}
use Rattle.grind_congruence.specs.Forest.{weight}
use Rattle.grind_congruence.proofs.LegLemmas.{AreJoinedLegs-pop, weight-pop, Fills-first, Fills-taken, Fills-end}
use Rattle.grind_congruence.proofs.legs.tree_way.Goals as goal

pub take_leg-requires-clause-leg : goal.take_leg-requires-clause-leg
take_leg-requires-clause-leg c =
    (AreJoinedLegs-pop c.args.forest.now c.loop-leg.legs c.pop.new.self c.in-Some.leg c.in-Some.ensures c.loop-leg.invariant.joined).0

pub take_leg-requires-clause-legs : goal.take_leg-requires-clause-legs
take_leg-requires-clause-legs c =
    (AreJoinedLegs-pop c.args.forest.now c.loop-leg.legs c.pop.new.self c.in-Some.leg c.in-Some.ensures c.loop-leg.invariant.joined).1

pub loop-leg-init : goal.loop-leg-init
loop-leg-init c =
    let only : c.push.new.self ≡ Between c.args.a c.args.b ∷ [] = rw c.new-legs.ensures at c.in_ok-push.ensures.ok in
    record {
      fills = λ rest fills. Fills-first c.args.edges.now c.args.forest.now c.args.a c.args.b c.push.new.self c.new-way.result rest only c.new-way.ensures fills;
      joined = rw only (c.requires.joined, tt);
    }

pub loop-leg-smaller : goal.loop-leg-smaller
loop-leg-smaller c =
    let less : weight c.args.forest.now c.take_leg.new.legs < weight c.args.forest.now c.loop-leg.legs =
    omega (arith, c.in_ok-take_leg.ensures.lighter, weight-pop c.args.forest.now c.loop-leg.legs c.pop.new.self c.in-Some.leg c.in-Some.ensures) in
    less

pub loop-leg-preserved : goal.loop-leg-preserved
loop-leg-preserved c = record {
  fills = λ rest fills. Fills-taken c.args.edges.now c.args.forest.now c.args.a c.args.b c.loop-leg.legs c.pop.new.self c.take_leg.new.legs c.in-Some.leg
      c.loop-leg.way c.take_leg.new.way c.in-Some.ensures c.in_ok-take_leg.ensures c.loop-leg.invariant.fills rest fills;
  joined = c.in_ok-take_leg.ensures.joined;
}

pub returns : goal.returns
returns c =
    Fills-end c.args.edges.now c.args.forest.now c.args.a c.args.b c.loop-leg.legs c.loop-leg.way c.in_default.ensures.0 c.loop-leg.invariant.fills
