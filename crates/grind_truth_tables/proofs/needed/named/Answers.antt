use Rattle.std.proofs.Common.{arith}
use Rattle.grind_truth_tables.proofs.NeededLemmas.{naming_begins, naming_goes_on, naming_ends}
use Rattle.grind_truth_tables.proofs.needed.named.Goals as goal

pub loop-premise-init : goal.loop-premise-init
loop-premise-init c = naming_begins c.args.claim.now c.args.premises.now c.name.new.set.keys c.in_ok-name.ensures.named

pub loop-premise-preserved : goal.loop-premise-preserved
loop-premise-preserved c =
    naming_goes_on c.args.claim.now c.args.premises.now c.loop-premise.premise-index c.premise-item.result c.loop-premise.set.keys
    c.name-in-loop-premise.new.set.keys c.loop-premise-test.true c.premise-item.is c.in_ok-name-2.ensures.kept
    c.in_ok-name-2.ensures.named c.loop-premise.invariant

pub returns : goal.returns
returns c =
    naming_ends c.args.claim.now c.args.premises.now c.loop-premise.premise-index c.loop-premise.set.keys (omega arith)
    c.loop-premise.invariant
