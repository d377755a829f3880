use Rattle.std.proofs.Common.{arith}
use Rattle.grind_term_rules.proofs.RuleLemmas.{say_equal_lacks}
use Rattle.grind_term_rules.proofs.congruence.say_equal.Goals as goal

pub returns-then-these-gt0 : goal.returns-then-these-gt0
returns-then-these-gt0 c =
    say_equal_lacks c.loop-premise.these.now c.loop-premise.those.now c.args.premises.now c.loop-premise.premise-index (omega arith) (omega arith)
    c.loop-premise.invariant
