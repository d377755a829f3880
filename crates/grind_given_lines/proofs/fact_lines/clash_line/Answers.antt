use Rattle.grind_given_lines.proofs.LineLemmas.{root_can_write, root_stays, clash_proves}
use Rattle.grind_given_lines.proofs.fact_lines.clash_line.Goals as goal

pub close-requires-clause-ready : goal.close-requires-clause-ready
close-requires-clause-ready c = root_can_write c.args.writer.now c.args.proof.now c.requires.root

pub returns : goal.returns
returns c =
    clash_proves c.finished_is_typed.ensures c.absurd_closes.ensures c.args.writer.now c.close.new.proof c.in_ok-close.field-0
    (root_stays c.args.writer.now c.args.proof.now c.close.new.proof c.requires.root c.close.ensures.writes) c.in_ok-close.ensures.ends
