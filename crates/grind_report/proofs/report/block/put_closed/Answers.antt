use Rattle.grind_report.proofs.PrintedLines.{closed_put}
use Rattle.grind_report.proofs.report.block.put_closed.Goals as goal

pub returns-clause-text : goal.returns-clause-text
returns-clause-text c =
    closed_put c.args.signature.now c.args.constants.now c.args.name.now c.args.proof.now c.args.out.now c.put_title.new.out c.put_terms.new.out c.put_branches.new.out c.put_lines.new.out
    c.in_ok-put_title.ensures c.in_ok-put_terms.ensures.text c.in_ok-put_branches.ensures.text c.in_ok-put_lines.ensures.text
