use Rattle.grind_report.proofs.ReportParts.{report_of_parts}
use Rattle.grind_report.proofs.report.blocks_make_a_report.Goals as goal

pub returns : goal.returns
returns c = report_of_parts
