use Rattle.grind_report.proofs.OneSpelling.{one_report_of}
use Rattle.grind_report.proofs.report.one_report.Goals as goal

pub returns : goal.returns
returns c = one_report_of
