use Rattle.grind_report_words.proofs.Pages.{one_malformed_line}
use Rattle.grind_report_words.proofs.laws.one_malformed_line.Goals as goal

pub returns : goal.returns
returns c = one_malformed_line
