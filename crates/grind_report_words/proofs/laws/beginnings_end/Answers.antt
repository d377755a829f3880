use Rattle.grind_report_words.proofs.Endings.{beginnings_end}
use Rattle.grind_report_words.proofs.laws.beginnings_end.Goals as goal

pub returns : goal.returns
returns c = beginnings_end
