use Rattle.grind_report_words.proofs.Stopping.{stops_at_malformed}
use Rattle.grind_report_words.proofs.laws.stops_at_malformed.Goals as goal

pub returns : goal.returns
returns c = stops_at_malformed
