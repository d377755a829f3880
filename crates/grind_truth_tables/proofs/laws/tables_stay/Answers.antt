use Rattle.grind_truth_tables.proofs.TableGrowth.{table_stays}
use Rattle.grind_truth_tables.proofs.laws.tables_stay.Goals as goal

pub returns : goal.returns
returns c = table_stays
