use Rattle.grind_rules.proofs.RuleGrowth.{allowed_stays}
use Rattle.grind_rules.proofs.laws.allowed_stays.Goals as goal

pub returns : goal.returns
returns c = allowed_stays c.tables_stay.ensures c.differences_stay.ensures c.poly_differences_stay.ensures
