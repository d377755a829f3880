use Rattle.grind_schemes.proofs.SchemeLemmas.{HasVar-Apply}
use Rattle.grind_schemes.proofs.laws.variables_by_arguments.Goals as goal

pub returns : goal.returns
returns c = HasVar-Apply
