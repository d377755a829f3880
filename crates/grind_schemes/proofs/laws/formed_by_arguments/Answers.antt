use Rattle.grind_schemes.proofs.SchemeLemmas.{IsScheme-Apply}
use Rattle.grind_schemes.proofs.laws.formed_by_arguments.Goals as goal

pub returns : goal.returns
returns c = IsScheme-Apply
