use Rattle.std.proofs.Common.{refl}
use Rattle.grind_resolution.proofs.make.of_name.Goals as goal

pub returns-in-Headed : goal.returns-in-Headed
returns-in-Headed c = rw c.in-Headed.is (c.args.parts, refl, refl)
