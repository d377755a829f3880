use Rattle.grind_resolution.proofs.Givens.{none_given}
use Rattle.grind_resolution.proofs.found.none_found.Goals as goal

pub returns-clause-unknown : goal.returns-clause-unknown
returns-clause-unknown c = none_given c.args.context.now.signature.now c.args.context.now.scope.now c.args.name.now c.requires.binders c.requires.functions
