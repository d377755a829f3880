use Rattle.std.proofs.Common.{refl, []}
use Rattle.grind_resolution.proofs.Givens.{only_binder}
use Rattle.grind_resolution.proofs.found.binder_found.Goals as goal

pub returns : goal.returns
returns c =
    only_binder c.args.context.now.signature.now c.args.context.now.scope.now c.args.context.now.keeps c.args.context.now.distinct c.args.context.now.apart
    c.args.name.now c.args.number c.meaning.result [] c.sort.result c.requires c.meaning.ensures refl c.sort.ensures
