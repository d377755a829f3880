use Rattle.std.proofs.Common.{refl}
use Rattle.grind_resolution.proofs.Givens.{only_function}
use Rattle.grind_resolution.proofs.found.function_found.Goals as goal

pub returns : goal.returns
returns c =
    only_function c.args.context.now.signature.now c.args.context.now.scope.now c.args.context.now.keeps c.args.context.now.distinct c.args.context.now.apart
    c.args.name.now c.args.function _ c.args_of.result.now c.sort_of.result c.requires refl c.args_of.ensures.value c.sort_of.ensures
