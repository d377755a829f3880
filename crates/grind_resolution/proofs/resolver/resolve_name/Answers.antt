use Rattle.grind_grammar.specs.Keeps.{name_of}
use Rattle.grind_resolution.proofs.ResolvedTerms.{variable_parts}
use Rattle.grind_resolution.proofs.resolver.resolve_name.Goals as goal

pub of_name-requires : goal.of_name-requires
of_name-requires c =
    variable_parts c.args.context.now.signature.now c.args.context.now.scope.now (name_of c.args.context.now.text.now c.args.name) c.in-Some.found.meaning c.in-Some.found.args.now c.in-Some.found.sort
    c.args.parts.items c.in-Some.ensures c.requires.given
