use Rattle.std.proofs.Common.{rules}
use Rattle.grind_grammar.specs.declared.syntax.Tree.{the_lemmas}
use Rattle.grind_resolution.specs.Contexts.{gives_in}
use Rattle.grind_resolution.proofs.Trees.{term_at, placed_at}
use Rattle.grind_resolution.proofs.KnownTerms.{named_known}
use Rattle.grind_resolution.proofs.known.+known.Goals as goal

pub is_known-are_known-requires : goal.is_known-are_known-requires
is_known-are_known-requires t c =
    let placed = placed_at c.args.context.now.text.now c.args.tree.now c.in-Apply.name c.in-Apply.parts c.deref.result.now c.in-Apply.is c.deref.ensures.value c.requires in
    (search (rules, the_lemmas, c.decreases, c.in-Apply.is, c.deref.ensures.value), placed.1)

pub is_known-returns-else-not-is_given : goal.is_known-returns-else-not-is_given
is_known-returns-else-not-is_given t c =
    let made = term_at c.args.context.now.text.now c.args.tree.now c.in-Apply.name c.in-Apply.parts c.deref.result.now c.in-Apply.is c.deref.ensures.value in
    named_known (gives_in c.args.context.now) c.args.context.now.text.now _ c.deref.result.now _ c.is_given.result c.are_known.result made
    c.is_given.ensures c.if-not-is_given.false c.are_known.ensures
