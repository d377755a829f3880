use Rattle.std.proofs.Common.{rules, arith, refl, ap, ◌≡◌, length}
use Rattle.grind_grammar.specs.declared.syntax.Tree.{the_lemmas}
use Rattle.grind_resolution.specs.Contexts.{gives_in}
use Rattle.grind_resolution.proofs.Trees.{term_at, placed_at}
use Rattle.grind_resolution.proofs.KnownTerms.{named_counted, named_not_counted}
use Rattle.grind_resolution.proofs.counted.+counted.Goals as goal

pub is_counted-returns-then-not-takes : goal.is_counted-returns-then-not-takes
is_counted-returns-then-not-takes t c =
    let made = term_at c.args.context.now.text.now c.args.tree.now c.in-Apply.name c.in-Apply.parts c.in-Apply.parts.items c.in-Apply.is refl in
    let many : c.len.result ≡ length c.in-Apply.parts.items = omega (arith, c.len.ensures, c.in-Apply.parts.ok.0) in
    named_not_counted (gives_in c.args.context.now) c.args.context.now.text.now _ c.in-Apply.parts.items _ c.len.result c.takes.result made
    many c.takes.ensures c.if-not-takes.true

pub is_counted-are_counted-requires : goal.is_counted-are_counted-requires
is_counted-are_counted-requires t c =
    let placed = placed_at c.args.context.now.text.now c.args.tree.now c.in-Apply.name c.in-Apply.parts c.deref.result.now c.in-Apply.is c.deref.ensures.value c.requires in
    (search (rules, the_lemmas, c.decreases, c.in-Apply.is, c.deref.ensures.value), placed.1)

pub is_counted-returns-else-not-takes : goal.is_counted-returns-else-not-takes
is_counted-returns-else-not-takes t c =
    let made = term_at c.args.context.now.text.now c.args.tree.now c.in-Apply.name c.in-Apply.parts c.deref.result.now c.in-Apply.is c.deref.ensures.value in
    let many : c.len.result ≡ length c.deref.result.now = omega (arith, c.len.ensures, c.in-Apply.parts.ok.0, ap length c.deref.ensures.value) in
    named_counted (gives_in c.args.context.now) c.args.context.now.text.now _ c.deref.result.now _ c.len.result c.takes.result made
    many c.takes.ensures c.are_counted.result c.if-not-takes.false c.are_counted.ensures
