use Rattle.std.proofs.Common.{rules, arith, sym, subst, FitsSigned, ◌<◌, length}
use Rattle.std.specs.Int.{w128}
use Rattle.std.proofs.lemmas.Int.{to_z-of_z}
use Rattle.grind_grammar.specs.declared.syntax.Tree.{Tree, the_lemmas}
use Rattle.grind_grammar.specs.Keeps.{IsPlacedTree, term_of, name_of}
use Rattle.grind_resolution.specs.Contexts.{gives_in}
use Rattle.grind_resolution.specs.Sorting.{IsSorted}
use Rattle.grind_resolution.specs.Resolved.{StandsFor}
use Rattle.grind_resolution.proofs.Trees.{term_at, placed_at}
use Rattle.grind_resolution.proofs.ResolvedTerms.{parts_sorted, parts_counted, named_stands, underway_end}
use Rattle.grind_resolution.proofs.resolver.+resolving.Goals as goal

pub resolve-resolve_all-requires : goal.resolve-resolve_all-requires
resolve-resolve_all-requires t c =
    let placed = placed_at c.args.context.now.text.now c.args.tree.now c.in-Apply.name c.in-Apply.parts c.deref.result.now c.in-Apply.is c.deref.ensures.value c.requires.placed in
    let made = term_at c.args.context.now.text.now c.args.tree.now c.in-Apply.name c.in-Apply.parts c.deref.result.now c.in-Apply.is c.deref.ensures.value in (
      search (rules, the_lemmas, c.decreases, c.in-Apply.is, c.deref.ensures.value),
      (
        placed.1,
        parts_sorted (gives_in c.args.context.now) c.args.context.now.text.now (name_of c.args.context.now.text.now c.in-Apply.name) c.deref.result.now _ made c.requires.sorted,
      ),
    )

pub resolve-resolve_name-requires-clause-given : goal.resolve-resolve_name-requires-clause-given
resolve-resolve_name-requires-clause-given t c =
    let made = term_at c.args.context.now.text.now c.args.tree.now c.in-Apply.name c.in-Apply.parts c.deref.result.now c.in-Apply.is c.deref.ensures.value in
    parts_counted (gives_in c.args.context.now) c.args.context.now.text.now (name_of c.args.context.now.text.now c.in-Apply.name) c.deref.result.now _ made c.requires.sorted
    c.in_ok-parts-in-Apply.parts.items c.in_ok-parts-in-Apply.ensures

pub resolve-returns-in-Number : goal.resolve-returns-in-Number
resolve-returns-in-Number t c =
    let fits : FitsSigned w128 c.in-Number.value = search rules in
    subst (λ (n : Tree). StandsFor (gives_in c.args.context.now) (term_of c.args.context.now.text.now n) c.leaf-in-Number.result)
    (sym c.in-Number.is) (simp (to_z-of_z w128 c.in-Number.value fits) at c.leaf-in-Number.ensures)

pub resolve-returns-in_ok-parts-in-Apply : goal.resolve-returns-in_ok-parts-in-Apply
resolve-returns-in_ok-parts-in-Apply t c =
    let made = term_at c.args.context.now.text.now c.args.tree.now c.in-Apply.name c.in-Apply.parts c.deref.result.now c.in-Apply.is c.deref.ensures.value in
    named_stands (gives_in c.args.context.now) c.args.context.now.text.now (name_of c.args.context.now.text.now c.in-Apply.name) c.deref.result.now _ made
    c.in_ok-parts-in-Apply.parts.items c.resolve_name.result c.in_ok-parts-in-Apply.ensures c.resolve_name.ensures

pub resolve_all-resolve-requires : goal.resolve_all-resolve-requires
resolve_all-resolve-requires t c =
    let within : c.loop-part.part-index < length c.args.parts.now = omega arith in
    let placed = subst (IsPlacedTree c.args.context.now.text.now) (sym c.part-item.is) (c.requires.placed c.loop-part.part-index c.part-item.result within) in
    let sorted = subst (λ (n : Tree). IsSorted (gives_in c.args.context.now) (term_of c.args.context.now.text.now n)) (sym c.part-item.is)
    (c.requires.sorted c.loop-part.part-index c.part-item.result within) in
    (search (rules, the_lemmas, c.decreases, c.part-item.is), (placed, sorted))

pub resolve_all-returns : goal.resolve_all-returns
resolve_all-returns t c =
    underway_end (gives_in c.args.context.now) c.args.context.now.text.now c.args.parts.now c.loop-part.part-index c.loop-part.done.items
    (omega arith) c.loop-part.invariant
