use Rattle.std.proofs.Common.{rules, arith, refl, sym, ap, ◌∙◌}
use Rattle.grind_grammar.specs.declared.syntax.Tree.{Tree, the_lemmas}
use Rattle.grind_grammar.specs.Terms as terms
use Rattle.grind_grammar.specs.Keeps.{term_of, name_of}
use Rattle.grind_resolution.specs.Contexts.{gives_in}
use Rattle.grind_resolution.proofs.Trees.{term_at, placed_at}
use Rattle.grind_resolution.proofs.SortedTerms.{unknown_unsorted, named_unsorted, named_sorted, one_unsorted, unary_sorted, binary_sorted}
use Rattle.grind_resolution.proofs.sorts.+sorts.Goals as goal

pub sort_of-returns-in_default : goal.sort_of-returns-in_default
sort_of-returns-in_default t c =
    let made = term_at c.args.context.now.text.now c.args.tree.now c.in-Apply.name c.in-Apply.parts c.in-Apply.parts.items c.in-Apply.is refl in
    unknown_unsorted (gives_in c.args.context.now) c.args.context.now.text.now (name_of c.args.context.now.text.now c.in-Apply.name) c.in-Apply.parts.items _ made
    c.in_default.ensures

pub sort_of-have_sorts-requires : goal.sort_of-have_sorts-requires
sort_of-have_sorts-requires t c =
    let placed = placed_at c.args.context.now.text.now c.args.tree.now c.in-Apply.name c.in-Apply.parts c.deref.result.now c.in-Apply.is c.deref.ensures.value c.requires in
    (search (rules, the_lemmas, c.decreases, c.in-Apply.is, c.deref.ensures.value), placed.1)

pub sort_of-returns-then-not-have_sorts : goal.sort_of-returns-then-not-have_sorts
sort_of-returns-then-not-have_sorts t c =
    let made = term_at c.args.context.now.text.now c.args.tree.now c.in-Apply.name c.in-Apply.parts c.deref.result.now c.in-Apply.is c.deref.ensures.value in
    named_unsorted (gives_in c.args.context.now) c.args.context.now.text.now (name_of c.args.context.now.text.now c.in-Apply.name) c.deref.result.now _ made
    c.in-Some.found.meaning c.in-Some.found.args.now c.in-Some.found.sort c.in-Some.ensures c.have_sorts.result c.have_sorts.ensures c.if-not-have_sorts.true

pub sort_of-returns-else-not-have_sorts : goal.sort_of-returns-else-not-have_sorts
sort_of-returns-else-not-have_sorts t c =
    let made = term_at c.args.context.now.text.now c.args.tree.now c.in-Apply.name c.in-Apply.parts c.deref.result.now c.in-Apply.is c.deref.ensures.value in
    named_sorted (gives_in c.args.context.now) c.args.context.now.text.now (name_of c.args.context.now.text.now c.in-Apply.name) c.deref.result.now _ made
    c.in-Some.found.meaning c.in-Some.found.args.now c.in-Some.found.sort c.in-Some.ensures c.have_sorts.result c.have_sorts.ensures c.if-not-have_sorts.false

pub sort_of-returns-in-One : goal.sort_of-returns-in-One
sort_of-returns-in-One t c =
    let made = ap (term_of c.args.context.now.text.now) c.in-One.is ∙ ap (λ (n : Tree). terms.One c.in-One.op (term_of c.args.context.now.text.now n)) (sym c.deref-in-One.ensures) in
    unary_sorted (gives_in c.args.context.now) c.args.context.now.text.now c.in-One.op (term_of c.args.context.now.text.now c.deref-in-One.result.now)
    (term_of c.args.context.now.text.now c.args.tree.now) c.sort_of-part.result c.unary_of.result made c.sort_of-part.ensures c.unary_of.ensures

pub sort_of-returns-in-Two : goal.sort_of-returns-in-Two
sort_of-returns-in-Two t c =
    let made = ap (term_of c.args.context.now.text.now) c.in-Two.is
    ∙ ap (λ (n : Tree). terms.Two c.in-Two.op (term_of c.args.context.now.text.now n) (term_of c.args.context.now.text.now c.in-Two.right.value)) (sym c.deref-in-Two.ensures)
    ∙ ap (λ (n : Tree). terms.Two c.in-Two.op (term_of c.args.context.now.text.now c.deref-in-Two.result.now) (term_of c.args.context.now.text.now n)) (sym c.deref-in-Two-2.ensures) in
    binary_sorted (gives_in c.args.context.now) c.args.context.now.text.now c.in-Two.op (term_of c.args.context.now.text.now c.deref-in-Two.result.now)
    (term_of c.args.context.now.text.now c.deref-in-Two-2.result.now) (term_of c.args.context.now.text.now c.args.tree.now)
    c.sort_of-left.result c.sort_of-right.result c.binary_of.result made c.sort_of-left.ensures c.sort_of-right.ensures c.binary_of.ensures

pub have_sorts-returns-then-not-is_sort : goal.have_sorts-returns-then-not-is_sort
have_sorts-returns-then-not-is_sort t c =
    one_unsorted (gives_in c.args.context.now) c.args.context.now.text.now c.args.parts.now c.args.sorts.now c.loop-place.place
    c.index-parts-place.result c.index-sorts-place.result c.sort_of-found.result c.is_sort.result (omega arith)
    c.index-parts-place.is c.index-sorts-place.is c.sort_of-found.ensures c.is_sort.ensures c.if-not-is_sort.true
