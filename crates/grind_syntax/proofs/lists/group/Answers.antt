use Rattle.std.proofs.Common.{◌≡◌, ◌∙◌, [], ap, sym, rules}
use Rattle.std.specs.Prelude.{map}
use Rattle.grind_tokens.specs.declared.tokens.Sym.TheVariants as symbols
use Rattle.grind_grammar.specs.Keeps.{name_of}
use Rattle.grind_grammar.specs.Reading.{symbol_at, names, bounds_of, read}
use Rattle.grind_syntax.specs.Places.{bound_of}
use Rattle.grind_syntax.proofs.ListLemmas.{group_none, group_empty, group_unsorted, group_read, map_empty}
use Rattle.grind_syntax.specs.Sources.{ahead}
use Rattle.grind_syntax.proofs.lists.group.Goals as goal

pub returns-in_default-clause-is : goal.returns-in_default-clause-is
returns-in_default-clause-is c =
    let ls = ahead c.args.source.now c.args.at in
    group_none ls (ap (symbol_at symbols.Colon) c.in_ok-names.ensures.rest ∙ c.in_default.ensures.is)

pub returns-then-is_empty-clause-is : goal.returns-then-is_empty-clause-is
returns-then-is_empty-clause-is c =
    let ls = ahead c.args.source.now c.args.at in
    let none : c.in_ok-names.names ≡ [] = search rules in
    group_empty ls (c.in_ok-names.ensures.names ∙ ap (map (name_of c.args.source.now.text.now)) none)

pub returns-in_default-sort_at-clause-is : goal.returns-in_default-sort_at-clause-is
returns-in_default-sort_at-clause-is c =
    let ls = ahead c.args.source.now c.args.at in
    group_unsorted ls _ (ap (symbol_at symbols.Colon) c.in_ok-names.ensures.rest ∙ c.in-Some.ensures.is) c.in_default-sort_at.ensures.is

pub returns-clause-is : goal.returns-clause-is
returns-clause-is c =
    let source = c.args.source.now in
    let text = source.text.now in
    let ls = ahead source c.args.at in
    let some : ¬ (c.in_ok-names.names ≡ []) = search rules in
    let kept : map (name_of text) c.as_slice.result.now ≡ (names ls).0 =
    ap (map (name_of text)) c.as_slice.ensures.value ∙ sym c.in_ok-names.ensures.names in
    let bound : bounds_of (names ls).0 (name_of text c.in-Some-sort_at.sort) ≡ map (bound_of text) c.in_ok-binders.binders =
    sym (c.in_ok-binders.ensures.is text ∙ ap (λ ns. bounds_of ns (name_of text c.in-Some-sort_at.sort)) kept) in
    group_read ls _ (name_of text c.in-Some-sort_at.sort) _ (λ e. some (map_empty (name_of text) c.in_ok-names.names (sym c.in_ok-names.ensures.names ∙ e)))
    (ap (symbol_at symbols.Colon) c.in_ok-names.ensures.rest ∙ c.in-Some.ensures.is) c.in-Some-sort_at.ensures.is
    ∙ ap (λ bs. read bs (ahead source c.in-Some-sort_at.left)) bound
