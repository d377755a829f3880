use Rattle.std.proofs.Common.{◌∙◌, ap, sym}
use Rattle.grind_tokens.specs.declared.tokens.Sym.TheVariants as symbols
use Rattle.grind_grammar.specs.Keeps.{name_of}
use Rattle.grind_grammar.specs.Reading.{read, read_map, all_of, annots, theorem_with}
use Rattle.grind_grammar.specs.Files.{depth_limit}
use Rattle.std.specs.Prelude.{map}
use Rattle.grind_syntax.specs.Places.{bound_of}
use Rattle.grind_syntax.specs.Built.{term_given}
use Rattle.grind_syntax.proofs.Items.{closed_none, closed_read, map_gave}
use Rattle.grind_syntax.proofs.DeclarationLemmas.{sum_is, formula_level, theorem_unbound, theorem_open, theorem_bodiless, theorem_read, open_gave}
use Rattle.grind_syntax.specs.Sources.{ahead}
use Rattle.grind_syntax.proofs.declarations.theorem.Goals as goal

pub returns-in_default-clause-is : goal.returns-in_default-clause-is
returns-in_default-clause-is c =
    theorem_unbound depth_limit depth_limit (name_of c.args.source.now.text.now c.args.name) _ (rw c.in_default.is at c.in_ok-bound.ensures.is)

pub returns-in_default-2-clause-is : goal.returns-in_default-2-clause-is
returns-in_default-2-clause-is c =
    theorem_open depth_limit depth_limit (name_of c.args.source.now.text.now c.args.name) _ _ _ (rw c.in-Some.is at c.in_ok-bound.ensures.is)
    (closed_none symbols.Colon _ (ap (λ r. annots r (ahead c.args.source.now c.in-Some.after)) (sym (sum_is depth_limit))
    ∙ (rw c.in_default-2.is at c.in_ok-annots.ensures.is)))

pub returns-in_default-symbol_at-clause-is : goal.returns-in_default-symbol_at-clause-is
returns-in_default-symbol_at-clause-is c =
    theorem_open depth_limit depth_limit (name_of c.args.source.now.text.now c.args.name) _ _ _ (rw c.in-Some.is at c.in_ok-bound.ensures.is)
    (open_gave all_of symbols.Colon _ _ _ (ap (λ r. read_map all_of (annots r (ahead c.args.source.now c.in-Some.after))) (sym (sum_is depth_limit))
    ∙ (rw c.in-Some-2.is at c.in_ok-annots.ensures.is)) c.in_default-symbol_at.ensures.is)

pub returns-in_default-3-clause-is : goal.returns-in_default-3-clause-is
returns-in_default-3-clause-is c =
    let source = c.args.source.now in
    let text = source.text.now in
    let given = ap (λ r. read_map all_of (annots r (ahead source c.in-Some.after))) (sym (sum_is depth_limit)) ∙ (rw c.in-Some-2.is at c.in_ok-annots.ensures.is) in
    let read_all = map_gave all_of _ _ _ given in
    theorem_bodiless depth_limit depth_limit (name_of text c.args.name) _ _ _ read_all.0 _ (rw c.in-Some.is at c.in_ok-bound.ensures.is)
    (closed_read symbols.Colon _ _ _ _ read_all.1 c.in-Some-symbol_at.ensures.is)
    (ap (λ r. r (ahead source c.in-Some-symbol_at.mid)) (sym (formula_level depth_limit)) ∙ (rw c.in_default-3.is at c.in_ok-body.ensures.is))

pub returns-clause-is : goal.returns-clause-is
returns-clause-is c =
    let source = c.args.source.now in
    let text = source.text.now in
    let given = ap (λ r. read_map all_of (annots r (ahead source c.in-Some.after))) (sym (sum_is depth_limit)) ∙ (rw c.in-Some-2.is at c.in_ok-annots.ensures.is) in
    let read_all = map_gave all_of _ _ _ given in
    theorem_read depth_limit depth_limit (name_of text c.args.name) _ _ _ read_all.0 _ (term_given text c.in-Some-3.body) _
    (rw c.in-Some.is at c.in_ok-bound.ensures.is)
    (closed_read symbols.Colon _ _ _ _ read_all.1 c.in-Some-symbol_at.ensures.is)
    (ap (λ r. r (ahead source c.in-Some-symbol_at.mid)) (sym (formula_level depth_limit)) ∙ (rw c.in-Some-3.is at c.in_ok-body.ensures.is))
    ∙ ap (λ xs. read (theorem_with (name_of text c.args.name) (map (bound_of text) c.in-Some.bound) xs (term_given text c.in-Some-3.body)) (ahead source c.in-Some-3.left)) read_all.2
    ∙ ap (λ d. read d (ahead source c.in-Some-3.left)) (sym (c.theorem_with.ensures.is text))
