use Rattle.std.proofs.Common.{◌∙◌, ap, sym}
use Rattle.grind_tokens.specs.declared.tokens.Sym.TheVariants as symbols
use Rattle.grind_grammar.specs.Keeps.{name_of}
use Rattle.grind_grammar.specs.Reading.{read, read_map, all_of, hyps, goal_with}
use Rattle.grind_grammar.specs.Files.{depth_limit}
use Rattle.std.specs.Prelude.{map}
use Rattle.grind_syntax.specs.Places.{bound_of}
use Rattle.grind_syntax.specs.Built.{term_given}
use Rattle.grind_syntax.proofs.Items.{closed_none, closed_open, closed_read, map_gave}
use Rattle.grind_syntax.proofs.DeclarationLemmas.{formula_level, goal_unbound, goal_open, goal_showless, goal_read}
use Rattle.grind_syntax.specs.Sources.{ahead}
use Rattle.grind_syntax.proofs.declarations.goal.Goals as goal

pub returns-in_default-clause-is : goal.returns-in_default-clause-is
returns-in_default-clause-is c =
    goal_unbound depth_limit depth_limit (name_of c.args.source.now.text.now c.args.name) _ (closed_none symbols.Colon _ (rw c.in_default.is at c.in_ok-bound.ensures.is))

pub returns-in_default-symbol_at-clause-is : goal.returns-in_default-symbol_at-clause-is
returns-in_default-symbol_at-clause-is c =
    goal_unbound depth_limit depth_limit (name_of c.args.source.now.text.now c.args.name) _
    (closed_open symbols.Colon _ _ _ (rw c.in-Some.is at c.in_ok-bound.ensures.is) c.in_default-symbol_at.ensures.is)

pub returns-in_default-2-clause-is : goal.returns-in_default-2-clause-is
returns-in_default-2-clause-is c =
    let source = c.args.source.now in
    let text = source.text.now in
    goal_open depth_limit depth_limit (name_of text c.args.name) _ _ _
    (closed_read symbols.Colon _ _ _ _ (rw c.in-Some.is at c.in_ok-bound.ensures.is) c.in-Some-symbol_at.ensures.is)
    (ap (λ r. hyps r (ahead source c.in-Some-symbol_at.mid)) (sym (formula_level depth_limit)) ∙ (rw c.in_default-2.is at c.in_ok-hyps.ensures.is))

pub returns-in_default-3-clause-is : goal.returns-in_default-3-clause-is
returns-in_default-3-clause-is c =
    let source = c.args.source.now in
    let text = source.text.now in
    let given = ap (λ r. read_map all_of (hyps r (ahead source c.in-Some-symbol_at.mid))) (sym (formula_level depth_limit)) ∙ (rw c.in-Some-2.is at c.in_ok-hyps.ensures.is) in
    let read_all = map_gave all_of _ _ _ given in
    goal_showless depth_limit depth_limit (name_of text c.args.name) _ _ _ read_all.0 _
    (closed_read symbols.Colon _ _ _ _ (rw c.in-Some.is at c.in_ok-bound.ensures.is) c.in-Some-symbol_at.ensures.is) read_all.1
    (ap (λ r. r (ahead source c.in-Some-2.rest)) (sym (formula_level depth_limit)) ∙ (rw c.in_default-3.is at c.in_ok-show.ensures.is))

pub returns-clause-is : goal.returns-clause-is
returns-clause-is c =
    let source = c.args.source.now in
    let text = source.text.now in
    let given = ap (λ r. read_map all_of (hyps r (ahead source c.in-Some-symbol_at.mid))) (sym (formula_level depth_limit)) ∙ (rw c.in-Some-2.is at c.in_ok-hyps.ensures.is) in
    let read_all = map_gave all_of _ _ _ given in
    goal_read depth_limit depth_limit (name_of text c.args.name) _ _ _ read_all.0 _ (term_given text c.in-Some-3.show) _
    (closed_read symbols.Colon _ _ _ _ (rw c.in-Some.is at c.in_ok-bound.ensures.is) c.in-Some-symbol_at.ensures.is) read_all.1
    (ap (λ r. r (ahead source c.in-Some-2.rest)) (sym (formula_level depth_limit)) ∙ (rw c.in-Some-3.is at c.in_ok-show.ensures.is))
    ∙ ap (λ xs. read (goal_with (name_of text c.args.name) (map (bound_of text) c.in-Some.bound) xs (term_given text c.in-Some-3.show)) (ahead source c.in-Some-3.left)) read_all.2
    ∙ ap (λ d. read d (ahead source c.in-Some-3.left)) (sym (c.goal_with.ensures.is text))
