use Rattle.std.proofs.Common.{◌∙◌, ap, sym}
use Rattle.grind_tokens.specs.declared.tokens.Sym.TheVariants as symbols
use Rattle.grind_grammar.specs.Reading.{read, read_map, all_of}
use Rattle.grind_grammar.specs.Files.{depth_limit}
use Rattle.grind_syntax.specs.Levels.{level}
use Rattle.grind_syntax.specs.declared.levels.Level.TheVariants as levels
use Rattle.grind_syntax.proofs.Items.{map_read, closed_none}
use Rattle.grind_syntax.proofs.TermLemmas.{all_none}
use Rattle.grind_syntax.proofs.DeclarationLemmas.{no_hyps, some_hyps, closed_gave, open_gave}
use Rattle.grind_syntax.specs.Sources.{ahead}
use Rattle.grind_syntax.proofs.declarations.hypotheses.Goals as goal

pub returns-in-Some-clause-is : goal.returns-in-Some-clause-is
returns-in-Some-clause-is c =
    rw c.new.ensures (map_read all_of _ _ _ (no_hyps (level levels.Formula depth_limit) _ _ c.in-Some.ensures.is)
    ∙ ap (λ ts. read ts (ahead c.args.source.now c.in-Some.left)) all_none)

pub returns-in_default-2-clause-is : goal.returns-in_default-2-clause-is
returns-in_default-2-clause-is c =
    some_hyps (level levels.Formula depth_limit) _ c.in_default.ensures.is
    ∙ closed_none symbols.Turnstile _ (rw c.in_default-2.is at c.in_ok-parts.ensures.is)

pub returns-in_default-symbol_at-clause-is : goal.returns-in_default-symbol_at-clause-is
returns-in_default-symbol_at-clause-is c =
    some_hyps (level levels.Formula depth_limit) _ c.in_default.ensures.is
    ∙ open_gave all_of symbols.Turnstile _ _ _ (rw c.in-Some-2.is at c.in_ok-parts.ensures.is) c.in_default-symbol_at.ensures.is

pub returns-clause-is : goal.returns-clause-is
returns-clause-is c =
    let source = c.args.source.now in
    let text = source.text.now in
    ap (read_map all_of) (some_hyps (level levels.Formula depth_limit) _ c.in_default.ensures.is)
    ∙ closed_gave all_of symbols.Turnstile _ _ _ _ (rw c.in-Some-2.is at c.in_ok-parts.ensures.is) c.in-Some-symbol_at.ensures.is
    ∙ ap (λ ts. read ts (ahead source c.in-Some-symbol_at.left)) (sym (c.in_ok-trees.ensures.is text))
