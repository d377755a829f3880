use Rattle.std.proofs.Common.{◌≡◌, ◌∙◌, ◌+◌, ap, sym, true, false}
use Rattle.std.specs.Prelude.{map}
use Rattle.grind_grammar.specs.Keeps.{term_of, name_of}
use Rattle.grind_grammar.specs.Reading.{fit}
use Rattle.grind_syntax.proofs.TreeLemmas.{applied_none, applied_some, depth_Apply, term_Apply, placed_Apply}
use Rattle.grind_syntax.proofs.trees.applied.Goals as goal

pub returns-then-not-complete-clause-is : goal.returns-then-not-complete-clause-is
returns-then-not-complete-clause-is c = λ text.
    let some_left : c.args.parts.complete ≡ false = cc in
    sym (applied_none 200 (name_of text c.args.name) c.args.parts.complete (map (term_of text) c.args.parts.trees.items) some_left)

pub fit-requires : goal.fit-requires
fit-requires c = depth_Apply c.args.name c.args.parts.trees ∙ ap (λ n. n + 1) c.args.parts.is_depth

pub returns-clause-is : goal.returns-clause-is
returns-clause-is c = λ text.
    let all : c.args.parts.complete ≡ true = cc in
    c.fit.ensures.is text ∙ ap (fit 200) (term_Apply text c.args.name c.args.parts.trees)
    ∙ sym (applied_some 200 (name_of text c.args.name) c.args.parts.complete (map (term_of text) c.args.parts.trees.items) all)

pub returns-clause-placed : goal.returns-clause-placed
returns-clause-placed c = λ text named placed. c.fit.ensures.placed text (placed_Apply text c.args.name c.args.parts.trees named placed)
