use Rattle.std.proofs.Common.{◌<◌, ◌≤◌, sym, arith}
use Rattle.grind_grammar.specs.Terms.{depth}
use Rattle.grind_grammar.specs.Keeps.{term_of}
use Rattle.grind_syntax.proofs.TreeLemmas.{depth_of, fit_low, fit_deep}
use Rattle.grind_syntax.proofs.trees.fit.Goals as goal

pub returns-then-depth-gt-DEPTH-clause-is : goal.returns-then-depth-gt-DEPTH-clause-is
returns-then-depth-gt-DEPTH-clause-is c = λ text.
    let e = depth_of text c.args.tree in
    let deep : 200 < depth (term_of text c.args.tree) = omega arith in
    sym (fit_deep 200 (term_of text c.args.tree) deep)

pub returns-clause-is : goal.returns-clause-is
returns-clause-is c = λ text.
    let e = depth_of text c.args.tree in
    let low : depth (term_of text c.args.tree) ≤ 200 = omega arith in
    sym (fit_low 200 (term_of text c.args.tree) low)
