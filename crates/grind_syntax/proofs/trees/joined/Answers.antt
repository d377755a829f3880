use Rattle.std.proofs.Common.{◌∙◌, ap, sym, subst}
use Rattle.grind_syntax.specs.Built.{term_given, sides_joined, AreSidesPlaced}
use Rattle.grind_syntax.proofs.TreeLemmas.{last_side, no_side, sides_split}
use Rattle.grind_syntax.proofs.trees.joined.Goals as goal

pub loop-side-preserved : goal.loop-side-preserved
loop-side-preserved c = record {
  so_far = λ text.
      c.loop-side.invariant.so_far text ∙ ap (λ sides. sides_joined 200 text sides (term_given text c.loop-side.whole)) c.in-Some.ensures
      ∙ last_side 200 text c.pop.new.self c.in-Some.side (term_given text c.loop-side.whole)
      ∙ ap (sides_joined 200 text c.pop.new.self) (sym (c.in_ok-whole.ensures.is text));
  placed = λ text sides last.
      let before = c.loop-side.invariant.placed text sides last in
      let parts = sides_split text c.pop.new.self c.in-Some.side (subst (AreSidesPlaced text) c.in-Some.ensures before.0) in
      (parts.0, c.in_ok-whole.ensures.placed text parts.1 before.1);
}

pub returns-clause-is : goal.returns-clause-is
returns-clause-is c = λ text.
    sym (c.loop-side.invariant.so_far text ∙ ap (λ sides. sides_joined 200 text sides (term_given text c.loop-side.whole)) c.in_default.ensures.0
    ∙ no_side 200 text (term_given text c.loop-side.whole))
