use Rattle.std.proofs.Common.{◌∙◌, ap, sym, arith}
use Rattle.grind_grammar.specs.Reading.{one}
use Rattle.grind_syntax.specs.Built.{term_given}
use Rattle.grind_syntax.proofs.TreeLemmas.{no_sign, one_more}
use Rattle.grind_syntax.proofs.trees.with_signs.Goals as goal

pub loop-done-init : goal.loop-done-init
loop-done-init c = record {
  so_far = λ text. sym (no_sign 200 c.args.op (term_given text c.args.part));
  placed = λ text h. h;
  within = omega arith;
}

pub loop-done-preserved : goal.loop-done-preserved
loop-done-preserved c = record {
  so_far = λ text.
      c.in_ok-whole.ensures.is text ∙ ap (one 200 c.args.op) (c.loop-done.invariant.so_far text)
      ∙ sym (one_more 200 c.args.op c.loop-done.done (term_given text c.args.part));
  placed = λ text h. c.in_ok-whole.ensures.placed text (c.loop-done.invariant.placed text h);
  within = omega arith;
}
