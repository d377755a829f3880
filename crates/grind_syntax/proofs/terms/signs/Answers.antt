use Rattle.std.proofs.Common.{arith}
use Rattle.grind_syntax.proofs.Items.{reach_past}
use Rattle.grind_syntax.proofs.TermLemmas.{signs_begin, signs_more, signs_end}
use Rattle.grind_syntax.specs.Sources.{ahead}
use Rattle.grind_syntax.proofs.terms.signs.Goals as goal

pub loop-left-init : goal.loop-left-init
loop-left-init c = record {
  so_far = λ limit op part. signs_begin limit op c.args.sym part _;
  behind = omega arith;
  within = omega arith;
}

pub loop-left-preserved : goal.loop-left-preserved
loop-left-preserved c =
    let source = c.args.source.now in
    let text = source.text.now in
    let left = c.in-Some.ensures.left in
    record {
      so_far = λ limit op part.
          signs_more limit op c.args.sym part c.loop-left.count (ahead source c.args.at) (ahead source c.loop-left.rest)
          (ahead source c.in-Some.left) (c.loop-left.invariant.so_far limit op part) c.in-Some.ensures.is;
      behind = reach_past source c.args.at c.loop-left.rest c.in-Some.left c.loop-left.invariant.behind left;
      within = omega arith;
    }

pub returns-clause-is : goal.returns-clause-is
returns-clause-is c = λ limit op part.
    let source = c.args.source.now in
    let text = source.text.now in
    signs_end limit op c.args.sym part c.loop-left.count (ahead source c.args.at) (ahead source c.loop-left.rest)
    (c.loop-left.invariant.so_far limit op part) c.in_default.ensures.is
