use Rattle.std.specs.Prelude.{◌<◌, length}
use Rattle.std.proofs.Common.{arith, ◌∙◌, refl}
use Rattle.grind_classes.proofs.TrailLemmas.{rewound_step}
use Rattle.grind_classes.proofs.trail.rewind.Goals as goal

pub loop-parts-preserved : goal.loop-parts-preserved
loop-parts-preserved c =
    let long : c.args.len < length c.loop-parts.trail = omega (arith, c.loop-parts-test.true, c.len.ensures.value) in
    let step = rewound_step c.loop-parts.parts c.undo_last.new.parts c.loop-parts.trail c.undo_last.new.trail c.args.len c.undo_last.ensures long in
    record {
      left = step.0 ∙ c.loop-parts.invariant.left;
      lists = step.1 ∙ c.loop-parts.invariant.lists;
      still = c.undo_last.ensures.still;
      within = step.2;
      same = refl;
    }
