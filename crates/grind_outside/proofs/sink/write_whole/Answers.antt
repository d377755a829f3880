use Rattle.std.proofs.Common.{◌++◌, take, ap, ◌∙◌}
use Rattle.grind_outside.specs.Outside.{appended}
use Rattle.grind_outside.proofs.OutsideLemmas.{appended-appended, front-more}
use Rattle.grind_outside.proofs.sink.write_whole.Goals as goal

pub loop-rest-preserved : goal.loop-rest-preserved
loop-rest-preserved g c =
    let kept = c.loop-rest.invariant in
    let piece = take c.in-Ok.taken c.loop-rest.rest.now in (
      (
        kept.0.0 ++ piece,
        front-more c.args.bytes.now kept.0.0 c.loop-rest.rest.now c.split_at.result.1.now c.in-Ok.taken kept.0.1 c.split_at.ensures.back,
        c.in-Ok.ensures.ok ∙ ap (λ w. appended w piece) kept.0.2
            ∙ appended-appended (g.K.Sink.written c.args.sink.now) kept.0.0 piece,
      ),
      c.in-Ok.ensures.quiet ∙ kept.1,
    )
