use Rattle.std.proofs.Common.{◌≡◌, ◌<◌, length, get_or, subst, ap, arith}
use Rattle.std.proofs.lemmas.List.Elements.{All-more}
use Rattle.grind_claims.specs.declared.proof.Line.{Line}
use Rattle.grind_report.specs.Report.{line_words, LineFits}
use Rattle.grind_report.proofs.PrintedLines.{next_line}
use Rattle.grind_report.proofs.report.block.put_lines.Goals as goal

pub loop-index-preserved : goal.loop-index-preserved
loop-index-preserved c =
    let line : Line = c.index-lines-index.result in
    let here : c.index-lines-index.result ≡ get_or c.args.lines.now c.loop-index.index c.index-lines-index.result = cc in
    let low : c.loop-index.index < length c.args.lines.now = omega (arith, ap length c.as_slice-lines.ensures.value) in (
      next_line line_words 0 c.loop-index.index c.args.lines.now c.loop-index.index c.index-lines-index.result c.put_count.new.out c.loop-index.out c.put_line.new.out low here c.loop-index.invariant.0 (omega arith) c.in_ok-put_line.ensures.text,
      All-more LineFits c.args.lines.now c.loop-index.index c.index-lines-index.result low c.loop-index.invariant.1 (subst LineFits here c.in_ok-put_line.ensures.fits),
    )
