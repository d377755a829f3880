use Rattle.std.proofs.Common.{refl}
use Rattle.grind_report.specs.Report.{Closed, Unexplored}
use Rattle.grind_report.specs.Naming.{raw_of}
use Rattle.grind_report.proofs.report.render_block.Goals as goal

pub returns-in_ok-bytes-in-Closed : goal.returns-in_ok-bytes-in-Closed
returns-in_ok-bytes-in-Closed c =
    let raw = raw_of c.args.signature.now c.args.goal.now.constants c.in-Closed.proof in (
      Closed c.args.goal.now.name raw,
      c.in_ok-bytes-in-Closed.ensures.text,
      c.in_ok-bytes-in-Closed.ensures.fits,
      rw c.in-Closed.is (raw, refl, c.in_ok-bytes-in-Closed.ensures.proof),
    )

pub returns-in_ok-bytes-in-Unexplored : goal.returns-in_ok-bytes-in-Unexplored
returns-in_ok-bytes-in-Unexplored c =
    (Unexplored c.args.goal.now.name, c.in_ok-bytes-in-Unexplored.ensures.text, c.in_ok-bytes-in-Unexplored.ensures.fits, rw c.in-Unexplored.is refl)
