use Rattle.std.proofs.Common.{◌≡◌, ◌+◌, ◌<◌, length, get_or, subst, ap, arith}
use Rattle.std.proofs.lemmas.List.Elements.{All-more}
use Rattle.grind_claims.specs.declared.proof.Branch.{Branch}
use Rattle.grind_report.specs.Report.{branch_words, BranchFits}
use Rattle.grind_report.proofs.PrintedLines.{next_line}
use Rattle.grind_report.proofs.report.block.put_branches.Goals as goal

pub loop-index-preserved : goal.loop-index-preserved
loop-index-preserved c =
    let branch : Branch = c.index-branches-index.result in
    let here : c.index-branches-index.result ≡ get_or c.args.branches.now c.loop-index.index c.index-branches-index.result = cc in
    let low : c.loop-index.index < length c.args.branches.now = omega (arith, ap length c.as_slice-branches.ensures.value) in (
      next_line branch_words 1 (c.loop-index.index + 1) c.args.branches.now c.loop-index.index c.index-branches-index.result c.put_count.new.out c.loop-index.out c.put_branch.new.out low here c.loop-index.invariant.0 (omega arith) c.in_ok-put_branch.ensures.text,
      All-more BranchFits c.args.branches.now c.loop-index.index c.index-branches-index.result low c.loop-index.invariant.1 (subst BranchFits here c.in_ok-put_branch.ensures.fits),
    )
