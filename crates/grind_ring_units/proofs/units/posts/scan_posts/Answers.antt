use Rattle.std.proofs.Common.{sym, ◌∙◌}
use Rattle.std.proofs.lemmas.Bool.{false≢true}
use Rattle.grind_ring_units.proofs.MarkLemmas.{posts_begin, posts_step, posts_case, posts_end}
use Rattle.grind_ring_units.proofs.units.posts.scan_posts.Goals as goal

pub loop-it-init : goal.loop-it-init
loop-it-init c =
    posts_begin c.args.state.now c.as_slice-rest.result.now c.no_marks-marks.result c.as_slice-rest.ensures.value c.no_marks-marks.ensures

pub loop-it-preserved-else-is_case : goal.loop-it-preserved-else-is_case
loop-it-preserved-else-is_case c =
    posts_step c.args.state.now c.loop-it.rest.now c.in-Some.tail.now c.in-Some.it.now c.loop-it.marks c.in-Some.ensures.cases.0
    c.loop-it.invariant c.in_ok-finding.finding c.may_join-free.result c.marked-marks.result c.in_ok-finding.ensures
    c.may_join-free.ensures.0 c.may_join-free.ensures.1
    (λ case. false≢true (sym c.if-is_case.false ∙ c.is_case.ensures.1 case)) c.marked-marks.ensures

pub loop-it-preserved : goal.loop-it-preserved
loop-it-preserved c =
    posts_step c.args.state.now c.loop-it.rest.now c.in-Some.tail.now c.in-Some.it.now c.loop-it.marks c.in-Some.ensures.cases.0
    c.loop-it.invariant c.in_ok-finding.finding c.may_join-free.result c.marked-marks.result c.in_ok-finding.ensures
    c.may_join-free.ensures.0 c.may_join-free.ensures.1
    (λ case. false≢true (sym c.if-is_case.false ∙ c.is_case.ensures.1 case)) c.marked-marks.ensures

pub returns-then-is_case : goal.returns-then-is_case
returns-then-is_case c =
    posts_case c.args.state.now c.loop-it.rest.now c.in-Some.tail.now c.in-Some.it.now c.loop-it.marks c.in-Some.ensures.cases.0
    c.loop-it.invariant c.in_ok-finding.finding c.may_join-free.result c.in_ok-scan.scan c.in_ok-finding.ensures
    c.may_join-free.ensures.0 (c.is_case.ensures.0 c.if-is_case.true) c.in_ok-scan.ensures

pub returns : goal.returns
returns c =
    posts_end c.args.state.now c.loop-it.rest.now c.loop-it.marks c.in_default.ensures.cases c.loop-it.invariant
