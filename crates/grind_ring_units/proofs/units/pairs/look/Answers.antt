use Rattle.std.proofs.Common.{length, sym, ◌∙◌, refl}
use Rattle.std.proofs.lemmas.Bool.{false≢true}
use Rattle.grind_ring_units.specs.Scans.{no_pairs}
use Rattle.grind_ring_units.proofs.AgendaLemmas.{look_begin, look_rising, look_within, look_step, look_case, look_marks, look_end}
use Rattle.grind_ring_units.proofs.MarkLemmas.{pairs_case}
use Rattle.grind_ring_units.proofs.units.pairs.look.Goals as goal

pub loop-places-init : goal.loop-places-init
loop-places-init c =
    look_begin c.args.state.now c.args.pairs.now c.args.pairs.now c.new-left.result c.no_marks-marks.result c.requires.left refl
    c.new-left.ensures c.no_marks-marks.ensures

pub found_at_pair-requires-clause-rising : goal.found_at_pair-requires-clause-rising
found_at_pair-requires-clause-rising c =
    look_rising c.args.state.now c.loop-places.rest.now c.in-Some.tail.now c.loop-places.left c.in-Some.places.now c.loop-places.marks
    c.in-Some.ensures.cases.0 c.loop-places.invariant

pub found_at_pair-requires-clause-within : goal.found_at_pair-requires-clause-within
found_at_pair-requires-clause-within c =
    look_within c.args.state.now c.loop-places.rest.now c.in-Some.tail.now c.loop-places.left c.in-Some.places.now c.loop-places.marks
    c.in-Some.ensures.cases.0 c.loop-places.invariant

pub posts_at-posts-requires-clause-within : goal.posts_at-posts-requires-clause-within
posts_at-posts-requires-clause-within c =
    look_within c.args.state.now c.loop-places.rest.now c.in-Some.tail.now c.loop-places.left c.in-Some.places.now c.loop-places.marks
    c.in-Some.ensures.cases.0 c.loop-places.invariant

pub loop-places-preserved-in_ok-keep : goal.loop-places-preserved-in_ok-keep
loop-places-preserved-in_ok-keep c =
    look_step c.args.state.now c.loop-places.rest.now c.in-Some.tail.now c.loop-places.left c.in-Some.places.now c.loop-places.marks
    c.in-Some.ensures.cases.0 c.loop-places.invariant c.in_ok-finding.finding c.may_join-free.result c.posts_at-posts.result
    c.marked-marks.result c.keep.new.left c.in_ok-finding.ensures c.may_join-free.ensures.1
    (λ case. false≢true (sym c.if-is_case.false ∙ c.is_case.ensures.1 case)) c.posts_at-posts.ensures c.marked-marks.ensures
    c.in_ok-keep.ensures

pub loop-places-preserved : goal.loop-places-preserved
loop-places-preserved c =
    look_step c.args.state.now c.loop-places.rest.now c.in-Some.tail.now c.loop-places.left c.in-Some.places.now c.loop-places.marks
    c.in-Some.ensures.cases.0 c.loop-places.invariant c.in_ok-finding.finding c.may_join-free.result c.posts_at-posts.result
    c.marked-marks.result c.keep.new.left c.in_ok-finding.ensures c.may_join-free.ensures.1
    (λ case. false≢true (sym c.if-is_case.false ∙ c.is_case.ensures.1 case)) c.posts_at-posts.ensures c.marked-marks.ensures
    c.in_ok-keep.ensures

pub returns-then-is_case-clause-scan : goal.returns-then-is_case-clause-scan
returns-then-is_case-clause-scan c =
    pairs_case c.args.state.now (length c.args.state.now.basis.elements) no_pairs c.in-Some.places.now c.in_ok-finding.finding
    c.may_join-free.result c.form_of-scan.result c.in_ok-finding.ensures c.may_join-free.ensures.0
    (c.is_case.ensures.0 c.if-is_case.true) c.form_of-scan.ensures

pub returns-then-is_case-clause-left : goal.returns-then-is_case-clause-left
returns-then-is_case-clause-left c =
    look_case c.args.state.now c.loop-places.rest.now c.loop-places.left c.loop-places.marks c.loop-places.invariant c.extend.new.self
    c.in_ok-extend.ensures.ok

pub returns-clause-scan : goal.returns-clause-scan
returns-clause-scan c =
    look_marks c.args.state.now c.loop-places.rest.now c.loop-places.left c.loop-places.marks c.in_default.ensures.cases
    c.loop-places.invariant

pub returns-clause-left : goal.returns-clause-left
returns-clause-left c =
    look_end c.args.state.now c.loop-places.rest.now c.loop-places.left c.loop-places.marks c.in_default.ensures.cases
    c.loop-places.invariant
