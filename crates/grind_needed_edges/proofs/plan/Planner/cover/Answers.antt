use Rattle.std.specs.Prelude.{◌≡◌, Bool, List, true, false, slice_index_or}
use Rattle.std.proofs.Common.{arith, sym, ap, ◌∙◌}
use Rattle.grind_needed_edges.specs.declared.why.Why.TheVariants as why
use Rattle.grind_needed_edges.specs.Needed.{IsGround}
use Rattle.grind_needed_edges.proofs.JoinLemmas.{ends_active}
use Rattle.grind_needed_edges.proofs.PlanLemmas.{within_of_some, reason_read, reason_stands, edge_read, line_covered, congruence_covered, needed_args}
use Rattle.grind_needed_edges.proofs.plan.Planner.cover.Goals as goal

pub bounds : goal.bounds
bounds c =
    let edges = c.args.self.now.closure.now.edges in
    let read = edge_read edges c.edges-edges.result.now c.args.place c.index-edges-place.result c.edges-edges.ensures.value
    (omega (arith, c.requires.place, c.requires.within)) c.index-edges-place.is in
    within_of_some (IsGround c.args.self.now.terms.now.nodes edges c.args.place c.index-edges-place.result) c.args.self.now.whys.now
    c.index-edges-place.result.why (c.requires.grounds c.args.place c.index-edges-place.result c.requires.place read)

pub cover_pair-requires-clause-left : goal.cover_pair-requires-clause-left
cover_pair-requires-clause-left c =
    let read = edge_read c.args.self.now.closure.now.edges c.edges-edges.result.now c.args.place c.index-edges-place.result
    c.edges-edges.ensures.value (omega (arith, c.requires.place, c.requires.within)) c.index-edges-place.is in
    (ends_active c.args.self.now.closure.now c.args.place c.index-edges-place.result c.edges-edges.ensures.tied read).0

pub cover_pair-requires-clause-right : goal.cover_pair-requires-clause-right
cover_pair-requires-clause-right c =
    let read = edge_read c.args.self.now.closure.now.edges c.edges-edges.result.now c.args.place c.index-edges-place.result
    c.edges-edges.ensures.value (omega (arith, c.requires.place, c.requires.within)) c.index-edges-place.is in
    (ends_active c.args.self.now.closure.now c.args.place c.index-edges-place.result c.edges-edges.ensures.tied read).1

pub cover_pair-requires-clause-joined : goal.cover_pair-requires-clause-joined
cover_pair-requires-clause-joined c =
    let edges = c.args.self.now.closure.now.edges in
    let read = edge_read edges c.edges-edges.result.now c.args.place c.index-edges-place.result c.edges-edges.ensures.value
    (omega (arith, c.requires.place, c.requires.within)) c.index-edges-place.is in
    reason_read (IsGround c.args.self.now.terms.now.nodes edges c.args.place c.index-edges-place.result) c.args.self.now.whys.now
    c.index-edges-place.result.why (why.Line 0) why.Congruence c.in-Congruence.is
    (c.requires.grounds c.args.place c.index-edges-place.result c.requires.place read)

pub returns-in-Line-clause-covers : goal.returns-in-Line-clause-covers
returns-in-Line-clause-covers c =
    let edges = c.args.self.now.closure.now.edges in
    let read = edge_read edges c.edges-edges.result.now c.args.place c.index-edges-place.result c.edges-edges.ensures.value
    (omega (arith, c.requires.place, c.requires.within)) c.index-edges-place.is in
    line_covered c.args.self.now.terms.now.nodes edges c.args.self.now.whys.now c.args.plan.now c.args.place c.index-edges-place.result
    c.in-Line.field-0 read c.in-Line.is

pub returns-in_ok-cover_pair-in-Congruence-clause-covers : goal.returns-in_ok-cover_pair-in-Congruence-clause-covers
returns-in_ok-cover_pair-in-Congruence-clause-covers c =
    let edges = c.args.self.now.closure.now.edges in
    let read = edge_read edges c.edges-edges.result.now c.args.place c.index-edges-place.result c.edges-edges.ensures.value
    (omega (arith, c.requires.place, c.requires.within)) c.index-edges-place.is in
    congruence_covered c.args.self.now.terms.now.nodes edges c.args.self.now.whys.now c.cover_pair.new.plan c.args.place
    c.index-edges-place.result read c.in_ok-cover_pair-in-Congruence.ensures.covers

pub cover_pair-requires-clause-needed : goal.cover_pair-requires-clause-needed
cover_pair-requires-clause-needed c = λ x y args.
    let nodes = c.args.self.now.terms.now.nodes in
    let edges = c.args.self.now.closure.now.edges in
    let whys = c.args.self.now.whys.now in
    let read = edge_read edges c.edges-edges.result.now c.args.place c.index-edges-place.result c.edges-edges.ensures.value
    (omega (arith, c.requires.place, c.requires.within)) c.index-edges-place.is in
    let below = within_of_some (IsGround nodes edges c.args.place c.index-edges-place.result) whys
    c.index-edges-place.result.why (c.requires.grounds c.args.place c.index-edges-place.result c.requires.place read) in
    let on : slice_index_or c.args.plan.now.needed c.args.place false ≡ true =
    ap (λ (bits : List Bool). slice_index_or bits c.args.place false) (sym c.as_slice.ensures.value) ∙ sym c.is_needed.ensures
    ∙ c.if-not-is_needed.false in
    needed_args nodes edges whys c.args.self.now.left c.args.self.now.right c.args.plan.now c.args.place c.index-edges-place.result x y
    c.requires.ways (c.requires.ways.on_ways c.args.place on) read
    (reason_stands whys c.index-edges-place.result.why why.Congruence below c.in-Congruence.is) args
