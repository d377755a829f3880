use Rattle.std.specs.Prelude.{◌≡◌, Bool, List, true, false, slice_index_or}
use Rattle.std.proofs.Common.{arith, sym, ap, ◌∙◌}
use Rattle.grind_needed_edges.specs.declared.why.Why.TheVariants as why
use Rattle.grind_explain.specs.Explained.{IsReason}
use Rattle.grind_needed_edges.proofs.JoinLemmas.{ends_active}
use Rattle.grind_needed_edges.proofs.PairLemmas.{HasNumber-noted}
use Rattle.grind_explain.proofs.NotedLemmas.{Goes-noted, AreLines-noted}
use Rattle.grind_needed_edges.proofs.PlanLemmas.{edge_read, within_of_some, reason_read, reason_stands}
use Rattle.grind_explain.proofs.KnownLemmas.{IsKnown-read, IsPlanned-on}
use Rattle.grind_explain.proofs.known.Course.tell_place.Goals as goal

pub bounds : goal.bounds
bounds c =
    let edges = c.args.self.now.closure.now.edges in
    let read = edge_read edges c.edges-edges.result.now c.args.place c.index-edges-place.result c.edges-edges.ensures.value
    (omega (arith, c.requires.place, c.requires.count)) c.index-edges-place.is in
    within_of_some (IsReason c.args.proof.now c.args.self.now.writer.now.branch edges c.args.place c.index-edges-place.result)
    c.args.self.now.whys.now c.index-edges-place.result.why (c.requires.given.reasons c.args.place c.index-edges-place.result c.requires.place read)

pub bounds-self-edge : goal.bounds-self-edge
bounds-self-edge c =
    let edges = c.args.self.now.closure.now.edges in
    let read = edge_read edges c.edges-edges.result.now c.args.place c.index-edges-place.result c.edges-edges.ensures.value
    (omega (arith, c.requires.place, c.requires.count)) c.index-edges-place.is in
    within_of_some (IsReason c.args.proof.now c.args.self.now.writer.now.branch edges c.args.place c.index-edges-place.result)
    c.args.self.now.whys.now c.index-edges-place.result.why (c.requires.given.reasons c.args.place c.index-edges-place.result c.requires.place read)

pub tell_pair-requires-clause-left : goal.tell_pair-requires-clause-left
tell_pair-requires-clause-left c =
    let read = edge_read c.args.self.now.closure.now.edges c.edges-edges.result.now c.args.place c.index-edges-place.result
    c.edges-edges.ensures.value (omega (arith, c.requires.place, c.requires.count)) c.index-edges-place.is in
    (ends_active c.args.self.now.closure.now c.args.place c.index-edges-place.result c.edges-edges.ensures.tied read).0

pub tell_pair-requires-clause-right : goal.tell_pair-requires-clause-right
tell_pair-requires-clause-right c =
    let read = edge_read c.args.self.now.closure.now.edges c.edges-edges.result.now c.args.place c.index-edges-place.result
    c.edges-edges.ensures.value (omega (arith, c.requires.place, c.requires.count)) c.index-edges-place.is in
    (ends_active c.args.self.now.closure.now c.args.place c.index-edges-place.result c.edges-edges.ensures.tied read).1

pub tell_pair-requires-clause-known : goal.tell_pair-requires-clause-known
tell_pair-requires-clause-known c =
    let edges = c.args.self.now.closure.now.edges in
    let read = edge_read edges c.edges-edges.result.now c.args.place c.index-edges-place.result c.edges-edges.ensures.value
    (omega (arith, c.requires.place, c.requires.count)) c.index-edges-place.is in
    let joined = reason_read (IsReason c.args.proof.now c.args.self.now.writer.now.branch edges c.args.place c.index-edges-place.result)
    c.args.self.now.whys.now c.index-edges-place.result.why (why.Line 0) why.Congruence c.in-Congruence.is
    (c.requires.given.reasons c.args.place c.index-edges-place.result c.requires.place read) in
    (c.args.place, c.requires.before, joined)

pub tell_pair-requires-clause-planned : goal.tell_pair-requires-clause-planned
tell_pair-requires-clause-planned c =
    let edges = c.args.self.now.closure.now.edges in
    let read = edge_read edges c.edges-edges.result.now c.args.place c.index-edges-place.result c.edges-edges.ensures.value
    (omega (arith, c.requires.place, c.requires.count)) c.index-edges-place.is in
    let below = within_of_some (IsReason c.args.proof.now c.args.self.now.writer.now.branch edges c.args.place c.index-edges-place.result)
    c.args.self.now.whys.now c.index-edges-place.result.why (c.requires.given.reasons c.args.place c.index-edges-place.result c.requires.place read) in
    let on : slice_index_or c.args.self.now.plan.now.needed c.args.place false ≡ true =
    ap (λ (bits : List Bool). slice_index_or bits c.args.place false) (sym c.as_slice.ensures.value) ∙ sym c.is_needed.ensures
    ∙ c.if-not-is_needed.false in
    c.requires.given.covers c.args.place on c.index-edges-place.result read
    (reason_stands c.args.self.now.whys.now c.index-edges-place.result.why why.Congruence below c.in-Congruence.is)

pub tell_pair-requires-clause-wanted : goal.tell_pair-requires-clause-wanted
tell_pair-requires-clause-wanted c =
    let edges = c.args.self.now.closure.now.edges in
    let read = edge_read edges c.edges-edges.result.now c.args.place c.index-edges-place.result c.edges-edges.ensures.value
    (omega (arith, c.requires.place, c.requires.count)) c.index-edges-place.is in
    let below = within_of_some (IsReason c.args.proof.now c.args.self.now.writer.now.branch edges c.args.place c.index-edges-place.result)
    c.args.self.now.whys.now c.index-edges-place.result.why (c.requires.given.reasons c.args.place c.index-edges-place.result c.requires.place read) in
    let on : slice_index_or c.args.self.now.plan.now.needed c.args.place false ≡ true =
    ap (λ (bits : List Bool). slice_index_or bits c.args.place false) (sym c.as_slice.ensures.value) ∙ sym c.is_needed.ensures
    ∙ c.if-not-is_needed.false in
    IsPlanned-on edges c.args.self.now.whys.now c.args.self.now.plan.now c.args.place c.index-edges-place.result
    (c.requires.given.on_ways c.args.place on) read
    (reason_stands c.args.self.now.whys.now c.index-edges-place.result.why why.Congruence below c.in-Congruence.is)

pub returns-in_ok-note-in-Line-clause-goes : goal.returns-in_ok-note-in-Line-clause-goes
returns-in_ok-note-in-Line-clause-goes c =
    Goes-noted c.args.proof.now c.args.told.now c.note.new.self c.index-edges-place.result.left c.index-edges-place.result.right
    c.in-Line.number c.in_ok-note-in-Line.ensures

pub returns-in_ok-note-in-Line-clause-lines : goal.returns-in_ok-note-in-Line-clause-lines
returns-in_ok-note-in-Line-clause-lines c =
    let edges = c.args.self.now.closure.now.edges in
    let read = edge_read edges c.edges-edges.result.now c.args.place c.index-edges-place.result c.edges-edges.ensures.value
    (omega (arith, c.requires.place, c.requires.count)) c.index-edges-place.is in
    AreLines-noted c.args.proof.now c.args.self.now.writer.now.branch c.args.told.now c.note.new.self c.index-edges-place.result.left
    c.index-edges-place.result.right c.in-Line.number c.requires.lines
    (reason_read (IsReason c.args.proof.now c.args.self.now.writer.now.branch edges c.args.place c.index-edges-place.result)
    c.args.self.now.whys.now c.index-edges-place.result.why (why.Line 0) (why.Line c.in-Line.number) c.in-Line.is
    (c.requires.given.reasons c.args.place c.index-edges-place.result c.requires.place read))
    c.in_ok-note-in-Line.ensures

pub returns-in_ok-note-in-Line-clause-known : goal.returns-in_ok-note-in-Line-clause-known
returns-in_ok-note-in-Line-clause-known c = λ is.
    let edges = c.args.self.now.closure.now.edges in
    let read = edge_read edges c.edges-edges.result.now c.args.place c.index-edges-place.result c.edges-edges.ensures.value
    (omega (arith, c.requires.place, c.requires.count)) c.index-edges-place.is in
    IsKnown-read edges c.note.new.self c.args.place c.index-edges-place.result read
    (HasNumber-noted c.args.told.now c.note.new.self c.index-edges-place.result.left c.index-edges-place.result.right c.in-Line.number
    c.in_ok-note-in-Line.ensures)

pub returns-in_ok-tell_pair-in-Congruence-clause-known : goal.returns-in_ok-tell_pair-in-Congruence-clause-known
returns-in_ok-tell_pair-in-Congruence-clause-known c = λ is.
    let edges = c.args.self.now.closure.now.edges in
    let read = edge_read edges c.edges-edges.result.now c.args.place c.index-edges-place.result c.edges-edges.ensures.value
    (omega (arith, c.requires.place, c.requires.count)) c.index-edges-place.is in
    IsKnown-read edges c.tell_pair.new.told c.args.place c.index-edges-place.result read c.in_ok-tell_pair-in-Congruence.ensures.has
