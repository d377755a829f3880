use Rattle.std.specs.Prelude.{◌≡◌, Some, length, slice_get, take}
use Rattle.std.proofs.Common.{arith, sym, ap, ◌∙◌, get_or}
use Rattle.grind_congruence.specs.declared.view.Noted.{Noted}
use Rattle.grind_congruence.specs.Congruence.{Congruence}
use Rattle.grind_congruence.specs.Marks.{cut, views}
use Rattle.grind_congruence.proofs.ForestLemmas.{AreJoinedBy-take}
use Rattle.grind_congruence.proofs.MarkLemmas.{get_stands, IsKept-undo, undone_views, views-length}
use Rattle.grind_congruence.proofs.closure.ClosureUndo.undo.Goals as goal

pub bounds-as_slice-place : goal.bounds-as_slice-place
bounds-as_slice-place c =
    let count : length c.args.self.now.marked ≡ length c.self.inside.marks =
    sym (ap (λ (t : Congruence). length t.marked) c.self.view_is)
    ∙ views-length c.self.inside.classes.marked c.self.inside.edges c.self.inside.agenda c.self.inside.marks c.self.invariant.0.count in
    rw (c.number-place.ensures, c.as_slice.ensures.value, ← count) c.requires

pub undo-requires : goal.undo-requires
undo-requires c =
    let count : length c.args.self.now.marked ≡ length c.self.inside.marks =
    sym (ap (λ (t : Congruence). length t.marked) c.self.view_is)
    ∙ views-length c.self.inside.classes.marked c.self.inside.edges c.self.inside.agenda c.self.inside.marks c.self.invariant.0.count in
    omega (arith, c.requires, count, c.self.invariant.0.count)

-- the mark that is undone
abbrev blank : Noted
blank = record { edges = 0; keys = 0; applications = 0; work = 0; cursor = 0 }

abbrev mark_of : (c : goal.After-truncate-3) → Noted
mark_of c = get_or c.self.inside.marks c.args.mark blank

stands : (c : goal.After-truncate-3) → slice_get c.self.inside.marks c.args.mark ≡ Some (mark_of c)
stands c =
    let count : length c.args.self.now.marked ≡ length c.self.inside.marks =
    sym (ap (λ (t : Congruence). length t.marked) c.self.view_is)
    ∙ views-length c.self.inside.classes.marked c.self.inside.edges c.self.inside.agenda c.self.inside.marks c.self.invariant.0.count in
    get_stands c.self.inside.marks c.args.mark blank (omega (arith, c.requires, count))

edges_are : (c : goal.After-truncate-3) → c.truncate.new.self ≡ take (mark_of c).edges c.self.inside.edges
edges_are c = rw (c.as_slice.ensures.value, c.number-place.ensures) at c.truncate.ensures

agenda_is : (c : goal.After-truncate-3) → c.undo-2.new.self ≡ cut (mark_of c) c.self.inside.agenda
agenda_is c = rw (c.as_slice.ensures.value, c.number-place.ensures) at c.undo-2.ensures

pub invariant_of-self : goal.invariant_of-self
invariant_of-self c =
    let joins_are : c.truncate-2.new.self ≡ take (mark_of c).edges c.self.inside.forest =
    rw (c.as_slice.ensures.value, c.number-place.ensures) at c.truncate-2.ensures in
    rw (edges_are c, joins_are, agenda_is c, c.truncate-3.ensures, c.number-place.ensures) (
      IsKept-undo c.self.inside.classes c.undo.new.self c.self.inside.edges c.self.inside.agenda c.self.inside.marks c.args.mark
          (mark_of c) c.self.invariant.0 (stands c) c.undo.ensures.present c.undo.ensures.marked,
      AreJoinedBy-take c.self.inside.edges c.self.inside.forest (mark_of c).edges c.self.invariant.1,
    )

pub returns-clause-present : goal.returns-clause-present
returns-clause-present c =
    let marked_are : views c.self.inside.classes.marked c.self.inside.edges c.self.inside.agenda c.self.inside.marks ≡ c.args.self.now.marked =
    ap (λ (t : Congruence). t.marked) c.self.view_is in
    rw (edges_are c, agenda_is c, ← marked_are)
    (undone_views c.self.inside.classes c.undo.new.self c.self.inside.edges c.self.inside.agenda c.self.inside.marks c.args.mark
    (mark_of c) c.self.invariant.0 (stands c) c.undo.ensures.present c.undo.ensures.marked).0

pub returns-clause-marked : goal.returns-clause-marked
returns-clause-marked c =
    let marked_are : views c.self.inside.classes.marked c.self.inside.edges c.self.inside.agenda c.self.inside.marks ≡ c.args.self.now.marked =
    ap (λ (t : Congruence). t.marked) c.self.view_is in
    rw (edges_are c, agenda_is c, c.truncate-3.ensures, c.number-place.ensures, ← marked_are)
    (undone_views c.self.inside.classes c.undo.new.self c.self.inside.edges c.self.inside.agenda c.self.inside.marks c.args.mark
    (mark_of c) c.self.invariant.0 (stands c) c.undo.ensures.present c.undo.ensures.marked).1
