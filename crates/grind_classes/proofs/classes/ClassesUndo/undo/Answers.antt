use Rattle.std.specs.Prelude.{◌≡◌, Some, slice_get, take, drop}
use Rattle.std.proofs.Common.{ap, get_or}
use Rattle.grind_classes.specs.Classes.{Grouping}
use Rattle.grind_classes.specs.Trail.{marked_lists, rewound}
use Rattle.grind_undo_trail.proofs.RisingLemmas.{AreRising-within}
use Rattle.grind_classes.proofs.TrailLemmas.{mark_stands, marked-present, marked-take, IsUndoable-undo}
use Rattle.grind_classes.proofs.classes.ClassesUndo.undo.Goals as goal

pub rewind-requires-clause-within : goal.rewind-requires-clause-within
rewind-requires-clause-within c =
    let marked_are : marked_lists c.self.inside.parts c.self.inside.trail c.self.inside.marks ≡ c.args.self.now.marked =
    ap (λ (it : Grouping). it.marked) c.self.view_is in
    let stands : slice_get c.self.inside.marks c.args.mark ≡ Some (get_or c.self.inside.marks c.args.mark 0) =
    mark_stands c.self.inside.parts c.self.inside.trail c.self.inside.marks c.args.self.now.marked c.args.mark marked_are c.requires in
    rw (c.as_slice.ensures.value, c.number-place.ensures)
    (AreRising-within (λ m. m) 0 c.self.inside.marks _ c.args.mark (get_or c.self.inside.marks c.args.mark 0) stands c.self.invariant.rising)

pub invariant_of-self : goal.invariant_of-self
invariant_of-self c =
    let marked_are : marked_lists c.self.inside.parts c.self.inside.trail c.self.inside.marks ≡ c.args.self.now.marked =
    ap (λ (it : Grouping). it.marked) c.self.view_is in
    let stands : slice_get c.self.inside.marks c.args.mark ≡ Some (get_or c.self.inside.marks c.args.mark 0) =
    mark_stands c.self.inside.parts c.self.inside.trail c.self.inside.marks c.args.self.now.marked c.args.mark marked_are c.requires in
    let left : c.rewind.new.trail ≡ take (get_or c.self.inside.marks c.args.mark 0) c.self.inside.trail =
    rw (c.as_slice.ensures.value, c.number-place.ensures) at c.rewind.ensures.left in
    rw (c.truncate.ensures, c.number-place.ensures)
    (IsUndoable-undo c.self.inside.parts c.rewind.new.parts c.self.inside.trail c.rewind.new.trail c.self.inside.marks c.args.mark
    (get_or c.self.inside.marks c.args.mark 0) stands c.self.invariant left c.rewind.ensures.trail)

pub returns-clause-present : goal.returns-clause-present
returns-clause-present c =
    let marked_are : marked_lists c.self.inside.parts c.self.inside.trail c.self.inside.marks ≡ c.args.self.now.marked =
    ap (λ (it : Grouping). it.marked) c.self.view_is in
    let stands : slice_get c.self.inside.marks c.args.mark ≡ Some (get_or c.self.inside.marks c.args.mark 0) =
    mark_stands c.self.inside.parts c.self.inside.trail c.self.inside.marks c.args.self.now.marked c.args.mark marked_are c.requires in
    let lists : c.rewind.new.parts ≡ rewound c.self.inside.parts (drop (get_or c.self.inside.marks c.args.mark 0) c.self.inside.trail) =
    rw (c.as_slice.ensures.value, c.number-place.ensures) at c.rewind.ensures.lists in
    rw (← marked_are, lists)
    (marked-present c.self.inside.parts c.self.inside.trail c.self.inside.marks c.args.mark (get_or c.self.inside.marks c.args.mark 0) stands)

pub returns-clause-marked : goal.returns-clause-marked
returns-clause-marked c =
    let marked_are : marked_lists c.self.inside.parts c.self.inside.trail c.self.inside.marks ≡ c.args.self.now.marked =
    ap (λ (it : Grouping). it.marked) c.self.view_is in
    let stands : slice_get c.self.inside.marks c.args.mark ≡ Some (get_or c.self.inside.marks c.args.mark 0) =
    mark_stands c.self.inside.parts c.self.inside.trail c.self.inside.marks c.args.self.now.marked c.args.mark marked_are c.requires in
    let lists : c.rewind.new.parts ≡ rewound c.self.inside.parts (drop (get_or c.self.inside.marks c.args.mark 0) c.self.inside.trail) =
    rw (c.as_slice.ensures.value, c.number-place.ensures) at c.rewind.ensures.lists in
    let left : c.rewind.new.trail ≡ take (get_or c.self.inside.marks c.args.mark 0) c.self.inside.trail =
    rw (c.as_slice.ensures.value, c.number-place.ensures) at c.rewind.ensures.left in
    rw (← marked_are, lists, left, c.truncate.ensures, c.number-place.ensures)
    (marked-take c.self.inside.parts c.self.inside.trail c.self.inside.marks c.args.mark (get_or c.self.inside.marks c.args.mark 0) stands c.self.invariant)
