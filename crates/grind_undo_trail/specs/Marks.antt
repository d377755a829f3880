-- The views at the marks in force, and what calls may do to them.
use Rattle.std.specs.Prelude.{◌≡◌, ℕ, ◌+◌, ◌≤◌, List, [], ◌∷◌, ◌++◌, Some, length, take, slice_get}

-- the marks that were in force still are, and stand for the same views
abbrev pub Keeps : {V : Type 0} → List V → List V → Type 0
Keeps before after = take (length before) after ≡ before

-- One call on a value that is now this and has these views at its marks: what it is then, and the views at its marks.
pub data Calls (V : Type 0) : V → List V → V → List V → Type 0 where
  -- a call that is neither mark nor undo, refused or not
  other : {now : V} {marked : List V} (next : V) → Calls V now marked next marked
  -- a mark
  marks : {now : V} {marked : List V} → Calls V now marked now (marked ++ now ∷ [])
  -- a mark that was refused
  refused : {now : V} {marked : List V} → Calls V now marked now marked
  -- undo of a mark in force
  undoes : {now : V} {marked : List V} (mark : ℕ) (view : V) → slice_get marked mark ≡ Some view
      → Calls V now marked view (take mark marked)

-- Calls one after another, none of which ends one of the first so many marks.
pub data Runs (V : Type 0) (kept : ℕ) : V → List V → V → List V → Type 0 where
  -- no calls
  done : {now : V} {marked : List V} → Runs V kept now marked now marked
  -- a call, and then others
  then : {now mid last : V} {marked between after : List V} → Calls V now marked mid between → kept ≤ length between
      → Runs V kept mid between last after → Runs V kept now marked last after

-- the law: a mark, any calls that do not end it, and then its undo lead to what the value was, with the marks that it had
abbrev pub UndoIsExact : Type 0 → Type 0
UndoIsExact V = (now last view : V) (marked after : List V)
    → Runs V (length marked + 1) now (marked ++ now ∷ []) last after
    → slice_get after (length marked) ≡ Some view → (view ≡ now) × (take (length marked) after ≡ marked)
