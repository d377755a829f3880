-- The trail of changes, and the lists that undo gives back.
use Rattle.std.specs.Prelude.{◌≡◌, ◌≢◌, ℕ, ◌-◌, List, [], ◌∷◌, ◌++◌, length, map, take, drop, slice_set, ◌⊎◌}
use Rattle.grind_undo_trail.specs.Rising.{AreRising}
use Rattle.grind_classes.specs.declared.change.Change.{Change}
use Rattle.grind_classes.specs.declared.change.Change.TheVariants.{Activated, Joined}
use Rattle.grind_classes.specs.Classes.{members_of, IsIn, IsActive, IsPartition, with_class, joined}

-- two classes, which can be joined
pub record AreJoinable (lists : List (List ℕ)) (kept gone : ℕ) : Type 0 where
  pub classes : IsPartition lists
  pub kept_in : IsIn lists kept kept
  pub gone_in : IsIn lists gone gone
  pub differ : kept ≢ gone

-- the lists once the members that moved are back under their old root
abbrev pub parted : List (List ℕ) → ℕ → ℕ → List ℕ → List (List ℕ)
parted lists kept gone moved =
    slice_set (slice_set lists gone moved) kept (take (length (members_of lists kept) - length moved) (members_of lists kept))

-- the lists once a change is undone
abbrev pub undone : Change → List (List ℕ) → List (List ℕ)
undone (Activated node len blank) lists = take len (slice_set lists node blank)
undone (Joined kept gone moved) lists = parted lists kept gone moved

-- the change led from these lists to those
abbrev pub IsMade : List (List ℕ) → Change → List (List ℕ) → Type 0
IsMade before (Activated node len blank) after =
    IsPartition before × ¬ IsActive before node × (len ≡ length before) × (blank ≡ []) × (after ≡ with_class before node)
IsMade before (Joined kept gone moved) after =
    AreJoinable before kept gone × (moved ≡ members_of before gone) × (after ≡ joined before kept gone)

-- some lists were changed so to these
abbrev pub WasMade : Change → List (List ℕ) → Type 0
WasMade change after = (before : List (List ℕ)) × IsMade before change after

abbrev pub WasAlone : ℕ → ℕ → List ℕ → List (List ℕ) → Type 0
WasAlone node len blank after = WasMade (Activated node len blank) after

abbrev pub WasJoined : ℕ → ℕ → List ℕ → List (List ℕ) → Type 0
WasJoined kept gone moved after = WasMade (Joined kept gone moved) after

-- the lists once all of these changes are undone, the last of them first
abbrev pub rewound : List (List ℕ) → List Change → List (List ℕ)
rewound lists [] = lists
rewound lists (change ∷ changes) = undone change (rewound lists changes)

-- the changes led to these lists
abbrev pub IsTrail : List (List ℕ) → List Change → Type 0
IsTrail lists [] = Unit {0}
IsTrail lists (change ∷ changes) =
    IsMade (rewound lists (change ∷ changes)) change (rewound lists changes) × IsTrail lists changes

-- the last change is undone, and no longer on the trail
pub record IsRewoundOnce (lists : List (List ℕ)) (trail : List Change) (new : List (List ℕ)) (left : List Change) : Type 0 where
  pub change : (trail ≡ []) ⊎ ((last : Change) × (trail ≡ left ++ last ∷ []) × (new ≡ undone last lists))
  pub still : IsTrail new left

-- the lists at the marks, each of which notes how long the trail was
abbrev pub marked_lists : List (List ℕ) → List Change → List ℕ → List (List (List ℕ))
marked_lists lists trail marks = map (λ mark. rewound lists (drop mark trail)) marks

-- the trail leads back to each mark
pub record IsUndoable (lists : List (List ℕ)) (trail : List Change) (marks : List ℕ) : Type 0 where
  pub changes : IsTrail lists trail
  pub rising : AreRising (λ mark. mark) 0 marks (length trail)
