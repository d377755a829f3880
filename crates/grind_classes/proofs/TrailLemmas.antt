-- The trail as it grows and is cut.
use Rattle.std.specs.Prelude.{◌≡◌, ℕ, zero, suc, ◌+◌, ◌<◌, ◌≤◌, List, [], ◌∷◌, ◌++◌, Some, length, map, take, drop, slice_get, refl}
use Rattle.std.proofs.Common.{arith, sym, ap, ◌∙◌, subst, inl, inr, get_or}
use Rattle.std.proofs.lemmas.Option.{same_Some}
use Rattle.std.proofs.lemmas.List.{length-append, take-append-drop, drop-append-le, take-append-le, take-map}
use Rattle.grind_undo_trail.proofs.RisingLemmas.{AreRising-more, AreRising-push, AreRising-take, AreRising-within, AreRising-map}
use Rattle.grind_classes.specs.declared.change.Change.{Change}
use Rattle.grind_classes.specs.Trail.{undone, rewound, IsMade, WasMade, IsTrail, IsRewoundOnce, IsUndoable, marked_lists}
use Rattle.grind_classes.proofs.UndoneLemmas.{undone-made}

-- undoing two trails, one after the other
pub rewound-append : (lists : List (List ℕ)) (first second : List Change)
    → rewound lists (first ++ second) ≡ rewound (rewound lists second) first
rewound-append lists [] second = refl
rewound-append lists (change ∷ first) second = ap (undone change) (rewound-append lists first second)

-- a trail that is cut into two
pub IsTrail-cut : (lists : List (List ℕ)) (first second : List Change) → IsTrail lists (first ++ second)
    → IsTrail (rewound lists second) first × IsTrail lists second
IsTrail-cut lists [] second trail = (tt, trail)
IsTrail-cut lists (change ∷ first) second trail =
    let rest = IsTrail-cut lists first second trail.1 in
    ((subst (λ after. IsMade (undone change after) change after) (rewound-append lists first second) trail.0, rest.0), rest.1)

-- one more change
pub IsTrail-push : (before after : List (List ℕ)) (trail : List Change) (change : Change) → IsMade before change after
    → IsTrail before trail → IsTrail after (trail ++ change ∷ [])
IsTrail-push before after [] change made trail = (subst (λ old. IsMade old change after) (sym (undone-made before after change made)) made, tt)
IsTrail-push before after (first ∷ trail) change made old =
    let same : rewound after (trail ++ change ∷ []) ≡ rewound before trail =
    rewound-append after trail (change ∷ []) ∙ ap (λ lists. rewound lists trail) (undone-made before after change made) in
    (subst (λ mid. IsMade (undone first mid) first mid) (sym same) old.0, IsTrail-push before after trail change made old.1)

-- the last change is undone
pub undone_last : (lists : List (List ℕ)) (left : List Change) (last : Change) → IsTrail lists (left ++ last ∷ [])
    → WasMade last lists × IsTrail (undone last lists) left
undone_last lists left last trail =
    let parts = IsTrail-cut lists left (last ∷ []) trail in ((undone last lists, parts.1.0), parts.0)

-- where a change is undone, fewer are left to undo
pub rewound_once : (lists : List (List ℕ)) (trail left : List Change) (last : Change) (len : ℕ) → trail ≡ left ++ last ∷ []
    → len ≤ length left → (rewound lists (drop len trail) ≡ rewound (undone last lists) (drop len left)) × (take len left ≡ take len trail)
rewound_once lists trail left last len is within = rw is (
  ap (λ changes. rewound lists changes) (drop-append-le len left (last ∷ []) within) ∙ rewound-append lists (drop len left) (last ∷ []),
  sym (take-append-le len left (last ∷ []) within),
)

-- one more change leaves the lists at the marks
pub marked-push : (before after : List (List ℕ)) (trail : List Change) (change : Change) (marks : List ℕ) → IsMade before change after
    → IsUndoable before trail marks → marked_lists after (trail ++ change ∷ []) marks ≡ marked_lists before trail marks
marked-push before after trail change marks made undoable =
    AreRising-map (λ mark. mark) 0 marks (length trail) (λ mark. rewound after (drop mark (trail ++ change ∷ []))) (λ mark. rewound before (drop mark trail))
    (λ mark within. ap (λ changes. rewound after changes) (drop-append-le mark trail (change ∷ []) within)
    ∙ rewound-append after (drop mark trail) (change ∷ []) ∙ ap (λ lists. rewound lists (drop mark trail)) (undone-made before after change made))
    undoable.rising

pub IsUndoable-push : (before after : List (List ℕ)) (trail : List Change) (change : Change) (marks : List ℕ) → IsMade before change after
    → IsUndoable before trail marks → IsUndoable after (trail ++ change ∷ []) marks
IsUndoable-push before after trail change marks made undoable = record {
  changes = IsTrail-push before after trail change made undoable.changes;
  rising = AreRising-more (λ mark. mark) 0 marks (length trail) (length (trail ++ change ∷ [])) (omega (arith, length-append trail (change ∷ []))) undoable.rising;
}

-- one more mark
drop_all : {A : Type 0} (xs : List A) → drop (length xs) xs ≡ []
drop_all [] = refl
drop_all (x ∷ xs) = drop_all xs

map_pushed : {A B : Type 0} (f : A → B) (xs : List A) (x : A) → map f (xs ++ x ∷ []) ≡ map f xs ++ f x ∷ []
map_pushed f [] x = refl
map_pushed f (y ∷ xs) x = ap (λ ys. f y ∷ ys) (map_pushed f xs x)

pub marked-mark : (lists : List (List ℕ)) (trail : List Change) (marks : List ℕ) (mark : ℕ) → mark ≡ length trail
    → marked_lists lists trail (marks ++ mark ∷ []) ≡ marked_lists lists trail marks ++ lists ∷ []
marked-mark lists trail marks mark is =
    map_pushed (λ m. rewound lists (drop m trail)) marks mark
    ∙ ap (λ changes. marked_lists lists trail marks ++ rewound lists changes ∷ []) (ap (λ m. drop m trail) is ∙ drop_all trail)

pub IsUndoable-mark : (lists : List (List ℕ)) (trail : List Change) (marks : List ℕ) (mark : ℕ) → mark ≡ length trail
    → IsUndoable lists trail marks → IsUndoable lists trail (marks ++ mark ∷ [])
IsUndoable-mark lists trail marks mark is undoable =
    record { changes = undoable.changes; rising = AreRising-push (λ m. m) 0 marks (length trail) mark is undoable.rising }

-- back at a mark
get_map : {A B : Type 0} (f : A → B) (xs : List A) (k : ℕ) (x : A) → slice_get xs k ≡ Some x → slice_get (map f xs) k ≡ Some (f x)
get_map f [] k x stands = absurd cc
get_map f (y ∷ xs) zero x stands = ap (λ z. Some (f z)) (same_Some y x stands)
get_map f (y ∷ xs) (suc k) x stands = get_map f xs k x stands

length_take : {A : Type 0} (n : ℕ) (xs : List A) → n ≤ length xs → length (take n xs) ≡ n
length_take zero xs within = refl
length_take (suc n) [] within = absurd (omega (arith, within))
length_take (suc n) (x ∷ xs) within = ap suc (length_take n xs (omega (arith, within)))

drop_take : {A : Type 0} (m n : ℕ) (xs : List A) → m ≤ n → drop m xs ≡ drop m (take n xs) ++ drop n xs
drop_take zero n xs order = sym (take-append-drop n xs)
drop_take (suc m) zero xs order = absurd (omega (arith, order))
drop_take (suc m) (suc n) [] order = refl
drop_take (suc m) (suc n) (x ∷ xs) order = drop_take m n xs (omega (arith, order))

pub marked-present : (lists : List (List ℕ)) (trail : List Change) (marks : List ℕ) (k mark : ℕ) → slice_get marks k ≡ Some mark
    → slice_get (marked_lists lists trail marks) k ≡ Some (rewound lists (drop mark trail))
marked-present lists trail marks k mark stands = get_map (λ m. rewound lists (drop m trail)) marks k mark stands

pub marked-take : (lists : List (List ℕ)) (trail : List Change) (marks : List ℕ) (k mark : ℕ) → slice_get marks k ≡ Some mark
    → IsUndoable lists trail marks
    → marked_lists (rewound lists (drop mark trail)) (take mark trail) (take k marks) ≡ take k (marked_lists lists trail marks)
marked-take lists trail marks k mark stands undoable =
    AreRising-map (λ m. m) 0 (take k marks) mark (λ m. rewound (rewound lists (drop mark trail)) (drop m (take mark trail))) (λ m. rewound lists (drop m trail))
    (λ m within. sym (rewound-append lists (drop m (take mark trail)) (drop mark trail))
    ∙ ap (λ changes. rewound lists changes) (sym (drop_take m mark trail within)))
    (AreRising-take (λ m. m) 0 marks (length trail) k mark stands undoable.rising)
    ∙ sym (take-map (λ m. rewound lists (drop m trail)) k marks)

pub IsUndoable-undo : (lists new : List (List ℕ)) (trail left : List Change) (marks : List ℕ) (k mark : ℕ) → slice_get marks k ≡ Some mark
    → IsUndoable lists trail marks → left ≡ take mark trail → IsTrail new left → IsUndoable new left (take k marks)
IsUndoable-undo lists new trail left marks k mark stands undoable is changes = record {
  changes = changes;
  rising =
      let within : mark ≤ length trail = AreRising-within (λ m. m) 0 marks (length trail) k mark stands undoable.rising in
      let count : length left ≡ mark = ap (λ cs. length cs) is ∙ length_take mark trail within in
      rw count (AreRising-take (λ m. m) 0 marks (length trail) k mark stands undoable.rising);
}

-- the last change of a trail that is longer than len is undone
pub rewound_step : (lists new : List (List ℕ)) (trail left : List Change) (len : ℕ) → IsRewoundOnce lists trail new left
    → len < length trail
    → (take len left ≡ take len trail) × (rewound new (drop len left) ≡ rewound lists (drop len trail)) × (len ≤ length left) × (length left < length trail)
rewound_step lists new trail left len once long = elim once.change [
  | inl none ↦ absurd (omega (arith, long, ap (λ (cs : List Change). length cs) none))
  | inr parts ↦
      let count : length trail ≡ length left + 1 =
      ap (λ (cs : List Change). length cs) parts.1 ∙ length-append left (parts.0 ∷ []) in
      let within : len ≤ length left = omega (arith, count, long) in
      let both = rewound_once lists trail left parts.0 len parts.1 within in
      (both.1, ap (λ (old : List (List ℕ)). rewound old (drop len left)) parts.2 ∙ sym both.0, within, omega (arith, count))
]

-- an item of a list
pub get_stands : {A : Type 0} (xs : List A) (k : ℕ) (d : A) → k < length xs → slice_get xs k ≡ Some (get_or xs k d)
get_stands [] k d within = absurd (omega (arith, within))
get_stands (x ∷ xs) zero d within = refl
get_stands (x ∷ xs) (suc k) d within = get_stands xs k d (omega (arith, within))

marked_length : (lists : List (List ℕ)) (trail : List Change) (marks : List ℕ) → length (marked_lists lists trail marks) ≡ length marks
marked_length lists trail [] = refl
marked_length lists trail (mark ∷ marks) = ap suc (marked_length lists trail marks)

-- a mark in force stands for a length
pub mark_stands : (lists : List (List ℕ)) (trail : List Change) (marks : List ℕ) (marked : List (List (List ℕ))) (k : ℕ)
    → marked_lists lists trail marks ≡ marked → k < length marked → slice_get marks k ≡ Some (get_or marks k 0)
mark_stands lists trail marks marked k is within =
    get_stands marks k 0 (omega (arith, within, ap (λ (vs : List (List (List ℕ))). length vs) is, marked_length lists trail marks))
