-- After any calls, undo gives the view at the mark.
use Rattle.std.specs.Prelude.{◌≡◌, ℕ, zero, suc, ◌+◌, ◌≤◌, ◌<◌, List, [], ◌∷◌, ◌++◌, Some, length, take, slice_get, refl}
use Rattle.std.proofs.Common.{arith, sym, ap, ◌∙◌}
use Rattle.std.proofs.lemmas.Option.{same_Some}
use Rattle.std.proofs.lemmas.List.{take-append-le, length-append}
use Rattle.grind_undo_trail.specs.Marks.{Keeps, Calls, Runs, UndoIsExact}
use Rattle.grind_undo_trail.specs.Marks.Calls.{other, marks, refused, undoes}
use Rattle.grind_undo_trail.specs.Marks.Runs.{done, then}

-- the first items of a longer list
take_less : {V : Type 0} (k n : ℕ) (xs : List V) → k ≤ n → take k (take n xs) ≡ take k xs
take_less zero n xs order = refl
take_less (suc k) zero xs order = absurd (omega (arith, order))
take_less (suc k) (suc n) [] order = refl
take_less (suc k) (suc n) (x ∷ xs) order = ap (λ ys. x ∷ ys) (take_less k n xs (omega (arith, order)))

length_take_le : {V : Type 0} (k : ℕ) (xs : List V) → length (take k xs) ≤ k
length_take_le zero xs = omega arith
length_take_le (suc k) [] = omega arith
length_take_le (suc k) (x ∷ xs) = omega (arith, length_take_le k xs)

length_take_most : {V : Type 0} (k : ℕ) (xs : List V) → length (take k xs) ≤ length xs
length_take_most zero xs = omega arith
length_take_most (suc k) [] = omega arith
length_take_most (suc k) (x ∷ xs) = omega (arith, length_take_most k xs)

-- a call that does not end one of the first marks leaves their views
one_call : {V : Type 0} (kept : ℕ) {now next : V} {marked after : List V} → Calls V now marked next after
    → kept ≤ length marked → kept ≤ length after → take kept after ≡ take kept marked
one_call kept (other next) within still = refl
one_call {V} kept (marks {now} {marked}) within still = take-append-le kept marked (now ∷ []) within
one_call kept refused within still = refl
one_call kept (undoes {now} {marked} mark view stands) within still =
    take_less kept mark marked (omega (arith, still, length_take_le mark marked))

-- and so do calls one after another
all_calls : {V : Type 0} (kept : ℕ) {now last : V} {marked after : List V} → Runs V kept now marked last after
    → kept ≤ length marked → take kept after ≡ take kept marked
all_calls kept done within = refl
all_calls kept (then first still rest) within = all_calls kept rest still ∙ one_call kept first within still

-- an item among the first ones
get_take : {V : Type 0} (k n : ℕ) (xs : List V) → k < n → slice_get (take n xs) k ≡ slice_get xs k
get_take k zero xs order = absurd (omega (arith, order))
get_take zero (suc n) [] order = refl
get_take (suc k) (suc n) [] order = refl
get_take zero (suc n) (x ∷ xs) order = refl
get_take (suc k) (suc n) (x ∷ xs) order = get_take k n xs (omega (arith, order))

get_pushed : {V : Type 0} (xs : List V) (x : V) → slice_get (xs ++ x ∷ []) (length xs) ≡ Some x
get_pushed [] x = refl
get_pushed (y ∷ xs) x = get_pushed xs x

take_pushed : {V : Type 0} (xs : List V) (x : V) → take (length xs) (xs ++ x ∷ []) ≡ xs
take_pushed [] x = refl
take_pushed (y ∷ xs) x = ap (λ ys. y ∷ ys) (take_pushed xs x)

-- where the first views are those that a mark found and its own, the undo of that mark gives these back
pub undone : {V : Type 0} (now view : V) (marked after : List V) → take (length marked + 1) after ≡ marked ++ now ∷ []
    → slice_get after (length marked) ≡ Some view → (view ≡ now) × (take (length marked) after ≡ marked)
undone now view marked after kept stands = (
  same_Some view now (sym stands ∙ sym (get_take (length marked) (length marked + 1) after (omega arith))
      ∙ ap (λ vs. slice_get vs (length marked)) kept ∙ get_pushed marked now),
  sym (take_less (length marked) (length marked + 1) after (omega arith)) ∙ ap (λ vs. take (length marked) vs) kept
      ∙ take_pushed marked now,
)

pub undo_is_exact : (V : Type 0) → UndoIsExact V
undo_is_exact V now last view marked after run stands =
    let long : length marked + 1 ≤ length (marked ++ now ∷ []) = omega (arith, length-append marked (now ∷ [])) in
    let whole : take (length marked + 1) (marked ++ now ∷ []) ≡ marked ++ now ∷ [] =
    ap (λ k. take k (marked ++ now ∷ [])) (sym (length-append marked (now ∷ []))) ∙ take_whole (marked ++ now ∷ []) in
    undone now view marked after (all_calls (length marked + 1) run long ∙ whole) stands
  where
    take_whole : (xs : List V) → take (length xs) xs ≡ xs
    take_whole [] = refl
    take_whole (x ∷ xs) = ap (λ ys. x ∷ ys) (take_whole xs)

-- what is kept of the views with that of a new mark
pub kept_views : {V : Type 0} (marked : List V) (now : V) (before after : List V) → before ≡ marked ++ now ∷ [] → Keeps before after
    → take (length marked + 1) after ≡ marked ++ now ∷ []
kept_views marked now before after is keeps =
    let count : length marked + 1 ≡ length before = omega (arith, ap (λ vs. length vs) is, length-append marked (now ∷ [])) in
    rw count (keeps ∙ is)

-- the new mark is still in force
pub stays_in_force : {V : Type 0} (marked : List V) (now : V) (after : List V) → take (length marked + 1) after ≡ marked ++ now ∷ []
    → length marked < length after
stays_in_force marked now after kept =
    omega (arith, length-append marked (now ∷ []), ap (λ vs. length vs) kept, length_take_most (length marked + 1) after)
