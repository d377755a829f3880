-- Loops along lists.
use Rattle.std.proofs.Common.{take, ◌+◌, ◌≡◌, inl, inr, ℕ, zero, suc, ◌<◌, ◌≤◌, arith, List, [], ◌∷◌, ◌++◌, All, length, slice_index_or, Contains, refl, sym, ap, subst}
use Rattle.std.proofs.lemmas.List.Elements.{Contains-push_cases, All-contains_itself}

-- the first items and the next
pub take_next : {X : Type 0} (xs : List X) (k : ℕ) (item : X) → k < length xs → item ≡ slice_index_or xs k item
    → take (k + 1) xs ≡ take k xs ++ item ∷ []
take_next [] k item less is = absurd (omega arith)
take_next (x ∷ xs) zero item less is = ap (λ y. y ∷ []) (sym is)
take_next (x ∷ xs) (suc k) item less is =
    let e : suc k + 1 ≡ suc (k + 1) = omega arith in
    rw e (ap (λ ys. x ∷ ys) (take_next xs k item (omega arith) is))

-- all of them
pub take_whole : {X : Type 0} (xs : List X) (k : ℕ) → length xs ≤ k → take k xs ≡ xs
take_whole [] zero past = refl
take_whole [] (suc k) past = refl
take_whole (x ∷ xs) zero past = absurd (omega arith)
take_whole (x ∷ xs) (suc k) past = ap (λ ys. x ∷ ys) (take_whole xs k (omega arith))

pub none_in : {X : Type 0} (x : X) → Contains [] x → ⊥
none_in x h = omega (arith, h.1)

pub only_in : {X : Type 0} (y x : X) → Contains (y ∷ []) x → y ≡ x
only_in y x h = elim (Contains-push_cases [] y x h) [ inl none ↦ absurd (none_in x none) | inr e ↦ e ]

pub first_in : {X : Type 0} (x : X) → Contains (x ∷ []) x
first_in x = (0, omega arith, refl)

pub cons_in : {X : Type 0} (y : X) (ys : List X) (x : X) → Contains ys x → Contains (y ∷ ys) x
cons_in y ys x h = (suc h.0, omega arith, h.2)

pub head_in : {X : Type 0} (y : X) (ys : List X) → Contains (y ∷ ys) y
head_in y ys = (0, omega arith, refl)

-- what holds of all holds of the item at a position
pub at_item : {X : Type 0} (P : X → Type 0) (xs : List X) (k : ℕ) (item : X) → All P xs → k < length xs
    → item ≡ slice_index_or xs k item → P item
at_item P xs k item all less is = subst P (sym is) (all k item less)

pub all_by : {X : Type 0} (P : X → Type 0) (xs : List X) → ((x : X) → Contains xs x → P x) → All P xs
all_by P xs each k d less = each (slice_index_or xs k d) (All-contains_itself xs k d less)

-- an item at a position is in the list
pub item_in : {X : Type 0} (xs : List X) (k : ℕ) (item : X) → k < length xs → item ≡ slice_index_or xs k item → Contains xs item
item_in xs k item less is = (k, less, sym is)

-- of two lists of one length so many items are of one length
pub same_long : {X Y : Type 0} (xs : List X) (ys : List Y) (k : ℕ) → length xs ≡ length ys
    → length (take k xs) ≡ length (take k ys)
same_long [] [] zero e = refl
same_long [] [] (suc k) e = refl
same_long [] (y ∷ ys) k e = absurd (omega arith)
same_long (x ∷ xs) [] k e = absurd (omega arith)
same_long (x ∷ xs) (y ∷ ys) zero e = refl
same_long (x ∷ xs) (y ∷ ys) (suc k) e = let rest = same_long xs ys k (omega arith) in ap suc rest
