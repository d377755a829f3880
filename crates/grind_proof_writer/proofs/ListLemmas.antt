-- Items of lists, and of lists with more after them.
use Rattle.std.specs.Prelude.{◌≡◌, ℕ, zero, suc, ◌+◌, ◌-◌, ◌<◌, ◌≤◌, ◌⊎◌, Bool, true, false, cond, List, [], ◌∷◌, ◌++◌, Option, Some, None, All, find, length, reverse, slice_get, refl}
use Rattle.std.specs.Option.{IsSomeAnd, option_map}
use Rattle.std.proofs.Common.{arith, sym, ap, ◌∙◌, subst, inl, inr, length-append}
use Rattle.std.proofs.lemmas.Bool.{true≢false}
use Rattle.std.proofs.lemmas.List.{get_or-reverse, length-reverse}
use Rattle.std.proofs.lemmas.List.Elements.{All-head, All-tail}

-- an optional value of which something holds is there
pub some_item : {X : Type 0} (P : X → Type 0) (o : Option X) → IsSomeAnd o P → (x : X) × (o ≡ Some x) × P x
some_item P None h = absurd h
some_item P (Some x) h = (x, refl, h)

-- and what holds of the value holds of it
pub some_is : {X : Type 0} (P : X → Type 0) (o : Option X) (x : X) → o ≡ Some x → P x → IsSomeAnd o P
some_is {X = X} P o x e h = subst (λ (it : Option X). IsSomeAnd it P) (sym e) h

-- an item of which something holds stands within the list
pub within_some : {X : Type 0} (P : X → Type 0) (xs : List X) (i : ℕ) → IsSomeAnd (slice_get xs i) P → i < length xs
within_some P [] i h = absurd h
within_some P (x ∷ xs) zero h = omega arith
within_some P (x ∷ xs) (suc i) h = let below = within_some P xs i h in omega arith

-- one item more
pub one_more : {X : Type 0} (xs : List X) (x : X) → length (xs ++ x ∷ []) ≡ length xs + 1
one_more xs x = simp length-append (omega arith)

-- the first and the second item after a list stand there
pub behind_first : {X : Type 0} (xs ys : List X) (x : X) → slice_get (xs ++ x ∷ ys) (length xs) ≡ Some x
behind_first [] ys x = refl
behind_first (y ∷ xs) ys x = behind_first xs ys x

pub behind_second : {X : Type 0} (xs : List X) (x y : X) → slice_get (xs ++ x ∷ y ∷ []) (suc (length xs)) ≡ Some y
behind_second [] x y = refl
behind_second (z ∷ xs) x y = behind_second xs x y

-- an item of two lists, one after the other, is one of the first or of the second
pub split_some : {X : Type 0} (P : X → Type 0) (xs ys : List X) (i : ℕ) → IsSomeAnd (slice_get (xs ++ ys) i) P →
    IsSomeAnd (slice_get xs i) P ⊎ ((length xs ≤ i) × (k : ℕ) × IsSomeAnd (slice_get ys k) P)
split_some P [] ys i h = inr (omega arith, i, h)
split_some P (x ∷ xs) ys zero h = inl h
split_some P (x ∷ xs) ys (suc i) h = elim (split_some P xs ys i h) [
  | inl found ↦ inl found
  | inr found ↦ inr (omega (arith, found.0), found.1, found.2)
]

-- what holds of all items, beside what holds of one
pub all_some : {X : Type 0} (P Q : X → Type 0) (xs : List X) (k : ℕ) → All P xs → IsSomeAnd (slice_get xs k) Q → (x : X) × P x × Q x
all_some P Q [] k all h = absurd h
all_some P Q (x ∷ xs) zero all h = (x, All-head P x xs all, h)
all_some P Q (x ∷ xs) (suc k) all h = all_some P Q xs k (All-tail P x xs all) h

-- a field of an item of which something holds
pub field_holds_stays : {X Y : Type 0} (f : X → Y) (P : Y → Type 0) (xs ys : List X) (i : ℕ) →
    IsSomeAnd (option_map f (slice_get xs i)) P → IsSomeAnd (option_map f (slice_get (xs ++ ys) i)) P
field_holds_stays f P [] ys i h = absurd h
field_holds_stays f P (x ∷ xs) ys zero h = h
field_holds_stays f P (x ∷ xs) ys (suc i) h = field_holds_stays f P xs ys i h

-- the last item is the one after all others
pub last_item : {X : Type 0} (P : X → Type 0) (xs : List X) (n : ℕ) → length xs ≡ n + 1 → IsSomeAnd (slice_get xs n) P →
    (front : List X) × (x : X) × (xs ≡ front ++ x ∷ []) × P x
last_item P [] n e h = absurd h
last_item P (x ∷ []) zero e h = ([], x, refl, h)
last_item P (x ∷ y ∷ xs) zero e h = absurd (omega arith)
last_item P (x ∷ xs) (suc n) e h =
    let rest = last_item P xs n (omega arith) h in
    (x ∷ rest.0, rest.1, ap (λ ys. x ∷ ys) rest.2, rest.3)

-- what holds of each item holds of each from the end on
pub All-reverse : {X : Type 0} (P : X → Type 0) (xs : List X) → All P xs → All P (reverse xs)
All-reverse P xs all k d below =
    let within : k < length xs = omega (arith, length-reverse xs) in
    subst P (sym (get_or-reverse xs k d within)) (all (length xs - 1 - k) d (omega arith))

skipped : {X : Type 0} (passes : Bool) (here rest : Option X) → passes ≡ false → cond passes here rest ≡ rest
skipped true here rest e = absurd (true≢false e)
skipped false here rest e = refl

-- items that do not pass are skipped
pub find_skips : {X : Type 0} (test : X → Bool) (xs ys : List X) → All (λ (x : X). test x ≡ false) xs → find test (xs ++ ys) ≡ find test ys
find_skips test [] ys all = refl
find_skips {X = X} test (x ∷ xs) ys all =
    let P : X → Type 0 = λ y. test y ≡ false in
    skipped (test x) (Some x) (find test (xs ++ ys)) (All-head P x xs all) ∙ find_skips test xs ys (All-tail P x xs all)
