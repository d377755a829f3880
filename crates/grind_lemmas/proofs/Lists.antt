-- Lists: their items by number, an item more at the end, and what they contain.
use Rattle.std.proofs.Common.{◌≡◌, ◌⊎◌, inl, inr, ℕ, zero, suc, ◌+◌, ◌<◌, List, [], ◌∷◌, ◌++◌, length, Some, slice_get, slice_index_or, Contains, arith, refl}

pub get-before : {A : Type 0} → (xs ys : List A) (k : ℕ) → k < length xs → slice_get (xs ++ ys) k ≡ slice_get xs k
get-before [] ys k h = absurd (omega arith)
get-before (x ∷ xs) ys zero h = refl
get-before (x ∷ xs) ys (suc k) h = get-before xs ys k (omega arith)

pub get-at : {A : Type 0} → (xs : List A) (y : A) → slice_get (xs ++ y ∷ []) (length xs) ≡ Some y
get-at [] y = refl
get-at (x ∷ xs) y = get-at xs y

pub length-push : {A : Type 0} → (xs : List A) (y : A) → length (xs ++ y ∷ []) ≡ length xs + 1
length-push [] y = refl
length-push (x ∷ xs) y = omega (arith, length-push xs y)

-- what a list contains is its first item or in the rest
pub contains-cases : (b : ℕ) (rest : List ℕ) (a : ℕ) → Contains (b ∷ rest) a → (b ≡ a) ⊎ Contains rest a
contains-cases b rest a h = at_place h.0 h.1 h.2
  where
    at_place : (k : ℕ) → k < length (b ∷ rest) → slice_index_or (b ∷ rest) k a ≡ a → (b ≡ a) ⊎ Contains rest a
    at_place zero below e = inl e
    at_place (suc k) below e = inr (k, omega arith, e)
