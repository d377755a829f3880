-- Lists of two.
use Rattle.std.proofs.Common.{◌≡◌, ℕ, ◌<◌, ◌≤◌, List, [], ◌∷◌, length, arith, refl}
use Rattle.std.specs.Prelude.{slice_index_or}

-- a list of two items is its first and its second
pub two_items : (xs : List ℕ) → 2 ≤ length xs → length xs < 3 → xs ≡ slice_index_or xs 0 0 ∷ slice_index_or xs 1 0 ∷ []
two_items [] low high = absurd (omega arith)
two_items (x ∷ []) low high = absurd (omega arith)
two_items (x ∷ y ∷ []) low high = refl
two_items (x ∷ y ∷ z ∷ rest) low high = absurd (omega arith)
