-- The least number above some.
use Rattle.std.specs.Prelude.{◌≡◌, ℕ, ◌<◌, ◌≤◌, List, [], ◌∷◌, All, length}
use Rattle.std.proofs.Common.{arith, sym}
use Rattle.std.proofs.lemmas.List.Elements.{All-nil, All-cons, All-head, All-tail, All-same}
use Rattle.grind_needed_edges.specs.Planning.{IsBound, IsBoundSoFar}

abbrev Below : ℕ → ℕ → Type 0
Below n place = place < n

pub IsBoundSoFar-start : (places : List ℕ) → IsBoundSoFar places places 0
IsBoundSoFar-start places = record { above = λ n _ all. all; least = λ k _. omega arith; left = λ k all. all }

-- one more place: the new bound is above it and above the old one, and is one of the two
pub IsBoundSoFar-step : (places rest tail : List ℕ) (place bound next : ℕ) → rest ≡ place ∷ tail → bound ≤ next → place < next →
    ((k : ℕ) → bound ≤ k → place < k → next ≤ k) → IsBoundSoFar places rest bound → IsBoundSoFar places tail next
IsBoundSoFar-step places rest tail place bound next is over above least h = record {
  above = λ n high all. h.above n (omega arith)
      (All-same (Below n) rest (place ∷ tail) is (All-cons (Below n) place tail (omega arith) all));
  least = λ k all. least k (h.least k all)
      (All-head (Below k) place tail (All-same (Below k) (place ∷ tail) rest (sym is) (h.left k all)));
  left = λ k all. All-tail (Below k) place tail (All-same (Below k) (place ∷ tail) rest (sym is) (h.left k all));
}

empty : (xs : List ℕ) → length xs ≡ 0 → (P : ℕ → Type 0) → All P xs
empty [] e P = All-nil P
empty (x ∷ xs) e P = absurd (omega arith)

-- once none are left
pub IsBound-end : (places rest : List ℕ) (bound : ℕ) → length rest ≡ 0 → IsBoundSoFar places rest bound → IsBound places bound
IsBound-end places rest bound none h = record {
  above = h.above bound (omega arith) (empty rest none (Below bound));
  least = h.least;
}
