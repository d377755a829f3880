-- How often a node stands in a monomial, and what a monomial is at a table of values.
use Rattle.std.specs.Prelude.{ℕ, ◌+◌, List, [], ◌∷◌, nat_eq, if◌then◌else◌, ℤ, pos, ◌*ℤ◌}

-- how often the node stands in the monomial
unfoldable pub count : ℕ → List ℕ → ℕ
count n [] = 0
count n (x ∷ xs) = (if nat_eq n x then 1 else 0) + count n xs

-- the product of the values of the nodes
abbrev pub monomial_value : (ℕ → ℤ) → List ℕ → ℤ
monomial_value v [] = pos 1
monomial_value v (x ∷ xs) = v x *ℤ monomial_value v xs
