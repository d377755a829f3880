-- A number for each monomial that falls with it, among monomials over the first nodes.
use Rattle.std.specs.Prelude.{ℕ, suc, ◌+◌, ◌-◌, ◌*◌, ◌<◌, List, [], ◌∷◌, Option, Some, None, ⊤}
use Rattle.grind_polynomials.specs.declared.poly.Term.{Term}
use Rattle.grind_normal_forms.specs.Reduction.{Target, target}

-- each node has a number below this one
abbrev pub IsLow : ℕ → List ℕ → Type 0
IsLow n [] = ⊤
IsLow n (x ∷ xs) = (x < n) × IsLow n xs

-- so it is with each monomial
abbrev pub AreLow : ℕ → List Term → Type 0
AreLow n [] = ⊤
AreLow n (term ∷ rest) = IsLow n term.monomial × AreLow n rest

-- and with each polynomial
abbrev pub BasisIsLow : ℕ → List (List Term) → Type 0
BasisIsLow n [] = ⊤
BasisIsLow n (b ∷ bs) = AreLow n b × BasisIsLow n bs

-- a number above those of all nodes
abbrev pub above_nodes : List ℕ → ℕ
above_nodes [] = 0
above_nodes (x ∷ xs) = suc x + above_nodes xs

abbrev pub above_terms : List Term → ℕ
above_terms [] = 0
above_terms (term ∷ rest) = above_nodes term.monomial + above_terms rest

abbrev pub above_basis : List (List Term) → ℕ
above_basis [] = 0
above_basis (b ∷ bs) = above_terms b + above_basis bs

-- the power of n + 1 whose exponent is the degree
unfoldable pub power : ℕ → List ℕ → ℕ
power n [] = 1
power n (x ∷ xs) = power n xs + n * power n xs

-- the nodes read as digits to the base n + 1, where lesser nodes are greater digits
unfoldable pub rank : ℕ → List ℕ → ℕ
rank n [] = 0
rank n (x ∷ xs) = (n - x) * power n xs + rank n xs

-- what is left to do: the rank of the target's monomial, where there is one
abbrev pub rank_of_target : ℕ → Option Target → ℕ
rank_of_target n None = 0
rank_of_target n (Some found) = suc (rank n found.term.monomial)

abbrev pub left_to_do : ℕ → List (List Term) → List Term → ℕ
left_to_do n basis rest = rank_of_target n (target basis rest)

-- where all nodes are below n, so they stay, and less is left to do
pub record Descends (basis : List (List Term)) (rest next : List Term) : Type 0 where
  pub low : (n : ℕ) → BasisIsLow n basis → AreLow n rest → AreLow n next
  pub less : (n : ℕ) → BasisIsLow n basis → AreLow n rest → left_to_do n basis next < left_to_do n basis rest
