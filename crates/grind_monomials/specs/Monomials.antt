-- Monomials: products of nodes, as lists of their numbers that do not fall.
use Rattle.std.specs.Prelude.{◌≡◌, ℕ, ◌≤◌, List, [], ◌∷◌, nat_lt, if◌then◌else◌, ⊤}

-- the numbers do not fall, from this one on
abbrev pub RisesFrom : ℕ → List ℕ → Type 0
RisesFrom least [] = ⊤
RisesFrom least (x ∷ xs) = (least ≤ x) × RisesFrom x xs

-- the nodes stand in order
abbrev pub IsMonomial : List ℕ → Type 0
IsMonomial nodes = RisesFrom 0 nodes

-- the node x, and others by `next`, with further nodes, in order
unfoldable pub product_from : ℕ → (List ℕ → List ℕ) → List ℕ → List ℕ
product_from x next [] = x ∷ next []
product_from x next (y ∷ ys) = if nat_lt y x then y ∷ product_from x next ys else x ∷ next (y ∷ ys)

-- the nodes of both monomials, in order
unfoldable pub product : List ℕ → List ℕ → List ℕ
product [] ys = ys
product (x ∷ xs) ys = product_from x (product xs) ys

-- what is left of the node x, and of others by `next`, where further nodes are taken off
unfoldable pub quotient_from : ℕ → (List ℕ → List ℕ) → List ℕ → List ℕ
quotient_from x next [] = x ∷ next []
quotient_from x next (y ∷ ys) =
    if nat_lt y x then quotient_from x next ys else if nat_lt x y then x ∷ next (y ∷ ys) else next ys

-- what is left of the first monomial where each node of the second is taken off as often as it stands in both
unfoldable pub quotient : List ℕ → List ℕ → List ℕ
quotient [] ys = []
quotient (x ∷ xs) ys = quotient_from x (quotient xs) ys

-- the first monomial divides the second: nothing of it is left where the nodes of the second are taken off
abbrev pub Divides : List ℕ → List ℕ → Type 0
Divides a b = quotient a b ≡ []

-- the first monomial times what it lacks of the second
abbrev pub least_common_multiple : List ℕ → List ℕ → List ℕ
least_common_multiple a b = product a (quotient b a)
