-- The order of monomials.
use Rattle.std.specs.Prelude.{ℕ, List, [], ◌∷◌, length, nat_lt, if◌then◌else◌}
use Rattle.grind_monomials.specs.declared.order.Place.{Place}
use Rattle.grind_monomials.specs.declared.order.Place.TheVariants.{Above, Same, Below}

-- of two lists of one length, the one that comes first in lexicographic order is the greater monomial
unfoldable pub place_by_nodes : List ℕ → List ℕ → Place
place_by_nodes [] ys = Same
place_by_nodes (x ∷ xs) [] = Same
place_by_nodes (x ∷ xs) (y ∷ ys) =
    if nat_lt x y then Above else if nat_lt y x then Below else place_by_nodes xs ys

-- a monomial of higher degree is greater, and of two of one degree the nodes decide
unfoldable pub place : List ℕ → List ℕ → Place
place a b =
    if nat_lt (length b) (length a) then Above
    else if nat_lt (length a) (length b) then Below
    else place_by_nodes a b
