-- What the order, the products and the quotients of monomials mean.
use Rattle.std.specs.Prelude.{◌≡◌, ℕ, ◌+◌, ◌-◌, List, length, ℤ, ◌*ℤ◌}
use Rattle.grind_monomials.specs.declared.order.Place.TheVariants.{Above, Same, Below}
use Rattle.grind_monomials.specs.Order.{place}
use Rattle.grind_monomials.specs.Monomials.{IsMonomial, product, quotient, Divides}
use Rattle.grind_monomials.specs.Counts.{count, monomial_value}

-- two monomials of which neither is greater are one
abbrev pub NeitherAboveIsOne : Type 0
NeitherAboveIsOne = (a b : List ℕ) → place a b ≡ Same → a ≡ b

-- where the first is the lesser one, the second is the greater one
abbrev pub PlacesTurn : Type 0
PlacesTurn = (a b : List ℕ) → place a b ≡ Below → place b a ≡ Above

-- what is above another is above all below that one
abbrev pub PlacesChain : Type 0
PlacesChain = (a b c : List ℕ) → place a b ≡ Above → place b c ≡ Above → place a c ≡ Above

-- a factor keeps the order
abbrev pub ProductsKeepPlaces : Type 0
ProductsKeepPlaces =
    (a b more : List ℕ) → IsMonomial a → IsMonomial b → IsMonomial more → place a b ≡ Above →
    place (product a more) (product b more) ≡ Above

-- two monomials in which each node stands equally often are one
abbrev pub CountsDecide : Type 0
CountsDecide =
    (a b : List ℕ) → IsMonomial a → IsMonomial b → ((n : ℕ) → count n a ≡ count n b) → a ≡ b

-- the nodes of a product are those of both factors, in order
abbrev pub ProductsAdd : Type 0
ProductsAdd =
    (a b : List ℕ) → ((n : ℕ) → count n (product a b) ≡ count n a + count n b)
    × (length (product a b) ≡ length a + length b)
    × (IsMonomial a → IsMonomial b → IsMonomial (product a b))

-- the nodes of a quotient are those by which the first monomial has more
abbrev pub QuotientsSubtract : Type 0
QuotientsSubtract =
    (a b : List ℕ) → IsMonomial a → IsMonomial b →
    ((n : ℕ) → count n (quotient a b) ≡ count n a - count n b) × IsMonomial (quotient a b)

-- where a monomial divides another, it is a factor of it, and the quotient is the other factor
abbrev pub QuotientsComplete : Type 0
QuotientsComplete =
    (a b : List ℕ) → IsMonomial a → IsMonomial b → Divides a b → product a (quotient b a) ≡ b

-- what a monomial is multiplied by, it divides
abbrev pub FactorsDivide : Type 0
FactorsDivide =
    (a more : List ℕ) → IsMonomial a → IsMonomial more → Divides a (product a more)

-- a product has the product of the values
abbrev pub ProductsHaveTheirValues : Type 0
ProductsHaveTheirValues =
    (v : ℕ → ℤ) (a b : List ℕ) → monomial_value v (product a b) ≡ monomial_value v a *ℤ monomial_value v b
