-- A sum in two parts: what stands above all products that are still to come, and the terms after it.
use Rattle.std.specs.Prelude.{◌≡◌, ℕ, List, [], ◌∷◌, ◌++◌, reverse, ⊤}
use Rattle.grind_monomials.specs.declared.order.Place.TheVariants.{Above}
use Rattle.grind_monomials.specs.Order.{place}
use Rattle.grind_monomials.specs.Monomials.{product}
use Rattle.grind_polynomials.specs.declared.poly.Term.{Term}
use Rattle.grind_polynomials.specs.declared.put.Parts.{Parts}

-- all terms of the sum
abbrev pub all_of : Parts → List Term
all_of parts = parts.done ++ reverse parts.rest

-- each of the terms stands above the monomial
abbrev pub AreAbove : List ℕ → List Term → Type 0
AreAbove monomial [] = ⊤
AreAbove monomial (term ∷ rest) = (place term.monomial monomial ≡ Above) × AreAbove monomial rest

-- each of the terms stands above all that is below the monomial
abbrev pub ArePassed : List ℕ → List Term → Type 0
ArePassed monomial terms = (lower : List ℕ) → place monomial lower ≡ Above → AreAbove lower terms

-- each of the terms stands above the product of the monomial with the first of other terms, if there is one
abbrev pub AreAboveNext : List ℕ → List Term → List Term → Type 0
AreAboveNext monomial [] terms = ⊤
AreAboveNext monomial (b ∷ bs) terms = AreAbove (product monomial b.monomial) terms
