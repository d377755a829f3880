-- Worked cases: of each word a case that holds, and one that fails.
use Rattle.std.specs.Prelude.{◌≡◌, [], ◌∷◌, pos, ⊤, refl}
use Rattle.std.proofs.Common.{subst}
use Rattle.grind_monomials.specs.declared.order.Place.{Place}
use Rattle.grind_monomials.specs.declared.order.Place.TheVariants.{Above, Same, Below}
use Rattle.grind_monomials.specs.Order.{place, place_by_nodes}
use Rattle.grind_monomials.specs.Monomials.{product, product_from}
use Rattle.grind_polynomials.specs.Polynomials.{term_of}
use Rattle.grind_polynomials.specs.Rows.{all_of, AreAbove, AreAboveNext}

-- the others stand after what is done, in their order
pub others_turn : all_of (record { done = term_of (pos 1) (2 ∷ 3 ∷ []) ∷ []; rest = term_of (pos 5) [] ∷ term_of (pos 4) (2 ∷ []) ∷ [] })
    ≡ term_of (pos 1) (2 ∷ 3 ∷ []) ∷ term_of (pos 4) (2 ∷ []) ∷ term_of (pos 5) [] ∷ []
others_turn = refl

IsNotAbove : Place → Type 0
IsNotAbove Above = ⊥
IsNotAbove Same = ⊤
IsNotAbove Below = ⊤

not_above : (p : Place) → p ≡ Above → IsNotAbove p → ⊥
unfolding IsNotAbove
not_above p e h = subst IsNotAbove e h

-- `2xy` and `4x` stand above `y`, and `2y` does not
pub both_above : AreAbove (3 ∷ []) (term_of (pos 2) (2 ∷ 3 ∷ []) ∷ term_of (pos 4) (2 ∷ []) ∷ [])
unfolding place place_by_nodes
both_above = (refl, (refl, tt))

pub itself_is_not_above : AreAbove (3 ∷ []) (term_of (pos 2) (3 ∷ []) ∷ []) → ⊥
unfolding place place_by_nodes IsNotAbove
itself_is_not_above h = not_above Same h.0 tt

-- `xy` stands above `x` times the second term of `y + 1`, and not above `x` times the first
pub above_the_next : AreAboveNext (2 ∷ []) (term_of (pos 1) [] ∷ []) (term_of (pos 1) (2 ∷ 3 ∷ []) ∷ [])
unfolding place place_by_nodes product product_from
above_the_next = (refl, tt)

pub not_above_the_first : AreAboveNext (2 ∷ []) (term_of (pos 1) (3 ∷ []) ∷ term_of (pos 1) [] ∷ []) (term_of (pos 1) (2 ∷ 3 ∷ []) ∷ []) → ⊥
unfolding place place_by_nodes product product_from IsNotAbove
not_above_the_first h = not_above Same h.0 tt
