-- Worked cases of the rules over linear forms and polynomials: for each a claim that the rule allows, and one that it refuses.
use Rattle.std.specs.Prelude.{◌≡◌, ℕ, List, [], ◌∷◌, ◌++◌, Option, Some, None, ℤ, pos, negsuc, ◌+ℤ◌, ◌≤ℤ◌, ◌<ℤ◌, FitsSigned, refl}
use Rattle.std.specs.Int.{w128}
use Rattle.std.proofs.lemmas.List.Elements.{All-nil, All-cons}
use Rattle.std.proofs.Common.{lit<, sym, ap, subst, inl, inr}
use Rattle.grind_term_graph.specs.declared.head.Head.TheVariants as head
use Rattle.grind_term_graph.specs.declared.node.Node.{Node}
use Rattle.grind_term_graph.specs.Terms.{prop, int, opening}
use Rattle.grind_linear_forms.specs.Forms.{FormData, form_data, part_of, number_form, fit}
use Rattle.grind_linear_forms.specs.Sums.{multiple, combination, multiplied, merged_from, merged}
use Rattle.grind_linear_forms.specs.Readings.{readings, linear}
use Rattle.grind_monomials.specs.Order.{place, place_by_nodes}
use Rattle.grind_monomials.specs.Monomials.{product, product_from}
use Rattle.grind_polynomials.specs.declared.poly.Term.{Term}
use Rattle.grind_polynomials.specs.Polynomials.{term_of, fit_or_refuse as fit_number}
use Rattle.grind_polynomials.specs.Readings.{readings as poly_readings, polynomial}
use Rattle.grind_polynomials.specs.Sums.{with_more, with_multiple, with_multiples, with_product, with_products, with_all_products}
use Rattle.grind_differences.specs.Differences.{reading, difference, poly_reading, poly_difference}
use Rattle.grind_claims.specs.declared.claim.Claim.{Claim}
use Rattle.grind_claims.specs.declared.claim.Claim.TheVariants.{Holds, Fails, Same, Differ, AtMost, Zero}
use Rattle.grind_arithmetic_rules.specs.LinearRules.{IsRead, IsWrite, IsLine, IsCombine, IsPinch, IsStrict, KeepApart, IsApart, IsTooGreat}
use Rattle.grind_arithmetic_rules.specs.PolyRules.{IsPolyRule, IsEqual, IsIdeal}

-- two constants x and y (2 and 3), and the formula `x <= y` (4)
abbrev nodes : List Node
nodes = opening ++ record { head = head.Const 0; sort = int; args = [] }
    ∷ record { head = head.Const 1; sort = int; args = [] }
    ∷ record { head = head.Le; sort = prop; args = 2 ∷ 3 ∷ [] } ∷ []

-- `x - y` and `y - x`, each with a constant
abbrev x_less_y : ℤ → FormData
x_less_y constant = form_data (part_of 2 (pos 1) ∷ part_of 3 (negsuc 0) ∷ []) constant

abbrev y_less_x : ℤ → FormData
y_less_x constant = form_data (part_of 2 (negsuc 0) ∷ part_of 3 (pos 1) ∷ []) constant

first_difference : difference nodes 2 3 ≡ Some (x_less_y (pos 0))
unfolding reading difference linear readings fit multiple combination multiplied merged_from merged
first_difference = refl

second_difference : difference nodes 3 2 ≡ Some (y_less_x (pos 0))
unfolding reading difference linear readings fit multiple combination multiplied merged_from merged
second_difference = refl

-- where `x <= y` holds, `x - y` is at most 0, and where it fails, `y - x + 1` is
pub read_of_holding : IsRead nodes (Holds 4 ∷ []) (AtMost (x_less_y (pos 0)))
read_of_holding = (4, _, refl, inl (refl, (2, 3, (refl, refl), first_difference)))

pub read_of_failing : IsRead nodes (Fails 4 ∷ []) (AtMost (y_less_x (pos 1)))
read_of_failing = (4, _, refl, inr (refl, (2, 3, (refl, refl), (_, second_difference, refl)), record { sfits = lit< tt }))

-- an equality is no comparison
pub read_of_an_equality : (claim : Claim) → IsRead nodes (Same 2 3 ∷ []) claim → ⊥
read_of_an_equality claim h = elim h.3 [ inl e ↦ let wrong = e.0 in absurd cc | inr e ↦ let wrong = e.0 in absurd cc ]

-- from `x - y + 2` at most 0, `x <= y` holds, and from `y - x + 1` at most 0 it fails
pub write_of_more : IsWrite nodes (AtMost (x_less_y (pos 2)) ∷ []) (Holds 4)
write_of_more = (4, _, refl, inl (refl, (2, 3, (refl, refl), (_, first_difference, (refl, record { le = tt })))))

pub write_of_the_opposite : IsWrite nodes (AtMost (y_less_x (pos 1)) ∷ []) (Fails 4)
write_of_the_opposite = (4, _, refl, inr (refl, (2, 3, (refl, refl), (_, second_difference, (refl, record { le = tt })))))

-- no bound makes two terms equal
pub write_of_an_equality : (premises : List Claim) → IsWrite nodes premises (Same 2 3) → ⊥
write_of_an_equality premises h = elim h.3 [ inl e ↦ let wrong = e.0 in absurd cc | inr e ↦ let wrong = e.0 in absurd cc ]

-- from `x = y`, `x - y` is at most 0; from `x != y` it is not known to be
pub line_of_equal : IsLine nodes (Same 2 3 ∷ []) (AtMost (x_less_y (pos 0)))
line_of_equal = (2, 3, _, refl, refl, first_difference)

pub line_of_different : (claim : Claim) → IsLine nodes (Differ 2 3 ∷ []) claim → ⊥
line_of_different claim h = let wrong = h.3 in absurd cc

-- `x - y` and `y - x + 1`, each once, are together 1
pub combine_of_opposites : IsCombine (pos 1) (pos 1 ∷ pos 1 ∷ [])
    (AtMost (x_less_y (pos 0)) ∷ AtMost (y_less_x (pos 1)) ∷ []) (AtMost (number_form (pos 1)))
unfolding fit multiple combination multiplied merged_from merged
combine_of_opposites = (
  number_form (pos 1),
  number_form (pos 1),
  refl,
  (
    number_form (pos 1),
    record { lt = tt },
    record { parts_of = refl; constant_of = record { above = record { le = tt }; least = record { lt = tt } } },
    refl,
    record { le = tt },
  ),
  refl,
)

-- no bound is taken a negative number of times
pub combine_of_negative : (divisor : ℤ) (form : FormData) (claim : Claim) →
    IsCombine divisor (negsuc 0 ∷ []) (AtMost form ∷ []) claim → ⊥
combine_of_negative divisor form claim h = let wrong = h.2 in absurd cc

-- where `x - y` and `y - x` are both at most 0, x and y are equal; one of the two does not suffice
pub pinch_of_both : IsPinch nodes (AtMost (x_less_y (pos 0)) ∷ AtMost (y_less_x (pos 0)) ∷ []) (Same 2 3)
pinch_of_both = (2, 3, _, _, refl, refl, first_difference, second_difference)

pub pinch_of_one : (form : FormData) (claim : Claim) → IsPinch nodes (AtMost form ∷ []) claim → ⊥
pinch_of_one form claim h = let wrong = h.4 in absurd cc

-- where x and y are different and `x - y` is at most 0, `x - y + 1` is
pub strict_adds_one : IsStrict nodes (Differ 2 3 ∷ AtMost (x_less_y (pos 0)) ∷ []) (AtMost (x_less_y (pos 1)))
strict_adds_one = (2, 3, _, refl, refl, inl first_difference, record { sfits = lit< tt })

-- the constant of the bound that a claim is
constant_of_claim : Claim → ℤ
constant_of_claim (AtMost form) = form.constant
constant_of_claim _ = pos 0

-- and of the second premise
constant_of_second : List Claim → ℤ
constant_of_second (one ∷ claim ∷ rest) = constant_of_claim claim
constant_of_second _ = pos 0

pub strict_without_one : IsStrict nodes (Differ 2 3 ∷ AtMost (x_less_y (pos 0)) ∷ []) (AtMost (x_less_y (pos 0))) → ⊥
unfolding constant_of_claim constant_of_second
strict_without_one h =
    let given : pos 0 ≡ h.2.constant = ap constant_of_second h.3 in
    let claimed = ap constant_of_claim h.4 in
    (subst (λ (z : ℤ). pos 1 ≤ℤ z) (sym claimed) (subst (λ (z : ℤ). pos 1 ≤ℤ (z +ℤ pos 1)) given (record { le = tt }))).le

-- `x - y + 1` at most 0 keeps x and y apart, in either order
pub apart_by_a_bound : IsApart nodes (AtMost (x_less_y (pos 1)) ∷ []) (Differ 3 2)
apart_by_a_bound = (3, 2, refl, inr (inr (inl (_, refl, (_, refl, (_, first_difference, (refl, record { le = tt })))))))

-- 0 is not over 0
pub zero_is_not_too_great : IsTooGreat (AtMost (number_form (pos 0))) → ⊥
unfolding constant_of_claim
zero_is_not_too_great h =
    let given : pos 0 ≡ h.0.constant = ap constant_of_claim h.1 in
    (subst (λ (z : ℤ). pos 0 <ℤ z) (sym given) h.3).lt

-- the polynomial `x - y`
abbrev x_minus_y : List Term
x_minus_y = term_of (pos 1) (2 ∷ []) ∷ term_of (negsuc 0) (3 ∷ []) ∷ []

poly_of_both : poly_difference nodes 2 3 ≡ Some x_minus_y
unfolding poly_reading poly_difference polynomial poly_readings fit_number with_more with_multiple with_multiples with_product with_products with_all_products place place_by_nodes product product_from
poly_of_both = refl

-- from `x = y`, `x - y` is 0, and the other way round
pub poly_of_equal : IsPolyRule nodes (Same 2 3 ∷ []) (Zero x_minus_y)
poly_of_equal = (2, 3, _, refl, refl, poly_of_both)

pub poly_of_different : (claim : Claim) → IsPolyRule nodes (Differ 2 3 ∷ []) claim → ⊥
poly_of_different claim h = let wrong = h.3 in absurd cc

pub equal_of_zero : IsEqual nodes (Zero x_minus_y ∷ []) (Same 2 3)
equal_of_zero = (2, 3, _, refl, refl, poly_of_both)

-- a bound alone makes no two terms equal
pub equal_of_a_bound : (form : FormData) (claim : Claim) → IsEqual nodes (AtMost form ∷ []) claim → ⊥
equal_of_a_bound form claim h = let wrong = h.3 in absurd cc

abbrev fits_in : Term → Type 0
fits_in term = FitsSigned w128 term.coefficient

-- where `2x` is 0, so is x: twice x is once `2x`
pub ideal_divides : IsIdeal (pos 2) ((term_of (pos 1) [] ∷ []) ∷ []) ((Zero (term_of (pos 2) (2 ∷ []) ∷ [])) ∷ []) (Zero (term_of (pos 1) (2 ∷ []) ∷ []))
unfolding fit_number with_more with_multiple with_multiples with_product with_products with_all_products place place_by_nodes product product_from
ideal_divides = (
  _,
  refl,
  (λ e. (subst (λ (z : ℤ). pos 1 ≤ℤ z) e (record { le = tt })).le),
  refl,
  All-cons fits_in (term_of (pos 1) (2 ∷ [])) [] (record { sfits = lit< tt }) (All-nil fits_in),
)

-- 0 times anything is 0, which says nothing
pub ideal_by_zero : (factors : List (List Term)) (premises : List Claim) (claim : Claim) → IsIdeal (pos 0) factors premises claim → ⊥
ideal_by_zero factors premises claim h = h.2 refl

-- the difference stands before the equalities
pub apart_from_both : IsApart nodes (Differ 2 3 ∷ Same 4 2 ∷ Same 5 3 ∷ []) (Differ 5 4)
apart_from_both = (5, 4, refl, inr (inr (inr (2, 3, refl))))

no_difference_first : (a b : ℕ) → KeepApart nodes (Same 4 2 ∷ Differ 2 3 ∷ Same 5 3 ∷ []) a b → ⊥
no_difference_first a b (inl h) = let e = h.0 in absurd cc
no_difference_first a b (inr (inl h)) = let e = h.1 in absurd cc
no_difference_first a b (inr (inr h)) = let e = h.2 in absurd cc

pub apart_the_other_way : IsApart nodes (Same 4 2 ∷ Differ 2 3 ∷ Same 5 3 ∷ []) (Differ 4 5) → ⊥
apart_the_other_way h = elim h.3 [ inl k ↦ no_difference_first h.0 h.1 k | inr k ↦ no_difference_first h.1 h.0 k ]
