-- `poly` allows exactly its result.
use Rattle.std.proofs.Common.{◌≡◌, inl, inr, ℕ, ◌+◌, false, List, [], ◌∷◌, All, length, ℤ, pos, negsuc, ◌+ℤ◌, ◌*ℤ◌, FitsSigned, Some, refl, sym, ap, ◌∙◌, subst, arith}
use Rattle.std.specs.Int.{w128}
use Rattle.std.specs.Option.{option_and_then}
use Rattle.std.proofs.lemmas.Bool.{le-ltb}
use Rattle.std.proofs.lemmas.Option.{same_Some}
use Rattle.std.proofs.lemmas.List.{append-nil}
use Rattle.std.proofs.lemmas.List.Elements.{All-nil, All-cons, All-head, All-tail}
use lib.IntN.{+ℤ_idr}
use borrow.Author.Differences.{ints}
use Rattle.grind_term_graph.specs.declared.node.Node.{Node}
use Rattle.grind_monomials.specs.Monomials.{product}
use Rattle.grind_monomials.proofs.Clauses.{product-nil}
use Rattle.grind_polynomials.specs.declared.poly.Term.{Term}
use Rattle.grind_polynomials.specs.Polynomials.{term_of, StartsBelow, IsPoly, is_over}
use Rattle.grind_polynomials.specs.Sums.{sum_product}
use Rattle.grind_polynomials.specs.Readings.{answered, number_poly}
use Rattle.grind_polynomials.proofs.Falling.{starts-chain}
use Rattle.grind_polynomials.proofs.ReadingLemmas.{answered-some}
use Rattle.grind_differences.specs.Differences.{poly_reading, less_poly, poly_difference}
use Rattle.grind_claims.specs.declared.claim.Claim.{Claim}
use Rattle.grind_claims.specs.declared.claim.Claim.TheVariants as claims
use Rattle.grind_arithmetic_rules.specs.PolyRules.{IsPolyRule}
use Rattle.grind_fitting_claims.specs.Results.{AllowsResult}
use Rattle.grind_fitting_claims.specs.PolyResults.{number_at, Pair, pairs_with, with_pair_added, with_pairs_added, ProductsFit, PolyDifference, IsPolyDifferenceOf, PolyDifferenceFits, SaysNoDifference, IsPolyResult, PolyDifferencesAreExact}
use Rattle.grind_fitting_claims.proofs.MoreExactly.{decide, same_at, other_at, above_other, none_at, one_poly}
use Rattle.grind_fitting_claims.proofs.IdealResults.{all_added, added-of, from_added, to_added, plain_with}
use Rattle.grind_fitting_claims.proofs.DifferenceResults.{and_then_some, first_of, second_of}
use Rattle.grind_fitting_claims.proofs.ReadingsArePolys.{IsLow, reading_is_poly}

-- ---- products with -1
abbrev minus_one : Term
minus_one = term_of (negsuc 0) []

abbrev taken_off : Term → Pair
taken_off b = record { first = minus_one; second = b }

-- coefficients, with one term taken off
module _ (at : List ℕ → ℤ) (b : Term) where
  here : (m : List ℕ) → b.monomial ≡ m → with_pair_added at (taken_off b) m ≡ at m +ℤ negsuc 0 *ℤ b.coefficient
  here m same =
      ap (λ (c : ℤ). at m +ℤ c)
      (same_at (product [] b.monomial) m (negsuc 0 *ℤ b.coefficient) (pos 0) (product-nil b.monomial ∙ same))

  elsewhere : (m : List ℕ) → (b.monomial ≡ m → ⊥) → with_pair_added at (taken_off b) m ≡ at m
  elsewhere m other =
      ap (λ (c : ℤ). at m +ℤ c)
      (other_at (product [] b.monomial) m (negsuc 0 *ℤ b.coefficient) (pos 0) (λ same. other (sym (product-nil b.monomial) ∙ same)))
      ∙ +ℤ_idr (at m)

  -- at its own monomial
  own : with_pair_added at (taken_off b) (product [] b.monomial) ≡ at b.monomial +ℤ negsuc 0 *ℤ b.coefficient
  own = ap (λ (m : List ℕ). with_pair_added at (taken_off b) m) (product-nil b.monomial) ∙ here b.monomial refl

nothing_less : (x : ℤ) → x +ℤ negsuc 0 *ℤ pos 0 ≡ x
nothing_less x = omega (arith, ints)

-- with all of them taken off
all_off : (at : List ℕ → ℤ) (bs : List Term) (m : List ℕ) → IsPoly bs
    → with_pairs_added at (pairs_with minus_one bs) m ≡ at m +ℤ negsuc 0 *ℤ number_at m bs
all_off at [] m poly = sym (nothing_less (at m))
all_off at (b ∷ bs) m poly = all_off (with_pair_added at (taken_off b)) bs m poly.3 ∙ elim (decide b.monomial m) [
  | inl same ↦
      let none : number_at m bs ≡ pos 0 = subst (λ (k : List ℕ). number_at k bs ≡ pos 0) same (none_at b.monomial bs poly.3 poly.2) in
      (λ i. here at b m same i +ℤ negsuc 0 *ℤ none i)
      ∙ nothing_less (at m +ℤ negsuc 0 *ℤ b.coefficient)
      ∙ ap (λ (c : ℤ). at m +ℤ negsuc 0 *ℤ c) (sym (same_at b.monomial m b.coefficient (number_at m bs) same))
  | inr other ↦
      ap (λ (c : ℤ). c +ℤ negsuc 0 *ℤ number_at m bs) (elsewhere at b m other)
      ∙ ap (λ (c : ℤ). at m +ℤ negsuc 0 *ℤ c) (sym (other_at b.monomial m b.coefficient (number_at m bs) other))
]

-- ---- where they fit
-- each term fits where it is taken off
abbrev FitsOff : (List ℕ → ℤ) → Term → Type 0
FitsOff at term = FitsSigned w128 (negsuc 0 *ℤ term.coefficient) × FitsSigned w128 (at term.monomial +ℤ negsuc 0 *ℤ term.coefficient)

-- the coefficients below a monomial decide it
below : (at other : List ℕ → ℤ) (m : List ℕ) (terms : List Term) → IsPoly terms → StartsBelow m terms
    → ((n : List ℕ) → (m ≡ n → ⊥) → at n ≡ other n) → All (FitsOff at) terms → All (FitsOff other) terms
below at other m [] poly starts same all = All-nil (FitsOff other)
below at other m (t ∷ ts) poly starts same all =
    let first = All-head (FitsOff at) t ts all in
    let number = same t.monomial (above_other m t.monomial starts) in
    All-cons (FitsOff other) t ts
    (first.0, subst (λ (c : ℤ). FitsSigned w128 (c +ℤ negsuc 0 *ℤ t.coefficient)) number first.1)
    (below at other m ts poly.3 (starts-chain m t.monomial ts starts poly.2) same (All-tail (FitsOff at) t ts all))

fits_off : (at : List ℕ → ℤ) (bs : List Term) → IsPoly bs → ProductsFit at (pairs_with minus_one bs) → All (FitsOff at) bs
fits_off at [] poly fits = All-nil (FitsOff at)
fits_off at (b ∷ bs) poly fits =
    All-cons (FitsOff at) b bs (fits.1, subst (FitsSigned w128) (own at b) fits.2)
    (below (with_pair_added at (taken_off b)) at b.monomial bs poly.3 poly.2 (elsewhere at b)
    (fits_off (with_pair_added at (taken_off b)) bs poly.3 fits.3))

low_degree : (b : Term) → IsLow b → is_over (length minus_one.monomial + length b.monomial) ≡ false
low_degree b low = le-ltb 16 (length minus_one.monomial + length b.monomial) (omega (arith, low))

off_fits : (at : List ℕ → ℤ) (bs : List Term) → IsPoly bs → All IsLow bs → All (FitsOff at) bs → ProductsFit at (pairs_with minus_one bs)
off_fits at [] poly low all = tt
off_fits at (b ∷ bs) poly low all =
    let first = All-head (FitsOff at) b bs all in (
      low_degree b (All-head IsLow b bs low),
      first.0,
      subst (FitsSigned w128) (sym (own at b)) first.1,
      off_fits (with_pair_added at (taken_off b)) bs poly.3 (All-tail IsLow b bs low)
          (below at (with_pair_added at (taken_off b)) b.monomial bs poly.3 poly.2 (λ n other. sym (elsewhere at b n other))
          (All-tail (FitsOff at) b bs all)),
    )

-- ---- differences
less_is : (left right : List Term) → sum_product left (number_poly (negsuc 0)) right ≡ all_added (pairs_with minus_one right) left
less_is left right =
    added-of (minus_one ∷ []) right left ∙ ap (λ (pairs : List Pair). all_added pairs left) (append-nil (pairs_with minus_one right))

module _ (nodes : List Node) (a b : ℕ) where
  parts : (poly : List Term) → poly_difference nodes a b ≡ Some poly
      → (left : List Term) × (right : List Term) × (poly_reading nodes a ≡ Some left) × (poly_reading nodes b ≡ Some right)
      × (less_poly left right ≡ Some poly)
  unfolding poly_difference
  parts poly e =
      let one = and_then_some (λ (l : List Term). option_and_then (λ (r : List Term). less_poly l r) (poly_reading nodes b))
      (poly_reading nodes a) poly e in
      let two = and_then_some (λ (r : List Term). less_poly one.0 r) (poly_reading nodes b) poly one.2 in
      (one.0, two.0, one.1, two.1, two.2)

  whole : (left right : List Term) → poly_reading nodes a ≡ Some left → poly_reading nodes b ≡ Some right
      → poly_difference nodes a b ≡ less_poly left right
  unfolding poly_difference
  whole left right e f = rw (e, f) refl

  made : (poly : List Term) → poly_difference nodes a b ≡ Some poly
      → (it : PolyDifference) × IsPolyDifferenceOf nodes a b it × PolyDifferenceFits it × (poly ≡ it.poly)
  made poly e =
      let w = parts poly e in
      let left = reading_is_poly nodes a w.0 w.2 in
      let right = reading_is_poly nodes b w.1 w.3 in
      let there = sym (less_is w.0 w.1) ∙ answered-some (sum_product w.0 (number_poly (negsuc 0)) w.1) poly w.4 in
      let all = from_added (λ m. number_at m w.0) (pairs_with minus_one w.1) w.0 poly (plain_with minus_one w.1 tt right.is_poly) left.is_poly
      (λ n. refl) there in (
        record { left = w.0; right = w.1; poly = poly },
        record {
          left_is = w.2;
          right_is = w.3;
          is_poly = all.poly;
          numbers = λ m. all.numbers m ∙ all_off (λ m. number_at m w.0) w.1 m right.is_poly;
        },
        fits_off (λ m. number_at m w.0) w.1 right.is_poly all.fit,
        refl,
      )

  defined : (it : PolyDifference) → IsPolyDifferenceOf nodes a b it → PolyDifferenceFits it → poly_difference nodes a b ≡ Some it.poly
  defined it is fits =
      let left = reading_is_poly nodes a it.left is.left_is in
      let right = reading_is_poly nodes b it.right is.right_is in
      let plain = plain_with minus_one it.right tt right.is_poly in
      let there = to_added (λ m. number_at m it.left) (pairs_with minus_one it.right) it.left plain left.is_poly (λ n. refl)
      (off_fits (λ m. number_at m it.left) it.right right.is_poly right.low fits) in
      let all = from_added (λ m. number_at m it.left) (pairs_with minus_one it.right) it.left there.0 plain left.is_poly (λ n. refl) there.1 in
      let same : there.0 ≡ it.poly = one_poly there.0 it.poly all.poly is.is_poly
      (λ m. all.numbers m ∙ all_off (λ m. number_at m it.left) it.right m right.is_poly ∙ sym (is.numbers m)) in
      whole it.left it.right is.left_is is.right_is ∙ ap answered (less_is it.left it.right ∙ there.1)
      ∙ ap (λ (p : List Term). Some p) same

  -- two terms have one difference
  one_difference : (it other : PolyDifference) → IsPolyDifferenceOf nodes a b it → IsPolyDifferenceOf nodes a b other → it ≡ other
  one_difference it other is also =
      let left = same_Some it.left other.left (sym is.left_is ∙ also.left_is) in
      let right = same_Some it.right other.right (sym is.right_is ∙ also.right_is) in
      let poly = one_poly it.poly other.poly is.is_poly also.is_poly
      (λ m. is.numbers m ∙ (λ i. number_at m (left i) +ℤ negsuc 0 *ℤ number_at m (right i)) ∙ sym (also.numbers m)) in
      λ i. record { left = left i; right = right i; poly = poly i }

pub poly_differences_exact : PolyDifferencesAreExact
poly_differences_exact nodes a b poly = (
  λ e. made nodes a b poly e,
  λ w. defined nodes a b w.0 w.1 w.2 ∙ ap (λ (p : List Term). Some p) (sym w.3),
)

-- ---- the rule
module _ (nodes : List Node) (premises : List Claim) where
  from_poly : (claim : Claim) → IsPolyRule nodes premises claim
      → (it : PolyDifference) × IsPolyResult nodes premises it × PolyDifferenceFits it × SaysNoDifference it claim
  from_poly claim h =
      let there = made nodes h.0 h.1 h.2 h.5 in
      (there.0, (h.0, h.1, h.3, there.1), there.2, h.4 ∙ ap (λ (p : List Term). claims.Zero p) there.3)

  to_poly : (claim : Claim) → ((it : PolyDifference) × IsPolyResult nodes premises it × PolyDifferenceFits it × SaysNoDifference it claim)
      → IsPolyRule nodes premises claim
  to_poly claim w =
      let is = w.1 in (is.0, is.1, w.0.poly, is.2, w.3, defined nodes is.0 is.1 w.0 is.3 w.2)

  one_result : (it other : PolyDifference) → IsPolyResult nodes premises it → IsPolyResult nodes premises other → it ≡ other
  one_result it other is also =
      let e = sym is.2 ∙ also.2 in
      let first : is.0 ≡ also.0 = ap first_of e in
      let second : is.1 ≡ also.1 = ap second_of e in
      one_difference nodes is.0 is.1 it other is.3
      (subst (λ (x : ℕ). IsPolyDifferenceOf nodes x is.1 other) (sym first)
      (subst (λ (y : ℕ). IsPolyDifferenceOf nodes also.0 y other) (sym second) also.3))

  pub poly_results : AllowsResult (IsPolyResult nodes premises) PolyDifferenceFits SaysNoDifference (IsPolyRule nodes premises)
  poly_results = record { exact = λ claim. (from_poly claim, to_poly claim); one = one_result }
