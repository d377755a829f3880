-- Premises in order: how they are put there, and how they are added up.
use Rattle.std.proofs.Common.{◌≡◌, ◌≢◌, ℕ, List, [], ◌∷◌, ◌++◌, length, ℤ, pos, Option, Some, None, arith, sym, ap, ◌∙◌, refl}
use Rattle.std.proofs.lemmas.List.{append-nil, append_assoc}
use Rattle.std.specs.Option.{option_and_then}
use Rattle.grind_polynomials.specs.declared.poly.Term.{Term}
use Rattle.grind_polynomials.specs.Readings.{answered}
use Rattle.grind_polynomials.specs.Sums.{sum_product}
use Rattle.grind_differences.specs.Equations.{multiple_poly}
use Rattle.grind_claims.specs.declared.claim.Claim.{Claim}
use Rattle.grind_claims.specs.declared.claim.Claim.TheVariants.{Zero}
use Rattle.grind_arithmetic_rules.specs.PolyRules.{gathered, CoefficientsFit}
use Rattle.grind_ring_basis.specs.declared.types.Share.{Share}
use Rattle.grind_ring_basis.specs.declared.types.Combination.{Combination}
use Rattle.grind_ring_basis.specs.Shares.{share, shares_of, with_share, with_shares, posts_in, factors_in, claims_in, Sums, IsAllowed, IsLineOver}

-- ---- elements, put in turn
module _ (whole all new : List (ℕ × Share)) (posts tail_posts : List ℕ) (elements tail_elements factors tail_factors : List (List Term))
    (post : ℕ) (element factor : List Term) where
  pub put_step : posts ≡ post ∷ tail_posts → elements ≡ element ∷ tail_elements → factors ≡ factor ∷ tail_factors
      → new ≡ with_share all (share post element factor)
      → with_shares all (shares_of posts elements factors) ≡ whole
      → with_shares new (shares_of tail_posts tail_elements tail_factors) ≡ whole
  put_step ps es fs is so_far =
      ap (λ (it : List (ℕ × Share)). with_shares it (shares_of tail_posts tail_elements tail_factors)) is
      ∙ sym (λ i. with_shares all (shares_of (ps i) (es i) (fs i))) ∙ so_far

pub put_end : (whole all : List (ℕ × Share)) (posts : List ℕ) (elements factors : List (List Term)) → length posts ≡ 0
    → with_shares all (shares_of posts elements factors) ≡ whole → all ≡ whole
put_end whole all [] elements factors e so_far = so_far
put_end whole all (n ∷ ns) elements factors e so_far = absurd (omega arith)

pub put_no_element : (whole all : List (ℕ × Share)) (posts : List ℕ) (elements factors : List (List Term)) → length elements ≡ 0
    → with_shares all (shares_of posts elements factors) ≡ whole → all ≡ whole
put_no_element whole all [] elements factors e so_far = so_far
put_no_element whole all (n ∷ ns) [] factors e so_far = so_far
put_no_element whole all (n ∷ ns) (b ∷ bs) factors e so_far = absurd (omega arith)

pub put_no_factor : (whole all : List (ℕ × Share)) (posts : List ℕ) (elements factors : List (List Term)) → length factors ≡ 0
    → with_shares all (shares_of posts elements factors) ≡ whole → all ≡ whole
put_no_factor whole all [] elements factors e so_far = so_far
put_no_factor whole all (n ∷ ns) [] factors e so_far = so_far
put_no_factor whole all (n ∷ ns) (b ∷ bs) [] e so_far = so_far
put_no_factor whole all (n ∷ ns) (b ∷ bs) (q ∷ qs) e so_far = absurd (omega arith)

-- ---- premises, added up
-- what is left gives with what was added what the whole gives
pub record AddsUp (premises rest : List (ℕ × Share)) (factors : List (List Term)) (from : List ℕ) (sum : List Term) : Type 0 where
  pub factors_are : factors ++ factors_in rest ≡ factors_in premises
  pub from_are : from ++ posts_in rest ≡ posts_in premises
  pub sum_is : gathered sum (factors_in rest) (claims_in rest) ≡ gathered [] (factors_in premises) (claims_in premises)

pub adds_begin : (premises : List (ℕ × Share)) (sum : List Term) → sum ≡ [] → AddsUp premises premises [] [] sum
adds_begin premises sum is = record {
  factors_are = refl;
  from_are = refl;
  sum_is = ap (λ (s : List Term). gathered s (factors_in premises) (claims_in premises)) is;
}

module _ (premises rest tail : List (ℕ × Share)) (post : ℕ) (one : Share) (factors : List (List Term)) (from : List ℕ) (sum : List Term)
    (is : rest ≡ (post, one) ∷ tail) (so_far : AddsUp premises rest factors from sum) where
  next_is : (found : Option (List Term)) → found ≡ answered (sum_product sum one.factor one.poly)
      → gathered sum (factors_in rest) (claims_in rest) ≡ option_and_then (λ next. gathered next (factors_in tail) (claims_in tail)) found
  next_is found e =
      ap (λ (all : List (ℕ × Share)). gathered sum (factors_in all) (claims_in all)) is
      ∙ ap (option_and_then (λ next. gathered next (factors_in tail) (claims_in tail))) (sym e)

  pub adds_step : (next : List Term) (more : List (List Term)) (behind : List ℕ) → Some next ≡ answered (sum_product sum one.factor one.poly)
      → more ≡ factors ++ one.factor ∷ [] → behind ≡ from ++ post ∷ [] → AddsUp premises tail more behind next
  adds_step next more behind e more_is behind_is = record {
    factors_are =
        ap (λ (all : List (List Term)). all ++ factors_in tail) more_is ∙ append_assoc factors (one.factor ∷ []) (factors_in tail)
        ∙ ap (λ (all : List (ℕ × Share)). factors ++ factors_in all) (sym is) ∙ so_far.factors_are;
    from_are =
        ap (λ (all : List ℕ). all ++ posts_in tail) behind_is ∙ append_assoc from (post ∷ []) (posts_in tail)
        ∙ ap (λ (all : List (ℕ × Share)). from ++ posts_in all) (sym is) ∙ so_far.from_are;
    sum_is = sym (next_is (Some next) e) ∙ so_far.sum_is;
  }

  pub adds_none : None ≡ answered (sum_product sum one.factor one.poly) → gathered [] (factors_in premises) (claims_in premises) ≡ None
  adds_none e = sym so_far.sum_is ∙ next_is None e

pub adds_end : (premises rest : List (ℕ × Share)) (factors : List (List Term)) (from : List ℕ) (sum : List Term) → length rest ≡ 0
    → AddsUp premises rest factors from sum → Sums premises factors from sum
adds_end premises [] factors from sum e so_far = record {
  factors_are = sym (append-nil factors) ∙ so_far.factors_are;
  from_are = sym (append-nil from) ∙ so_far.from_are;
  sum_is = sym so_far.sum_is;
}
adds_end premises (x ∷ xs) factors from sum e so_far = absurd (omega arith)

-- ---- the line that is allowed
poly_in : Claim → List Term → List Term
poly_in (Zero poly) other = poly
poly_in _ other = other

same_zero : (a b : List Term) → Zero a ≡ Zero b → a ≡ b
unfolding poly_in
same_zero a b e = ap (λ (it : Claim). poly_in it a) e

none_some : {A : Type 0} → (x : A) → None ≡ Some x → ⊥
none_some x e = cc

some_same : (a b : List Term) → Some a ≡ Some b → a ≡ b
some_same a b e = cc

module _ (premises : List (ℕ × Share)) (divisor : ℤ) (rest : List Term) where
  pub not_summed : gathered [] (factors_in premises) (claims_in premises) ≡ None → ¬ IsAllowed divisor premises rest
  not_summed none allowed = none_some (multiple_poly divisor allowed.0) (sym none ∙ allowed.3)

  module _ (factors : List (List Term)) (from : List ℕ) (sum : List Term) (sums : Sums premises factors from sum) (fits : CoefficientsFit rest) where
    pub not_so_often : (((divisor ≢ pos 0) × (sum ≡ multiple_poly divisor rest)) → ⊥) → ¬ IsAllowed divisor premises rest
    not_so_often no_sum allowed =
        no_sum (
          allowed.2,
          some_same sum (multiple_poly divisor rest)
              (sym sums.sum_is ∙ allowed.3 ∙ ap (λ (p : List Term). Some (multiple_poly divisor p)) (sym (same_zero rest allowed.0 allowed.1))),
        )

    pub line_over : (line : Combination) → line ≡ record { divisor = divisor; factors = factors; from = from }
        → (divisor ≢ pos 0) × (sum ≡ multiple_poly divisor rest) → IsLineOver divisor premises rest line
    line_over line is so_often = record {
      allowed = (rest, refl, so_often.0, sums.sum_is ∙ ap (λ (p : List Term). Some p) so_often.1, fits);
      line_is = is ∙ (λ i. record { divisor = divisor; factors = sums.factors_are i; from = sums.from_are i });
    }
