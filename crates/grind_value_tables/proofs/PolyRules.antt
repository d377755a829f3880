-- Each rule over polynomials lets a line claim what is true, where its premises are.
use Rattle.std.specs.Prelude.{◌≡◌, ℕ, List, [], ◌∷◌, Option, Some, None, IfSome, Result, Ok, Err, ℤ, pos, ◌+ℤ◌, ◌*ℤ◌, neg_ℤ, refl}
use Rattle.std.specs.Option.{option_and_then}
use Rattle.std.proofs.Common.{arith, sym, ap, ◌∙◌, subst}
use Rattle.std.proofs.lemmas.Option.{same_Some, none-some}
use lib.IntN.{*ℤ-zero}
use Rattle.grind_lemmas.proofs.Rings.{linear}
use Rattle.grind_lemmas.proofs.Orders.{int_mul-zero_out}
use Rattle.grind_monomials.proofs.ValueLemmas.{unit_right}
use Rattle.grind_term_graph.specs.declared.node.Node.{Node}
use Rattle.grind_polynomials.specs.declared.poly.PolyRefusal.{PolyRefusal}
use Rattle.grind_polynomials.specs.declared.poly.Term.{Term}
use Rattle.grind_polynomials.specs.Readings.{answered}
use Rattle.grind_polynomials.specs.Sums.{sum_product}
use Rattle.grind_polynomials.specs.Values.{poly_value}
use Rattle.grind_differences.specs.Differences.{poly_difference}
use Rattle.grind_differences.specs.Equations.{multiple_poly}
use Rattle.grind_claims.specs.declared.claim.Claim.{Claim}
use Rattle.grind_claims.specs.declared.claim.Claim.TheVariants.{Holds, Fails, Same, Differ, AtMost, Zero, Absurd}
use Rattle.grind_arithmetic_rules.specs.PolyRules.{IsPolyRule, IsEqual, zero_of, gathered, IsIdeal, IsFalseZero}
use Rattle.grind_value_tables.specs.Respects.{Respects}
use Rattle.grind_value_tables.specs.Truths.{ClaimTrue}
use Rattle.grind_value_tables.proofs.Meanings.{PremisesHold, chained, claim_is, premises_are, premise_is}
use Rattle.grind_value_tables.proofs.Arithmetic.{ArithmeticLaws, arithmetic}

-- an answer that is there is that of the result
answer_is : (result : Result (List Term) PolyRefusal) (poly : List Term) → answered result ≡ Some poly → result ≡ Ok poly
answer_is (Ok other) poly e = ap Ok (same_Some other poly e)
answer_is (Err refusal) poly e = absurd (none-some poly e)

-- facts of whole numbers, over plain variables: x is the value of a polynomial, a and b those of the sides
none_from : (x a b : ℤ) → x ≡ a +ℤ neg_ℤ b → a ≡ b → x ≡ pos 0
none_from x a b e same = omega (arith, linear)

same_from : (x a b : ℤ) → x ≡ a +ℤ neg_ℤ b → x ≡ pos 0 → a ≡ b
same_from x a b e h = omega (arith, linear)

added_none : (x y p q : ℤ) → x ≡ y +ℤ (p *ℤ q) → y ≡ pos 0 → q ≡ pos 0 → x ≡ pos 0
added_none x y p q e h k =
    let product : p *ℤ q ≡ p *ℤ pos 0 = ap (λ (z : ℤ). p *ℤ z) k in
    let none = *ℤ-zero p in omega (arith, linear)

-- a premise that is 0 has the value 0
zero_value_of : (v : ℕ → ℤ) (premise : Claim) (poly : List Term) → zero_of premise ≡ Some poly
    → ClaimTrue v premise → poly_value v poly ≡ pos 0
zero_value_of v (Zero other) poly e h = subst (λ p. poly_value v p ≡ pos 0) (same_Some other poly e) h
zero_value_of v (Holds n) poly e h = absurd (none-some poly e)
zero_value_of v (Fails n) poly e h = absurd (none-some poly e)
zero_value_of v (Same a b) poly e h = absurd (none-some poly e)
zero_value_of v (Differ a b) poly e h = absurd (none-some poly e)
zero_value_of v (AtMost form) poly e h = absurd (none-some poly e)
zero_value_of v Absurd poly e h = absurd (none-some poly e)

module _ (laws : ArithmeticLaws) (v : ℕ → ℤ) where
  -- where the premises hold, what they are added to stays 0
  gathered_value : (factors : List (List Term)) (premises : List Claim) (sum whole : List Term)
      → gathered sum factors premises ≡ Some whole → PremisesHold v premises → poly_value v sum ≡ pos 0
      → poly_value v whole ≡ pos 0
  gathered_value [] [] sum whole e hold h = subst (λ p. poly_value v p ≡ pos 0) (same_Some sum whole e) h
  gathered_value [] (premise ∷ premises) sum whole e hold h = absurd (none-some whole e)
  gathered_value (factor ∷ factors) [] sum whole e hold h = absurd (none-some whole e)
  gathered_value (factor ∷ factors) (premise ∷ premises) sum whole e hold h =
      let next = chained (λ next. gathered next factors premises)
      (option_and_then (λ poly. answered (sum_product sum factor poly)) (zero_of premise)) whole e in
      let one_more = chained (λ poly. answered (sum_product sum factor poly)) (zero_of premise) next.0 next.1 in
      gathered_value factors premises next.0 whole next.2 hold.1
      (added_none (poly_value v next.0) (poly_value v sum) (poly_value v factor) (poly_value v one_more.0)
      (laws.poly_sums v sum factor one_more.0 next.0 (answer_is (sum_product sum factor one_more.0) next.0 one_more.2)) h
      (zero_value_of v premise one_more.0 one_more.1 hold.0))

  module _ (premises : List Claim) (claim : Claim) (hold : PremisesHold v premises) where
    pub ideal_sound : (divisor : ℤ) (factors : List (List Term)) → IsIdeal divisor factors premises claim → ClaimTrue v claim
    ideal_sound divisor factors rule =
        let whole = gathered_value factors premises [] (multiple_poly divisor rule.0) rule.3 hold refl in
        claim_is v claim (Zero rule.0) rule.1
        (int_mul-zero_out divisor (poly_value v rule.0) (sym (laws.multiples v divisor rule.0) ∙ whole) rule.2)

    module _ (nodes : List Node) (respects : Respects nodes v) where
      -- the polynomial of the difference of two terms has the difference of their values
      value_of_difference : (a b : ℕ) (poly : List Term) → poly_difference nodes a b ≡ Some poly
          → poly_value v poly ≡ v a +ℤ neg_ℤ (v b)
      value_of_difference a b poly e = laws.poly_differences nodes v a b poly (arithmetic nodes v respects) e

      pub poly_sound : IsPolyRule nodes premises claim → ClaimTrue v claim
      poly_sound rule =
          let h = premises_are v premises (Same rule.0 rule.1 ∷ []) rule.3 hold in
          claim_is v claim (Zero rule.2) rule.4
          (none_from (poly_value v rule.2) (v rule.0) (v rule.1) (value_of_difference rule.0 rule.1 rule.2 rule.5) h.0)

      pub equal_sound : IsEqual nodes premises claim → ClaimTrue v claim
      equal_sound rule =
          let h = premises_are v premises (Zero rule.2 ∷ []) rule.3 hold in
          claim_is v claim (Same rule.0 rule.1) rule.4
          (same_from (poly_value v rule.2) (v rule.0) (v rule.1) (value_of_difference rule.0 rule.1 rule.2 rule.5) h.0)

-- a number other than 0 is not 0
pub not_false_zero : (v : ℕ → ℤ) (first : Claim) → ClaimTrue v first → IsFalseZero first → ⊥
not_false_zero v first p h =
    let is_zero : poly_value v h.0 ≡ pos 0 = premise_is v first (Zero h.0) h.1 p in
    let other = h.2 in
    let whole : poly_value v h.0 ≡ (other.0 *ℤ pos 1) +ℤ pos 0 = ap (poly_value v) other.1 in
    let unit = unit_right other.0 in
    other.2 (omega (arith, linear))
