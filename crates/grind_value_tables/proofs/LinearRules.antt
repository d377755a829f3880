-- Each rule over linear forms lets a line claim what is true, where its premises are.
use Rattle.std.specs.Prelude.{◌≡◌, ◌≢◌, ℕ, List, [], ◌∷◌, Option, Some, None, IfSome, ℤ, pos, negsuc, ◌+ℤ◌, ◌*ℤ◌, neg_ℤ, ◌≤ℤ◌, ◌<ℤ◌, refl}
use Rattle.std.specs.Option.{option_and_then}
use Rattle.std.proofs.Common.{arith, sym, ap, ◌∙◌, subst, inl, inr}
use Rattle.std.proofs.lemmas.Int.{by_lt_z}
use Rattle.std.proofs.lemmas.Option.{same_Some, none-some}
use lib.IntN.{*ℤ-zero}
use Rattle.grind_lemmas.proofs.Rings.{linear}
use Rattle.grind_lemmas.proofs.Orders.{int_mul-le}
use Rattle.grind_monomials.proofs.ValueLemmas.{unit_left}
use Rattle.grind_term_graph.specs.declared.node.Node.{Node}
use Rattle.grind_linear_forms.specs.Forms.{FormData, number_form}
use Rattle.grind_linear_forms.specs.Sums.{scaled_sum}
use Rattle.grind_linear_forms.specs.Values.{parts_value, form_value}
use Rattle.grind_polynomials.specs.Values.{poly_value}
use Rattle.grind_differences.specs.Bounds.{plus, IsWithinCut}
use Rattle.grind_differences.specs.Differences.{difference, AreApartByReading}
use Rattle.grind_claims.specs.declared.claim.Claim.{Claim}
use Rattle.grind_claims.specs.declared.claim.Claim.TheVariants.{Holds, Fails, Same, Differ, AtMost, Zero, Absurd}
use Rattle.grind_claims.specs.Claims.{IsFormed}
use Rattle.grind_arithmetic_rules.specs.LinearRules.{IsRead, IsWrite, IsLine, taken, combined, IsCombine, IsPinch, IsStrict, IsBoundOver, KeepApart, IsApart, IsTooGreat}
use Rattle.grind_value_tables.specs.Respects.{Respects}
use Rattle.grind_value_tables.specs.Truths.{ClaimTrue}
use Rattle.grind_value_tables.proofs.Meanings.{PremisesHold, chained, false≢one, false_unless, claim_is, premises_are, premise_is, formula_value}
use Rattle.grind_value_tables.proofs.Arithmetic.{ArithmeticLaws, over_value, plus_value, arithmetic, comparison_value}

-- facts of whole numbers, over plain variables: x is the value of a form, a and b those of the sides
at_most_from : (x a b : ℤ) → x ≡ a +ℤ neg_ℤ b → a ≤ℤ b → x ≤ℤ pos 0
at_most_from x a b e h = omega (arith, linear)

not_above : (a b : ℤ) → (a ≤ℤ b → ⊥) → b <ℤ a
not_above a b h = by_lt_z b a (λ above. above) (λ under. absurd (h under))

over_from : (x y a b : ℤ) → y ≡ b +ℤ neg_ℤ a → x ≡ y +ℤ pos 1 → b <ℤ a → x ≤ℤ pos 0
over_from x y a b e f h = omega (arith, linear)

ordered_from : (x y a b : ℤ) → y ≡ a +ℤ neg_ℤ b → (y +ℤ pos 0) ≤ℤ x → x ≤ℤ pos 0 → a ≤ℤ b
ordered_from x y a b e f h = omega (arith, linear)

strictly_from : (x y a b : ℤ) → y ≡ b +ℤ neg_ℤ a → (y +ℤ pos 1) ≤ℤ x → x ≤ℤ pos 0 → a ≤ℤ b → ⊥
strictly_from x y a b e f h under = omega (arith, linear)

apart_from : (x y a b : ℤ) → y ≡ a +ℤ neg_ℤ b → (y +ℤ pos 1) ≤ℤ x → x ≤ℤ pos 0 → a ≡ b → ⊥
apart_from x y a b e f h same = omega (arith, linear)

at_most_same : (x a b : ℤ) → x ≡ a +ℤ neg_ℤ b → a ≡ b → x ≤ℤ pos 0
at_most_same x a b e same = omega (arith, linear)

pinched : (x y a b : ℤ) → x ≡ a +ℤ neg_ℤ b → y ≡ b +ℤ neg_ℤ a → x ≤ℤ pos 0 → y ≤ℤ pos 0 → a ≡ b
pinched x y a b e f h k = omega (arith, linear)

same_from : (x a b : ℤ) → x ≡ a +ℤ neg_ℤ b → pos 0 ≤ℤ x → x ≤ℤ pos 0 → a ≡ b
same_from x a b e h k = omega (arith, linear)

-- the difference of different numbers that is at most 0 is below 0
below_zero : (x a b : ℤ) → x ≡ a +ℤ neg_ℤ b → (a ≡ b → ⊥) → x ≤ℤ pos 0 → x <ℤ pos 0
below_zero x a b e apart h = by_lt_z x (pos 0) (λ under. under) (λ over. absurd (apart (same_from x a b e over h)))

next_at_most : (x y : ℤ) → y ≡ x +ℤ pos 1 → x <ℤ pos 0 → y ≤ℤ pos 0
next_at_most x y e h = omega (arith, linear)

number_apart : (x p c a b : ℤ) → x ≡ p +ℤ c → p ≡ pos 0 → x ≡ a +ℤ neg_ℤ b → a ≡ b → c ≡ pos 0
number_apart x p c a b e f g same = omega (arith, linear)

-- a number of times that is not negative, of what is at most 0; and any number of times 0
times_at_most : (times : ℕ) (x : ℤ) → x ≤ℤ pos 0 → (pos times *ℤ x) ≤ℤ pos 0
times_at_most times x h =
    let product = int_mul-le (pos times) x (pos 0) (omega (arith, linear)) h in
    let none = *ℤ-zero (pos times) in omega (arith, linear)

times_none : (times x y : ℤ) → x ≡ y → y ≡ pos 0 → (times *ℤ x) ≤ℤ pos 0
times_none times x y e f =
    let product : times *ℤ x ≡ times *ℤ pos 0 = ap (λ (z : ℤ). times *ℤ z) (e ∙ f) in
    let none = *ℤ-zero times in omega (arith, linear)

added_at_most : (x y p q : ℤ) → x ≡ (pos 1 *ℤ y) +ℤ (p *ℤ q) → y ≤ℤ pos 0 → (p *ℤ q) ≤ℤ pos 0 → x ≤ℤ pos 0
added_at_most x y p q e h k =
    let unit = unit_left y in omega (arith, linear)

lower_at_most : (x y p c d : ℤ) → x ≡ p +ℤ c → y ≡ p +ℤ d → c ≤ℤ d → y ≤ℤ pos 0 → x ≤ℤ pos 0
lower_at_most x y p c d e f h k = omega (arith, linear)

module _ (laws : ArithmeticLaws) (v : ℕ → ℤ) where
  -- what a premise gives a combination is at most 0, so often
  taken_value : (factor : ℤ) (premise : Claim) (form : FormData) → taken factor premise ≡ Some form
      → ClaimTrue v premise → (factor *ℤ form_value v form) ≤ℤ pos 0
  taken_value (pos times) (AtMost other) form e h =
      times_at_most times (form_value v form) (subst (λ f. form_value v f ≤ℤ pos 0) (same_Some other form e) h)
  taken_value (negsuc times) (AtMost other) form e h = absurd (none-some form e)
  taken_value (pos times) (Zero poly) form e h =
      times_none (pos times) (form_value v form) (poly_value v poly) (laws.forms_of_polys v poly form e) h
  taken_value (negsuc times) (Zero poly) form e h =
      times_none (negsuc times) (form_value v form) (poly_value v poly) (laws.forms_of_polys v poly form e) h
  taken_value (pos times) (Holds n) form e h = absurd (none-some form e)
  taken_value (negsuc times) (Holds n) form e h = absurd (none-some form e)
  taken_value (pos times) (Fails n) form e h = absurd (none-some form e)
  taken_value (negsuc times) (Fails n) form e h = absurd (none-some form e)
  taken_value (pos times) (Same a b) form e h = absurd (none-some form e)
  taken_value (negsuc times) (Same a b) form e h = absurd (none-some form e)
  taken_value (pos times) (Differ a b) form e h = absurd (none-some form e)
  taken_value (negsuc times) (Differ a b) form e h = absurd (none-some form e)
  taken_value (pos times) Absurd form e h = absurd (none-some form e)
  taken_value (negsuc times) Absurd form e h = absurd (none-some form e)

  -- where the premises hold, what they are added to stays at most 0
  combined_value : (factors : List ℤ) (premises : List Claim) (sum whole : FormData)
      → combined sum factors premises ≡ Some whole → PremisesHold v premises → form_value v sum ≤ℤ pos 0
      → form_value v whole ≤ℤ pos 0
  combined_value [] [] sum whole e hold h = subst (λ f. form_value v f ≤ℤ pos 0) (same_Some sum whole e) h
  combined_value [] (premise ∷ premises) sum whole e hold h = absurd (none-some whole e)
  combined_value (factor ∷ factors) [] sum whole e hold h = absurd (none-some whole e)
  combined_value (factor ∷ factors) (premise ∷ premises) sum whole e hold h =
      let next = chained (λ next. combined next factors premises)
      (option_and_then (λ form. scaled_sum sum (pos 1) form factor) (taken factor premise)) whole e in
      let one_more = chained (λ form. scaled_sum sum (pos 1) form factor) (taken factor premise) next.0 next.1 in
      combined_value factors premises next.0 whole next.2 hold.1
      (added_at_most (form_value v next.0) (form_value v sum) factor (form_value v one_more.0)
      (laws.sums v sum one_more.0 next.0 (pos 1) factor one_more.2) h
      (taken_value factor premise one_more.0 one_more.1 hold.0))

  -- a form within a cut of what is at most 0 is at most 0
  within_cut_value : (sum form : FormData) (divisor : ℤ) → IsWithinCut sum divisor form → form_value v sum ≤ℤ pos 0
      → form_value v form ≤ℤ pos 0
  within_cut_value sum form divisor within h =
      let parts = ap (parts_value v) within.3 in
      let below = laws.cuts v sum within.0 divisor within.1 within.2 h in
      let lower = within.4 in omega (arith, linear)

  module _ (premises : List Claim) (claim : Claim) (hold : PremisesHold v premises) where
    pub combine_sound : (divisor : ℤ) (factors : List ℤ) → IsCombine divisor factors premises claim → ClaimTrue v claim
    combine_sound divisor factors rule =
        let nothing : form_value v (number_form (pos 0)) ≤ℤ pos 0 = omega (arith, linear) in
        claim_is v claim (AtMost rule.1) rule.4
        (within_cut_value rule.0 rule.1 divisor rule.3
        (combined_value factors premises (number_form (pos 0)) rule.0 rule.2 hold nothing))

    module _ (nodes : List Node) (respects : Respects nodes v) where
      -- the difference of two terms has the difference of their values
      value_of_difference : (a b : ℕ) (form : FormData) → difference nodes a b ≡ Some form → form_value v form ≡ v a +ℤ neg_ℤ (v b)
      value_of_difference a b form e = laws.differences nodes v a b form (arithmetic nodes v respects) e

      pub read_sound : IsRead nodes premises claim → ClaimTrue v claim
      read_sound rule = claim_is v claim (AtMost rule.1) rule.2 (elim rule.3 [
        | inl h ↦
            let compares = h.1 in
            let value = comparison_value nodes v respects rule.0 compares.0 compares.1 compares.2 in
            at_most_from (form_value v rule.1) (v compares.0) (v compares.1)
            (value_of_difference compares.0 compares.1 rule.1 compares.3)
            (value.0 (premises_are v premises (Holds rule.0 ∷ []) h.0 hold).0)
        | inr h ↦
            let compares = h.1 in
            let value = comparison_value nodes v respects rule.0 compares.0 compares.1 compares.2 in
            let base = compares.3 in
            over_from (form_value v rule.1) (form_value v base.0) (v compares.0) (v compares.1)
            (value_of_difference compares.1 compares.0 base.0 base.1) (plus_value v base.0 rule.1 (pos 1) base.2)
            (not_above (v compares.0) (v compares.1)
            (λ under. false≢one (v rule.0) (premises_are v premises (Fails rule.0 ∷ []) h.0 hold).0 (value.1 under)))
      ])

      -- the claim is about a formula, which has 0 or 1
      pub write_sound : IsFormed nodes claim → IsWrite nodes premises claim → ClaimTrue v claim
      write_sound formed rule =
          let bound : form_value v rule.1 ≤ℤ pos 0 = (premises_are v premises (AtMost rule.1 ∷ []) rule.2 hold).0 in
          elim rule.3 [
            | inl h ↦
                let compares = h.1 in
                let value = comparison_value nodes v respects rule.0 compares.0 compares.1 compares.2 in
                let base = compares.3 in
                claim_is v claim (Holds rule.0) h.0
                (value.1 (ordered_from (form_value v rule.1) (form_value v base.0) (v compares.0) (v compares.1)
                (value_of_difference compares.0 compares.1 base.0 base.1) (over_value v base.0 rule.1 (pos 0) base.2) bound))
            | inr h ↦
                let compares = h.1 in
                let value = comparison_value nodes v respects rule.0 compares.0 compares.1 compares.2 in
                let base = compares.3 in
                claim_is v claim (Fails rule.0) h.0
                (false_unless (v rule.0) (formula_value nodes v respects rule.0 (subst (IsFormed nodes) h.0 formed))
                (λ holds. strictly_from (form_value v rule.1) (form_value v base.0) (v compares.0) (v compares.1)
                (value_of_difference compares.1 compares.0 base.0 base.1) (over_value v base.0 rule.1 (pos 1) base.2) bound
                (value.0 holds)))
          ]

      pub line_sound : IsLine nodes premises claim → ClaimTrue v claim
      line_sound rule =
          let h = premises_are v premises (Same rule.0 rule.1 ∷ []) rule.3 hold in
          claim_is v claim (AtMost rule.2) rule.4
          (at_most_same (form_value v rule.2) (v rule.0) (v rule.1) (value_of_difference rule.0 rule.1 rule.2 rule.5) h.0)

      pub pinch_sound : IsPinch nodes premises claim → ClaimTrue v claim
      pinch_sound rule =
          let h = premises_are v premises (AtMost rule.2 ∷ AtMost rule.3 ∷ []) rule.4 hold in
          claim_is v claim (Same rule.0 rule.1) rule.5
          (pinched (form_value v rule.2) (form_value v rule.3) (v rule.0) (v rule.1)
          (value_of_difference rule.0 rule.1 rule.2 rule.6) (value_of_difference rule.1 rule.0 rule.3 rule.7) h.0 h.1.0)

      pub strict_sound : IsStrict nodes premises claim → ClaimTrue v claim
      strict_sound rule =
          let h = premises_are v premises (Differ rule.0 rule.1 ∷ AtMost rule.2 ∷ []) rule.3 hold in
          let below : form_value v rule.2 <ℤ pos 0 = elim rule.5 [
            | inl e ↦ below_zero (form_value v rule.2) (v rule.0) (v rule.1) (value_of_difference rule.0 rule.1 rule.2 e) h.0 h.1.0
            | inr e ↦ below_zero (form_value v rule.2) (v rule.1) (v rule.0) (value_of_difference rule.1 rule.0 rule.2 e)
                (λ same. h.0 (sym same)) h.1.0
          ] in
          claim_is v claim (AtMost (plus rule.2 (pos 1))) rule.4
          (next_at_most (form_value v rule.2) (form_value v (plus rule.2 (pos 1)))
          (plus_value v rule.2 (plus rule.2 (pos 1)) (pos 1) refl) below)

      -- two terms whose readings differ by a number have different values
      apart_by_reading : (a b : ℕ) → AreApartByReading nodes a b → v a ≢ v b
      apart_by_reading a b apart same =
          apart.3 (number_apart (form_value v apart.0) (parts_value v apart.0.parts) apart.0.constant (v a) (v b) refl
          (ap (parts_value v) apart.2) (value_of_difference a b apart.0 apart.1) same)

      -- two terms whose difference and 1 is at most 0 have
      apart_by_bound : (first : Claim) (a b : ℕ) → ClaimTrue v first → IsBoundOver nodes first a b → v a ≢ v b
      apart_by_bound first a b p bound same =
          let base = bound.2 in
          apart_from (form_value v bound.0) (form_value v base.0) (v a) (v b) (value_of_difference a b base.0 base.1)
          (over_value v base.0 bound.0 (pos 1) base.2) (premise_is v first (AtMost bound.0) bound.1 p) same

      -- what premises keep apart has different values
      kept_apart : (a b : ℕ) → KeepApart nodes premises a b → v a ≢ v b
      kept_apart a b (inl reading) = apart_by_reading a b reading.1
      kept_apart a b (inr (inl bound)) =
          apart_by_bound bound.0 a b (premises_are v premises (bound.0 ∷ []) bound.1 hold).0 bound.2
      kept_apart a b (inr (inr along)) =
          let h = premises_are v premises
          (Differ along.0 along.1 ∷ Same a along.0 ∷ Same b along.1 ∷ []) along.2 hold in
          (λ same. h.0 (sym h.1.0 ∙ same ∙ h.1.1.0))

      pub apart_sound : IsApart nodes premises claim → ClaimTrue v claim
      apart_sound rule = claim_is v claim (Differ rule.0 rule.1) rule.2 (elim rule.3 [
        | inl h ↦ kept_apart rule.0 rule.1 h
        | inr h ↦ (λ same. kept_apart rule.1 rule.0 h (sym same))
      ])

-- a number over 0 is not at most 0
pub not_too_great : (v : ℕ → ℤ) (first : Claim) → ClaimTrue v first → IsTooGreat first → ⊥
not_too_great v first p h =
    let bound : form_value v h.0 ≤ℤ pos 0 = premise_is v first (AtMost h.0) h.1 p in
    let parts : parts_value v h.0.parts ≡ pos 0 = ap (parts_value v) h.2 in
    let over = h.3 in omega (arith, linear)
