-- Sums of bounds that are taken so often.
use Rattle.std.proofs.Common.{◌≡◌, [], ◌∷◌, Option, Some, None, ℤ, pos, negsuc, ◌<ℤ◌, arith, sym, ap, ◌∙◌, refl}
use Rattle.std.specs.Option.{option_and_then}
use borrow.Author.Differences.{ints}
use Rattle.grind_linear_forms.specs.Forms.{FormData, number_form}
use Rattle.grind_linear_forms.specs.Sums.{scaled_sum}
use Rattle.grind_arithmetic_rules.specs.LinearRules.{combined}
use Rattle.grind_claims.specs.declared.claim.Claim.TheVariants.{AtMost}

as_it_is : (found : Option FormData) → option_and_then (λ (it : FormData). Some it) found ≡ found
as_it_is None = refl
as_it_is (Some it) = refl

-- what the first gives, and the second with it
abbrev then_second : FormData → ℤ → Option FormData → Option FormData
then_second lower k first = option_and_then (λ (sum : FormData). scaled_sum sum (pos 1) lower k) first

sum_two : (upper lower : FormData) (m k : ℤ) → pos 0 <ℤ m → pos 0 <ℤ k
    → combined (number_form (pos 0)) (m ∷ k ∷ []) (AtMost upper ∷ AtMost lower ∷ [])
    ≡ then_second lower k (scaled_sum (number_form (pos 0)) (pos 1) upper m)
sum_two upper lower (pos m) (pos k) one two = by_first (scaled_sum (number_form (pos 0)) (pos 1) upper (pos m))
  where
    by_first : (first : Option FormData)
        → option_and_then (λ (next : FormData). combined next (pos k ∷ []) (AtMost lower ∷ [])) first ≡ then_second lower (pos k) first
    by_first None = refl
    by_first (Some sum) = as_it_is (scaled_sum sum (pos 1) lower (pos k))
sum_two upper lower (pos m) (negsuc k) one two = absurd (omega (arith, ints))
sum_two upper lower (negsuc m) k one two = absurd (omega (arith, ints))

module _ (upper lower : FormData) (m k : ℤ) (one : pos 0 <ℤ m) (two : pos 0 <ℤ k) (nothing : FormData) (nothing_is : nothing ≡ number_form (pos 0))
    (found : Option FormData) (found_is : found ≡ scaled_sum nothing (pos 1) upper m) where
  whole : (first : Option FormData) → found ≡ first
      → combined (number_form (pos 0)) (m ∷ k ∷ []) (AtMost upper ∷ AtMost lower ∷ []) ≡ then_second lower k first
  whole first is =
      sum_two upper lower m k one two
      ∙ ap (then_second lower k) (sym (found_is ∙ ap (λ (it : FormData). scaled_sum it (pos 1) upper m) nothing_is) ∙ is)

  pub none_two : found ≡ None → None ≡ combined (number_form (pos 0)) (m ∷ k ∷ []) (AtMost upper ∷ AtMost lower ∷ [])
  none_two is = sym (whole None is)

  pub some_two : (sum : FormData) → found ≡ Some sum → (both : Option FormData) → both ≡ scaled_sum sum (pos 1) lower k
      → both ≡ combined (number_form (pos 0)) (m ∷ k ∷ []) (AtMost upper ∷ AtMost lower ∷ [])
  some_two sum is both both_is = both_is ∙ sym (whole (Some sum) is)
