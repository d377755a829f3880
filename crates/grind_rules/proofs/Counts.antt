-- How many premises a rule asks for.
use Rattle.std.proofs.Common.{◌≡◌, ◌≢◌, ℕ, ◌<◌, List, [], ◌∷◌, Option, Some, None, suc, ◌⊎◌, ℤ, pos, length, refl, ap, arith, inl, inr}
use Rattle.std.specs.Option.{option_and_then}
use Rattle.std.proofs.lemmas.Option.{none-some}
use Rattle.grind_term_graph.specs.declared.node.Node.{Node}
use Rattle.grind_linear_forms.specs.Forms.{FormData, number_form}
use Rattle.grind_linear_forms.specs.Sums.{scaled_sum}
use Rattle.grind_polynomials.specs.declared.poly.Term.{Term}
use Rattle.grind_polynomials.specs.Sums.{sum_product}
use Rattle.grind_polynomials.specs.Readings.{answered}
use Rattle.grind_claims.specs.declared.claim.Claim.{Claim}
use Rattle.grind_claims.specs.declared.proof.Rule.TheVariants as rule
use Rattle.grind_arithmetic_rules.specs.LinearRules.{taken, combined, KeepApart}
use Rattle.grind_arithmetic_rules.specs.PolyRules.{zero_of, gathered}
use Rattle.grind_rules.specs.Laws.{PremisesAreCounted}

-- a list with an item has one at least
some_length : {X : Type 0} (xs : List X) → xs ≢ [] → 0 < length xs
some_length [] h = absurd (h refl)
some_length (x ∷ xs) h = omega arith

-- where a step gives something, it was made of something
and_then_some : {A B : Type 0} (f : A → Option B) (o : Option A) (b : B) → option_and_then f o ≡ Some b
    → (a : A) × (o ≡ Some a) × (f a ≡ Some b)
and_then_some f None b e = absurd (none-some b e)
and_then_some f (Some a) b e = (a, refl, e)

-- a combination has a factor for each premise
combined_counts : (done : FormData) (factors : List ℤ) (premises : List Claim) (sum : FormData) →
    combined done factors premises ≡ Some sum → length premises ≡ length factors
combined_counts done [] [] sum e = refl
combined_counts done [] (premise ∷ premises) sum e = absurd (none-some sum e)
combined_counts done (factor ∷ factors) [] sum e = absurd (none-some sum e)
combined_counts done (factor ∷ factors) (premise ∷ premises) sum e =
    let step = and_then_some (λ (next : FormData). combined next factors premises)
    (option_and_then (λ (form : FormData). scaled_sum done (pos 1) form factor) (taken factor premise)) sum e in
    ap suc (combined_counts step.0 factors premises sum step.2)

-- and so has a sum of products
gathered_counts : (done : List Term) (factors : List (List Term)) (premises : List Claim) (sum : List Term) →
    gathered done factors premises ≡ Some sum → length premises ≡ length factors
gathered_counts done [] [] sum e = refl
gathered_counts done [] (premise ∷ premises) sum e = absurd (none-some sum e)
gathered_counts done (factor ∷ factors) [] sum e = absurd (none-some sum e)
gathered_counts done (factor ∷ factors) (premise ∷ premises) sum e =
    let step = and_then_some (λ (next : List Term). gathered next factors premises)
    (option_and_then (λ (poly : List Term). answered (sum_product done factor poly)) (zero_of premise)) sum e in
    ap suc (gathered_counts step.0 factors premises sum step.2)

-- what keeps two terms apart has no premise, one or three
apart_counts : (nodes : List Node) (premises : List Claim) (a b : ℕ) → KeepApart nodes premises a b →
    (length premises ≡ 0) ⊎ ((length premises ≡ 1) ⊎ (length premises ≡ 3))
apart_counts nodes premises a b (inl h) = inl (ap length h.0)
apart_counts nodes premises a b (inr (inl h)) = inr (inl (ap length h.1))
apart_counts nodes premises a b (inr (inr h)) = inr (inr (ap length h.2))

-- a rule fixes how many premises there are
pub premises_are_counted : PremisesAreCounted
premises_are_counted lemmas goal nodes literal (rule.Hyp i) premises claim h = ap length h.4
premises_are_counted lemmas goal nodes literal rule.Negated premises claim h = ap length h.0
premises_are_counted lemmas goal nodes literal (rule.Inst t subst) premises claim h = ap length h.2
premises_are_counted lemmas goal nodes literal rule.Branch premises claim h = ap length h.0
premises_are_counted lemmas goal nodes literal rule.Refl premises claim h = ap length h.1
premises_are_counted lemmas goal nodes literal rule.Sym premises claim h = ap length h.2
premises_are_counted lemmas goal nodes literal rule.Trans premises claim h = ap length h.3
premises_are_counted lemmas goal nodes literal rule.Cong premises claim h = some_length premises h.9
premises_are_counted lemmas goal nodes literal rule.Eq premises claim h = elim h.4 [ inl e ↦ ap length e.0 | inr e ↦ ap length e.0 ]
premises_are_counted lemmas goal nodes literal rule.Back premises claim h = elim h.4 [ inl e ↦ ap length e.0 | inr e ↦ ap length e.0 ]
premises_are_counted lemmas goal nodes literal rule.Truth premises claim h = elim h.1 [ inl e ↦ ap length e.0 | inr e ↦ ap length e.0 ]
premises_are_counted lemmas goal nodes literal rule.Untruth premises claim h = elim h.1 [ inl e ↦ ap length e.0 | inr e ↦ ap length e.0 ]
premises_are_counted lemmas goal nodes literal (rule.Table free) premises claim h = tt
premises_are_counted lemmas goal nodes literal rule.Read premises claim h = elim h.3 [ inl e ↦ ap length e.0 | inr e ↦ ap length e.0 ]
premises_are_counted lemmas goal nodes literal rule.Write premises claim h = ap length h.2
premises_are_counted lemmas goal nodes literal rule.Line premises claim h = ap length h.3
premises_are_counted lemmas goal nodes literal rule.Poly premises claim h = ap length h.3
premises_are_counted lemmas goal nodes literal (rule.Combine divisor factors) premises claim h =
    combined_counts (number_form (pos 0)) factors premises h.0 h.2
premises_are_counted lemmas goal nodes literal rule.Pinch premises claim h = ap length h.4
premises_are_counted lemmas goal nodes literal rule.Strict premises claim h = ap length h.3
premises_are_counted lemmas goal nodes literal rule.Apart premises claim h =
    elim h.3 [ inl k ↦ apart_counts nodes premises h.0 h.1 k | inr k ↦ apart_counts nodes premises h.1 h.0 k ]
premises_are_counted lemmas goal nodes literal (rule.Ideal divisor factors) premises claim h =
    gathered_counts [] factors premises _ h.3
premises_are_counted lemmas goal nodes literal rule.Equal premises claim h = ap length h.3
premises_are_counted lemmas goal nodes literal rule.Clash premises claim h = elim h.1 [
  | inl two ↦ inr (elim two.2 [ inl e ↦ ap length e | inr e ↦ ap length e ])
  | inr lone ↦ inl (ap length lone.1)
]
