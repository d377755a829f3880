-- Sums of premises, one premise after the other.
use Rattle.std.proofs.Common.{◌≡◌, List, ◌∷◌, Option, Some, ℕ, ℤ, pos, ap, sym, ◌∙◌, subst, Bool, true, false, true≢false, ◌↔◌, ◌⊎◌, inl, inr}
use Rattle.std.specs.Prelude.{IsTrue}
use Rattle.grind_term_graph.specs.declared.node.Node.{Node}
use Rattle.grind_claims.specs.declared.claim.Claim.{Claim}
use Rattle.grind_claims.specs.declared.claim.Claim.TheVariants.{Differ}
use Rattle.std.specs.Option.{option_and_then}
use Rattle.grind_linear_forms.specs.Forms.{FormData}
use Rattle.grind_linear_forms.specs.Sums.{scaled_sum}
use Rattle.grind_polynomials.specs.declared.poly.Term.{Term}
use Rattle.grind_polynomials.specs.Sums.{sum_product}
use Rattle.grind_polynomials.specs.Readings.{answered}
use Rattle.grind_arithmetic_rules.specs.PolyRules.{zero_of, gathered}
use Rattle.std.specs.Borrow.{Bor}
use Rattle.grind_claims.specs.Claims.{claims_of}
use Rattle.grind_arithmetic_rules.specs.LinearRules.{taken, combined, KeepApart, IsApart}

-- the first premise is added, and the others are left
pub combined_goes_on : (whole : Option FormData) (sum next : FormData) (factors factors_tail : List ℤ) (factor : ℤ)
    (ps ps_tail : List (Bor Claim)) (p : Bor Claim) → ps ≡ p ∷ ps_tail → factors ≡ factor ∷ factors_tail →
    Some next ≡ option_and_then (λ (form : FormData). scaled_sum sum (pos 1) form factor) (taken factor p.now) →
    whole ≡ combined sum factors (claims_of ps) → whole ≡ combined next factors_tail (claims_of ps_tail)
combined_goes_on whole sum next factors factors_tail factor ps ps_tail p e f given so_far =
    let K = λ (o : Option FormData). option_and_then (λ (n : FormData). combined n factors_tail (claims_of ps_tail)) o in
    so_far ∙ ap (λ (xs : List ℤ). combined sum xs (claims_of ps)) f
    ∙ ap (λ (qs : List (Bor Claim)). combined sum (factor ∷ factors_tail) (claims_of qs)) e ∙ ap K (sym given)

-- the same of products
pub gathered_goes_on : (whole : Option (List Term)) (sum next : List Term) (factors factors_tail : List (List Term))
    (factor : List Term) (ps ps_tail : List (Bor Claim)) (p : Bor Claim) → ps ≡ p ∷ ps_tail → factors ≡ factor ∷ factors_tail →
    Some next ≡ option_and_then (λ (poly : List Term). answered (sum_product sum factor poly)) (zero_of p.now) →
    whole ≡ gathered sum factors (claims_of ps) → whole ≡ gathered next factors_tail (claims_of ps_tail)
gathered_goes_on whole sum next factors factors_tail factor ps ps_tail p e f given so_far =
    let K = λ (o : Option (List Term)). option_and_then (λ (n : List Term). gathered n factors_tail (claims_of ps_tail)) o in
    so_far ∙ ap (λ (xs : List (List Term)). gathered sum xs (claims_of ps)) f
    ∙ ap (λ (qs : List (Bor Claim)). gathered sum (factor ∷ factors_tail) (claims_of qs)) e ∙ ap K (sym given)

-- ---- terms that are kept apart, in either order

left_of : Claim → ℕ
left_of (Differ a b) = a
left_of _ = 0

right_of : Claim → ℕ
right_of (Differ a b) = b
right_of _ = 0

left : (p q r s : ℕ) → Differ p q ≡ Differ r s → p ≡ r
unfolding left_of
left p q r s e = ap left_of e

right : (p q r s : ℕ) → Differ p q ≡ Differ r s → q ≡ s
unfolding right_of
right p q r s e = ap right_of e

module _ (nodes : List Node) (premises : List Claim) (claim : Claim) (a b : ℕ) (first : Bool) (is : claim ≡ Differ a b)
    (decides : IsTrue first ↔ KeepApart nodes premises a b) where
  pub apart_first : first ≡ true → IsTrue first ↔ IsApart nodes premises claim
  apart_first yes_first = (λ h. (a, b, is, inl (decides.0 h)), λ h. yes_first)

  pub apart_second : (second : Bool) → first ≡ false → (IsTrue second ↔ KeepApart nodes premises b a)
      → IsTrue second ↔ IsApart nodes premises claim
  apart_second second no_first also = (
    λ h. (a, b, is, inr (also.0 h)),
    λ h.
        let K : ℕ → ℕ → Type 0 = λ x y. KeepApart nodes premises x y ⊎ KeepApart nodes premises y x in
        let kept : K a b = subst (λ (x : ℕ). K x b) (left h.0 h.1 a b (sym h.2 ∙ is)) (subst (λ (y : ℕ). K h.0 y) (right h.0 h.1 a b (sym h.2 ∙ is)) h.3) in
        elim kept [ inl k ↦ absurd (true≢false (sym (decides.1 k) ∙ no_first)) | inr k ↦ also.1 k ],
  )
