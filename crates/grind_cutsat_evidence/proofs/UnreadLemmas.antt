-- Claims whose readings do not fit, and the posts that say them.
use Rattle.std.proofs.Common.{◌≡◌, ◌⊎◌, inl, inr, ◌↔◌, ℕ, List, [], ◌∷◌, Bool, Option, Some, None, ℤ, pos, negsuc, ◌+ℤ◌, FitsSigned, ◌≢◌, ◌≤◌, ◌<◌, ◌^◌, length, arith, false, IsTrue, refl, sym, ap, ◌∙◌, subst}
use Rattle.std.specs.Option.{option_and_then}
use Rattle.std.specs.Int.{w128}
use Rattle.std.proofs.lemmas.Bool.{false≢true, cases_lt}
use Rattle.std.specs.Int.{◌∣◌}
use Rattle.std.proofs.lemmas.Option.{none-some, same_Some}
use Rattle.grind_term_graph.specs.declared.node.Node.{Node}
use Rattle.grind_linear_forms.specs.declared.form.Part.{Part}
use Rattle.grind_linear_forms.specs.Forms.{FormData, number_form}
use Rattle.grind_linear_forms.specs.Sums.{scaled_sum}
use Rattle.grind_polynomials.specs.declared.poly.Term.{Term}
use Rattle.grind_differences.specs.Bounds.{plus}
use Rattle.grind_differences.specs.Differences.{difference}
use Rattle.grind_differences.specs.Equations.{form_of}
use Rattle.grind_arithmetic_rules.specs.LinearRules.{IsComparison, combined}
use Rattle.grind_claims.specs.declared.claim.Claim.{Claim}
use Rattle.grind_claims.specs.declared.claim.Claim.TheVariants.{Holds, Fails, Same, Differ, AtMost, Zero, Absurd}
use Rattle.grind_cutsat_facts.specs.Facts.{IsSaid}
use Rattle.grind_cutsat_assignment.specs.Given.{Given}
use Rattle.grind_cutsat_units.specs.Equations.{IsSign}
use Rattle.grind_cutsat_cuts.specs.Divisors.{DividesSizes}
use Rattle.grind_cutsat_cuts.proofs.DivisorLemmas.{unfit_above, fit_below}
use Rattle.grind_cutsat_units.proofs.ReadingLemmas.{comparison_once}
use Rattle.grind_cutsat_evidence.specs.Evidence.{IsUnreadable}
use Rattle.grind_cutsat_evidence.specs.Unread.{HasUnfitDivisor, HasNoNext, IsUnreadSigned, IsUnreadZero, IsUnread}

module _ (it : Given) where
  -- a post that is unreadable says a claim that is unread
  pub claim_of : (post : ℕ) → IsUnreadable it post → (claim : Claim) × IsSaid it.facts post claim × IsUnread it.nodes claim
  claim_of post h = elim h [
    | inl one ↦ elim one [
      | inl comparison ↦
          let l = comparison.2 in elim l.4 [
            | inl held ↦ (
              Holds l.0,
              subst (λ (claim : Claim). IsSaid it.facts post claim) held.0 comparison.1,
              (l.1, l.2, l.3, held.1),
            )
            | inr failed ↦ (
              Fails l.0,
              subst (λ (claim : Claim). IsSaid it.facts post claim) failed.0 comparison.1,
              (l.1, l.2, l.3, failed.1),
            )
          ]
      | inr same ↦ (Same same.0 same.1, same.2, (same.3, same.4))
    ]
    | inr two ↦ elim two [
      | inl zero ↦ (Zero zero.0, zero.3, (zero.1, zero.2, zero.4, zero.5, zero.6))
      | inr uncut ↦ (AtMost uncut.0, uncut.1, uncut.2)
    ]
  ]

  pub unread_at : (post : ℕ) (claim : Claim) → IsSaid it.facts post claim → IsUnread it.nodes claim → IsUnreadable it post
  unread_at post (Holds n) said h = inl (inl (Holds n, said, (n, h.0, h.1, h.2, inl (refl, h.3))))
  unread_at post (Fails n) said h = inl (inl (Fails n, said, (n, h.0, h.1, h.2, inr (refl, h.3))))
  unread_at post (Same a b) said h = inl (inr (a, b, said, h.0, h.1))
  unread_at post (Differ a b) said h = absurd h
  unread_at post (AtMost form) said h = inr (inr (form, said, h))
  unread_at post (Zero poly) said h = inr (inl (poly, h.0, h.1, said, h.2, h.3, h.4))
  unread_at post Absurd said h = absurd h

-- what is so of the sides of a comparison is so of some sides
pub at_sides : (nodes : List Node) (n a b : ℕ) (P : ℕ → ℕ → Type 0) (answer : Bool) → IsComparison nodes n a b → (IsTrue answer ↔ P a b)
    → IsTrue answer ↔ ((x : ℕ) × (y : ℕ) × IsComparison nodes n x y × P x y)
at_sides nodes n a b P answer is e = (
  λ t. (a, b, is, e.0 t),
  λ h.
      let same = comparison_once nodes n h.0 h.1 a b h.2 is in
      e.1 (subst (λ k. P a k) same.1 (subst (λ k. P k h.1) same.0 h.3)),
)

-- ---- equations
-- an equation of degree at most 1 is unread with one factor or with the other
pub zero_by : (poly : List Term) (form : FormData) → form_of poly ≡ Some form
    → (IsUnreadSigned poly (pos 1) ⊎ IsUnreadSigned poly (negsuc 0)) ↔ IsUnreadZero poly
zero_by poly form is = (
  λ h. elim h [
    | inl plain ↦ (form, pos 1, is, inl refl, plain)
    | inr negated ↦ (form, negsuc 0, is, inr refl, negated)
  ],
  λ h. elim h.3 [
    | inl one ↦ inl (subst (IsUnreadSigned poly) one h.4)
    | inr other ↦ inr (subst (IsUnreadSigned poly) other h.4)
  ],
)

-- ---- the difference and 1
pub next_fits : (nodes : List Node) (a b : ℕ) (base : FormData) → difference nodes a b ≡ Some base → (more : FormData)
    → more ≡ plus base (pos 1) → FitsSigned w128 more.constant → IsTrue false ↔ HasNoNext nodes a b
next_fits nodes a b base is more e fits = (
  λ yes. absurd (false≢true yes),
  λ h. elim h [
    | inl none ↦ absurd (none-some base (sym none ∙ is))
    | inr unfit ↦ absurd (unfit.2 (subst (λ (form : FormData). FitsSigned w128 (form.constant +ℤ pos 1))
        (same_Some base unfit.0 (sym is ∙ unfit.1)) (subst (λ (form : FormData). FitsSigned w128 form.constant) e fits)))
  ],
)

-- ---- divisors
pub none_unfit : (parts : List Part) → length parts ≡ 0 → IsTrue false ↔ HasUnfitDivisor parts
none_unfit [] e = (
  λ truth. absurd (false≢true truth),
  λ h. absurd (h.2 (subst (FitsSigned w128) (sym (h.1.alone refl)) (record { sfits = omega arith }))),
)
none_unfit (part ∷ parts) e = absurd (omega arith)

pub unfit_divisor : (parts rest : List Part) (first : Part) (s : ℕ) → parts ≡ first ∷ rest
    → ((d : ℕ) → (d ∣ s) ↔ DividesSizes d parts) → (2 ^ 127 ≤ s) ↔ HasUnfitDivisor parts
unfit_divisor parts rest first s is shared = (
  λ high. unfit_above parts s some shared high,
  λ h. elim (cases_lt s (2 ^ 127)) [
    | inl low ↦ absurd (h.2 (fit_below parts s some shared low h.0 h.1))
    | inr high ↦ high
  ],
)
  where
    some : parts ≢ []
    some none = let size : length (first ∷ rest) ≡ 0 = ap (λ (these : List Part). length these) (sym is ∙ none) in omega arith
