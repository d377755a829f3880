-- What a difference and a bound give.
use Rattle.std.specs.Prelude.{◌≡◌, ◌⊎◌, ℕ, List, [], ◌∷◌, Option, Some, None, Contains, pos, ◌+ℤ◌, FitsSigned, refl}
use Rattle.std.specs.Int.{w128}
use Rattle.std.proofs.Common.{sym, ap, subst, ◌∙◌, inl}
use Rattle.std.proofs.lemmas.List.Elements.{All-nil, All-cons}
use Rattle.grind_term_graph.specs.declared.node.Node.{Node}
use Rattle.grind_linear_forms.specs.Forms.{FormData, number_form}
use Rattle.grind_differences.specs.Bounds.{plus}
use Rattle.grind_differences.specs.Differences.{difference}
use Rattle.grind_arithmetic_rules.specs.LinearRules.{IsStrict}
use Rattle.grind_claims.specs.declared.claim.Claim.{Claim}
use Rattle.grind_claims.specs.declared.claim.Claim.TheVariants.{Differ, AtMost}
use Rattle.grind_claims.specs.declared.proof.Rule.TheVariants.{Strict}
use Rattle.grind_cutsat_facts.specs.declared.facts.Fact.{Fact}
use Rattle.grind_cutsat_facts.specs.Facts.{Stands}
use Rattle.grind_cutsat_facts.specs.Covering.{IsCovered}
use Rattle.grind_cutsat_units.specs.declared.types.Planned.{Planned}
use Rattle.grind_cutsat_units.specs.declared.types.Draft.{Draft}
use Rattle.grind_cutsat_units.specs.Posts.{planned, Rest, IsFound, AtSomeFact}
use Rattle.grind_cutsat_units.specs.Strictness.{BoundGives, DifferenceGives}

abbrev left_in : List Claim → ℕ
left_in (Differ a b ∷ rest) = a
left_in _ = 0

abbrev right_in : List Claim → ℕ
right_in (Differ a b ∷ rest) = b
right_in _ = 0

abbrev form_in : Claim → FormData
form_in (AtMost form) = form
form_in _ = number_form (pos 0)

abbrev second_in : List Claim → FormData
second_in (first ∷ second ∷ rest) = form_in second
second_in _ = number_form (pos 0)

-- the form is the difference of the two, in one order or the other
abbrev pub BoundsEither : List Node → ℕ → ℕ → FormData → Type 0
BoundsEither nodes a b form = (difference nodes a b ≡ Some form) ⊎ (difference nodes b a ≡ Some form)

module _ (nodes : List Node) (a b : ℕ) (form : FormData) where
  strict_claim : Claim
  strict_claim = AtMost (plus form (pos 1))

  pub strict_parts : IsStrict nodes (Differ a b ∷ AtMost form ∷ []) (AtMost (plus form (pos 1)))
      → BoundsEither nodes a b form × FitsSigned w128 (form.constant +ℤ pos 1)
  strict_parts h =
      let left = sym (ap left_in h.3) in
      let right = sym (ap right_in h.3) in
      let same = sym (ap second_in h.3) in (
        subst (λ (it : FormData). BoundsEither nodes a b it) same
            (subst (λ k. BoundsEither nodes a k h.2) right (subst (λ k. BoundsEither nodes k h.1 h.2) left h.5)),
        subst (λ (it : FormData). FitsSigned w128 (it.constant +ℤ pos 1)) same h.6,
      )

  pub strict_from : BoundsEither nodes a b form → FitsSigned w128 (form.constant +ℤ pos 1)
      → IsStrict nodes (Differ a b ∷ AtMost form ∷ []) (AtMost (plus form (pos 1)))
  strict_from bounds fits = (a, b, form, refl, refl, bounds, fits)

module _ (nodes : List Node) (facts : List Fact) (a b : ℕ) (claim : Claim) (form : FormData) (is : claim ≡ AtMost form) where
  same_form : (posts : List Planned) (gives : BoundGives nodes facts a b claim posts) → gives.0 ≡ form
  same_form posts gives = ap form_in (sym gives.1 ∙ is)

  at_form : (posts : List Planned) (gives : BoundGives nodes facts a b claim posts)
      → BoundsEither nodes a b form × FitsSigned w128 (form.constant +ℤ pos 1)
  at_form posts gives =
      subst (λ (it : FormData). BoundsEither nodes a b it × FitsSigned w128 (it.constant +ℤ pos 1)) (same_form posts gives)
      (strict_parts nodes a b gives.0 gives.2)

  pub unless_bounds : (BoundsEither nodes a b form → ⊥) → (posts : List Planned) → ¬ BoundGives nodes facts a b claim posts
  unless_bounds none posts = λ gives. none (at_form posts gives).0

  pub unless_fits : (FitsSigned w128 (form.constant +ℤ pos 1) → ⊥) → (posts : List Planned) → ¬ BoundGives nodes facts a b claim posts
  unless_fits none posts = λ gives. none (at_form posts gives).1

  pub unless_covered : IsCovered facts (plus form (pos 1)) → (posts : List Planned) → ¬ BoundGives nodes facts a b claim posts
  unless_covered covered posts = λ gives.
      gives.3 (subst (λ (it : FormData). IsCovered facts (plus it (pos 1))) (sym (same_form posts gives)) covered)

  abbrev pub strict_posts : List Planned
  strict_posts = planned (AtMost (plus form (pos 1))) Strict (Differ a b ∷ AtMost form ∷ []) ∷ []

  pub strict_case : BoundsEither nodes a b form → FitsSigned w128 (form.constant +ℤ pos 1) → (IsCovered facts (plus form (pos 1)) → ⊥)
      → BoundGives nodes facts a b claim strict_posts
  strict_case bounds fits new = (form, is, strict_from nodes a b form bounds fits, new, refl)

  pub strict_once : (posts : List Planned) → BoundGives nodes facts a b claim posts → posts ≡ strict_posts
  strict_once posts gives = gives.4 ∙ ap (λ (it : FormData). planned (AtMost (plus it (pos 1))) Strict (Differ a b ∷ AtMost it ∷ []) ∷ []) (same_form posts gives)

  -- a post of a form that is this one and 1, from the claim, is the same post
  pub same_posts : (stricter : FormData) → stricter ≡ plus form (pos 1)
      → planned (AtMost stricter) Strict (Differ a b ∷ claim ∷ []) ∷ [] ≡ strict_posts
  same_posts stricter e =
      ap (λ (it : FormData). planned (AtMost it) Strict (Differ a b ∷ claim ∷ []) ∷ []) e
      ∙ ap (λ (bound : Claim). planned (AtMost (plus form (pos 1))) Strict (Differ a b ∷ bound ∷ []) ∷ []) is

-- the post rests on the difference and the bound
pub strict_rests : (facts : List Fact) (claim differ bound : Claim) → Stands facts differ → Stands facts bound
    → Rest facts [] (planned claim Strict (differ ∷ bound ∷ []) ∷ [])
strict_rests facts claim differ bound first second = (
  All-cons (λ (it : Claim). Stands facts it ⊎ Contains [] it) differ (bound ∷ []) (inl first)
      (All-cons (λ (it : Claim). Stands facts it ⊎ Contains [] it) bound [] (inl second) (All-nil (λ (it : Claim). Stands facts it ⊎ Contains [] it))),
  tt,
)

-- what two that differ give, a claim that says so gives
module _ (nodes : List Node) (facts : List Fact) (claim : Claim) (a b : ℕ) (is : claim ≡ Differ a b) where
  abbrev left_of : Claim → ℕ
  left_of (Differ x y) = x
  left_of _ = 0

  abbrev right_of : Claim → ℕ
  right_of (Differ x y) = y
  right_of _ = 0

  pub found_of_two : (next : ℕ) (found : Option (List Draft)) → IsFound facts next (AtSomeFact facts (BoundGives nodes facts a b)) found
      → IsFound facts next (DifferenceGives nodes facts claim) found
  found_of_two next None none = λ posts gives.
      let e = sym gives.2 ∙ is in
      none posts (subst (λ k. AtSomeFact facts (BoundGives nodes facts a k) posts) (ap right_of e)
      (subst (λ k. AtSomeFact facts (BoundGives nodes facts k gives.1) posts) (ap left_of e) gives.3))
  found_of_two next (Some drafts) h = (h.0, (a, b, is, h.1), h.2)
