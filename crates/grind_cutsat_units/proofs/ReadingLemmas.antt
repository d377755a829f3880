-- Comparisons and equalities that are read.
use Rattle.std.specs.Prelude.{◌≡◌, ◌⊎◌, ℕ, List, [], ◌∷◌, Some, slice_get, pos, refl}
use Rattle.std.proofs.Common.{sym, ap, subst, ◌∙◌, inl, inr}
use Rattle.std.proofs.lemmas.Option.{same_Some}
use Rattle.grind_term_graph.specs.declared.head.Head.TheVariants as heads
use Rattle.grind_term_graph.specs.declared.node.Node.{Node}
use Rattle.grind_linear_forms.specs.Forms.{FormData, number_form}
use Rattle.grind_differences.specs.Bounds.{plus}
use Rattle.grind_differences.specs.Differences.{difference}
use Rattle.grind_claims.specs.declared.claim.Claim.{Claim}
use Rattle.grind_claims.specs.declared.claim.Claim.TheVariants.{Holds, Fails, AtMost}
use Rattle.grind_claims.specs.declared.proof.Rule.TheVariants.{Read}
use Rattle.grind_arithmetic_rules.specs.LinearRules.{IsComparison, Compares, IsRead}
use Rattle.grind_cutsat_units.specs.declared.types.Planned.{Planned}
use Rattle.grind_cutsat_units.specs.Posts.{planned}
use Rattle.grind_cutsat_units.specs.Comparisons.{ComparisonGives}
use Rattle.grind_cutsat_units.specs.Sides.{IsHeldBound, IsFailedBound}
use Rattle.grind_cutsat_units.proofs.NamingLemmas.{some_and, is_at}

two_parts : (a b c d : ℕ) → a ∷ b ∷ [] ≡ c ∷ d ∷ [] → (a ≡ c) × (b ≡ d)
two_parts a b c d e = (cc, cc)

-- a comparison has one first side and one second
pub comparison_once : (nodes : List Node) (n a b c d : ℕ) → IsComparison nodes n a b → IsComparison nodes n c d → (a ≡ c) × (b ≡ d)
comparison_once nodes n a b c d one other =
    let found = some_and (slice_get nodes n) (is_at heads.Le (a ∷ b ∷ [])) one in
    let also = some_and (slice_get nodes n) (is_at heads.Le (c ∷ d ∷ [])) other in
    let same : found.0 ≡ also.0 = same_Some found.0 also.0 (sym found.1 ∙ also.1) in
    two_parts a b c d (sym found.2.1 ∙ ap (λ (it : Node). it.args) same ∙ also.2.1)

module _ (nodes : List Node) (n : ℕ) where
  -- what holds of the sides of a comparison
  at_sides : (P : ℕ → ℕ → Type 0) (a b : ℕ) → IsComparison nodes n a b → Compares nodes n P → P a b
  at_sides P a b is h =
      let same = comparison_once nodes n h.0 h.1 a b h.2 is in
      subst (λ k. P a k) same.1 (subst (λ k. P k h.1) same.0 h.3)

-- ---- literals

first_claim : Claim → List Claim → Claim
first_claim other [] = other
first_claim other (claim ∷ claims) = claim

abbrev node_of : Claim → ℕ
node_of (Holds n) = n
node_of (Fails n) = n
node_of _ = 0

abbrev form_of : Claim → FormData
form_of (AtMost form) = form
form_of _ = number_form (pos 0)

abbrev IsHolds : Claim → Type 0
IsHolds (Holds n) = Unit {0}
IsHolds _ = ⊥

abbrev IsFails : Claim → Type 0
IsFails (Fails n) = Unit {0}
IsFails _ = ⊥

-- the form that a rule gives a literal
record IsReadOf (nodes : List Node) (literal : Claim) (form : FormData) : Type 0 where
  node : ℕ
  way : ((literal ≡ Holds node) × IsHeldBound nodes node form) ⊎ ((literal ≡ Fails node) × IsFailedBound nodes node form)

opened : (nodes : List Node) (literal : Claim) (form : FormData) → IsRead nodes (literal ∷ []) (AtMost form) → IsReadOf nodes literal form
unfolding first_claim
opened nodes literal form h =
    let same : h.1 ≡ form = sym (ap form_of h.2) in
    record {
      node = h.0;
      way = elim h.3 [
        | inl held ↦ inl (ap (first_claim literal) held.0, subst (λ (it : FormData). IsHeldBound nodes h.0 it) same held.1)
        | inr failed ↦ inr (ap (first_claim literal) failed.0, subst (λ (it : FormData). IsFailedBound nodes h.0 it) same (failed.1, failed.2))
      ];
    }

-- of a node that holds
pub read_of_holds : (nodes : List Node) (n : ℕ) (form : FormData) → IsRead nodes (Holds n ∷ []) (AtMost form) → IsHeldBound nodes n form
read_of_holds nodes n form h =
    let is = opened nodes (Holds n) form h in elim is.way [
      | inl held ↦ subst (λ k. IsHeldBound nodes k form) (sym (ap node_of held.0)) held.1
      | inr failed ↦ absurd (subst IsHolds failed.0 tt)
    ]

-- of one that fails
pub read_of_fails : (nodes : List Node) (n : ℕ) (form : FormData) → IsRead nodes (Fails n ∷ []) (AtMost form) → IsFailedBound nodes n form
read_of_fails nodes n form h =
    let is = opened nodes (Fails n) form h in elim is.way [
      | inl held ↦ absurd (subst IsFails held.0 tt)
      | inr failed ↦ subst (λ k. IsFailedBound nodes k form) (sym (ap node_of failed.0)) failed.1
    ]

pub reads_held : (nodes : List Node) (n : ℕ) (form : FormData) → IsHeldBound nodes n form → IsRead nodes (Holds n ∷ []) (AtMost form)
reads_held nodes n form h = (n, form, refl, inl (refl, h))

pub reads_failed : (nodes : List Node) (n : ℕ) (form : FormData) → IsFailedBound nodes n form → IsRead nodes (Fails n ∷ []) (AtMost form)
reads_failed nodes n form h = (n, form, refl, inr (refl, h.0, h.1))

-- a literal gives one form
held_once : (nodes : List Node) (n : ℕ) (one other : FormData) → IsHeldBound nodes n one → IsHeldBound nodes n other → one ≡ other
held_once nodes n one other h k =
    same_Some one other (sym h.3 ∙ at_sides nodes n (λ x y. difference nodes x y ≡ Some other) h.0 h.1 h.2 k)

failed_once : (nodes : List Node) (n : ℕ) (one other : FormData) → IsFailedBound nodes n one → IsFailedBound nodes n other → one ≡ other
failed_once nodes n one other h k =
    let sides = h.0 in
    let base = sides.3 in
    let also = at_sides nodes n (λ x y. (base : FormData) × (difference nodes y x ≡ Some base) × (other ≡ plus base (pos 1))) sides.0 sides.1 sides.2 k.0 in
    base.2 ∙ ap (λ (it : FormData). plus it (pos 1)) (same_Some base.0 also.0 (sym base.1 ∙ also.1)) ∙ sym also.2

read_once : (nodes : List Node) (literal : Claim) (one other : FormData) → IsRead nodes (literal ∷ []) (AtMost one)
    → IsRead nodes (literal ∷ []) (AtMost other) → one ≡ other
read_once nodes literal one other h k =
    let is = opened nodes literal one h in elim is.way [
      | inl held ↦ held_once nodes is.node one other held.1
          (read_of_holds nodes is.node other (subst (λ (claim : Claim). IsRead nodes (claim ∷ []) (AtMost other)) held.0 k))
      | inr failed ↦ failed_once nodes is.node one other failed.1
          (read_of_fails nodes is.node other (subst (λ (claim : Claim). IsRead nodes (claim ∷ []) (AtMost other)) failed.0 k))
    ]

-- so it gives one list of posts
pub comparison_posts : (nodes : List Node) (literal : Claim) (form : FormData) (others : List Planned) → IsRead nodes (literal ∷ []) (AtMost form)
    → ComparisonGives nodes literal others → others ≡ planned (AtMost form) Read (literal ∷ []) ∷ []
comparison_posts nodes literal form others h gives =
    gives.2 ∙ ap (λ (it : FormData). planned (AtMost it) Read (literal ∷ []) ∷ []) (read_once nodes literal gives.0 form gives.1 h)
