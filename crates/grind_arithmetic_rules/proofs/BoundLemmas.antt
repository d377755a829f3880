-- Sides of comparisons.
use Rattle.std.proofs.Common.{◌≡◌, ◌↔◌, ◌<◌, ◌≤◌, ℕ, List, [], ◌∷◌, Option, Some, None, Bool, false, true≢false, length, slice_index_or, refl, sym, ◌∙◌, subst, arith}
use Rattle.std.specs.Prelude.{IsTrue, slice_get}
use Rattle.std.specs.Option.{IsSomeAnd}
use Rattle.grind_term_graph.specs.declared.head.Head.TheVariants as head
use Rattle.grind_term_graph.specs.declared.node.Node.{Node}
use Rattle.grind_arithmetic_rules.specs.LinearRules.{IsComparison, Compares}

module _ (nodes : List Node) (n : ℕ) where
  sides : (o : Option Node) (a b c d : ℕ) → IsSomeAnd o (λ (it : Node). (it.head ≡ head.Le) × (it.args ≡ a ∷ b ∷ []))
      → IsSomeAnd o (λ (it : Node). (it.head ≡ head.Le) × (it.args ≡ c ∷ d ∷ [])) → (a ≡ c) × (b ≡ d)
  sides None a b c d h k = absurd h
  sides (Some it) a b c d h k = (first_same a b c d (sym h.1 ∙ k.1), second_same a b c d (sym h.1 ∙ k.1))
    where
      first_same : (p q r s : ℕ) → p ∷ q ∷ [] ≡ r ∷ s ∷ [] → p ≡ r
      first_same p q r s e = cc

      second_same : (p q r s : ℕ) → p ∷ q ∷ [] ≡ r ∷ s ∷ [] → q ≡ s
      second_same p q r s e = cc

  -- a test of the sides, read as one of the comparison
  pub compared : (P : ℕ → ℕ → Type 0) (a b : ℕ) (is : Bool) → IsComparison nodes n a b → (IsTrue is ↔ P a b)
      → IsTrue is ↔ Compares nodes n P
  compared P a b is here decides = (
    λ h. (a, b, here, decides.0 h),
    λ h. let same = sides (slice_get nodes n) h.0 h.1 a b h.2 here in
        decides.1 (subst (λ (x : ℕ). P x b) same.0 (subst (λ (y : ℕ). P h.0 y) same.1 h.3)),
  )

  -- a node that is no comparison
  pub not_compared : (P : ℕ → ℕ → Type 0) → ((a b : ℕ) → ¬ IsComparison nodes n a b) → IsTrue false ↔ Compares nodes n P
  not_compared P none = (λ h. absurd (true≢false (sym h)), λ h. absurd (none h.0 h.1 h.2))

-- a list of two items is its first and its second
pub two_items : (xs : List ℕ) → 2 ≤ length xs → length xs < 3 → xs ≡ slice_index_or xs 0 0 ∷ slice_index_or xs 1 0 ∷ []
two_items [] low high = absurd (omega arith)
two_items (x ∷ []) low high = absurd (omega arith)
two_items (x ∷ y ∷ []) low high = refl
two_items (x ∷ y ∷ z ∷ rest) low high = absurd (omega arith)
