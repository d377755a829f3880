-- Pairs of terms, one after the other.
use Rattle.std.specs.Prelude.{◌≡◌, ◌⊎◌, ℕ, ◌+◌, ◌<◌, List, Option, Some, None, IfSome, IsNone, MatchOption, length, slice_get, refl}
use Rattle.std.specs.Option.{option_map}
use Rattle.std.proofs.Common.{arith, sym, ◌∙◌, subst, inl, inr}
use Rattle.std.proofs.lemmas.Bool.{cases_eq}
use Rattle.std.proofs.lemmas.Option.{slice_get_within, none-some, same_Some}
use Rattle.grind_term_graph.specs.declared.node.Node.{Node}
use Rattle.grind_term_graph.specs.Terms.{int, sort_at}
use Rattle.grind_linear_forms.specs.Forms.{FormData}
use Rattle.grind_differences.specs.Differences.{difference}
use Rattle.grind_claims.specs.declared.claim.Claim.TheVariants.{AtMost}
use Rattle.grind_cutsat_facts.specs.Facts.{IsSaid}
use Rattle.grind_cutsat_assignment.specs.Given.{Given}
use Rattle.grind_cutsat_units.specs.Pinches.{AreBounded, Pinches, NonePinched}
use Rattle.grind_cutsat_units.proofs.NamingLemmas.{difference-sorts}
use Rattle.grind_cutsat_terms.specs.Pinching.{IsNewPair, IsKnownPair, BoundsDifference, IsUnpinched, AreUnpinched}

-- a number below the next one is below this one or is it
pub below_next : (P : ℕ → Type 0) (i : ℕ) → ((k : ℕ) → k < i → P k) → P i → (k : ℕ) → k < i + 1 → P k
below_next P i before here k below = elim (cases_eq k i) [
  | inl is ↦ subst P (sym is) here
  | inr other ↦ before k (omega arith)
]

-- what has a sort stands in the table
pub sort_within : (nodes : List Node) (n : ℕ) → sort_at nodes n ≡ Some int → n < length nodes
sort_within nodes n e = by_node (slice_get nodes n) refl e
  where
    by_node : (found : Option Node) → slice_get nodes n ≡ found → option_map (λ (it : Node). it.sort) found ≡ Some int → n < length nodes
    by_node None is none = absurd (none-some int none)
    by_node (Some it) is some = slice_get_within nodes n it is

module _ (it : Given) where
  pub none_pinched : ((a : ℕ) → a < length it.nodes → AreUnpinched it a (length it.nodes)) → NonePinched it
  none_pinched all a b above below form other h =
      let sorts = difference-sorts it.nodes a b form h.form_is in
      all a (sort_within it.nodes a sorts.0) b (sort_within it.nodes b sorts.1) above below form other h

  module _ (a b : ℕ) where
    pub bounding_by : (form : FormData) → difference it.nodes a b ≡ Some form → (found : Option ℕ)
        → IfSome found (λ post. IsSaid it.facts post (AtMost form))
        → (IsNone found → (post : ℕ) → ¬ IsSaid it.facts post (AtMost form))
        → MatchOption found ((post : ℕ) → ¬ BoundsDifference it a b post) (λ post. BoundsDifference it a b post)
    bounding_by form is None some none = λ post h.
        none refl post (subst (λ (these : FormData). IsSaid it.facts post (AtMost these)) (same_Some h.0 form (sym h.1 ∙ is)) h.2)
    bounding_by form is (Some post) some none = (form, is, some)

    pub unpinched_known : IsKnownPair it a b → IsUnpinched it a b
    unpinched_known known above below form other h = known h.left h.right

    pub unpinched_above : ((post : ℕ) → ¬ BoundsDifference it a b post) → IsUnpinched it a b
    unpinched_above none above below form other h = absurd (none above (form, h.form_is, h.above_says))

    pub unpinched_below : ((post : ℕ) → ¬ BoundsDifference it b a post) → IsUnpinched it a b
    unpinched_below none above below form other h = absurd (none below (other, h.other_is, h.below_says))

    pub pinched_by : (above below : ℕ) → IsNewPair it a b → BoundsDifference it a b above → BoundsDifference it b a below
        → Pinches it a b above below
    pinched_by above below new first second = (
      first.0,
      second.0,
      record {
        left = new.left;
        right = new.right;
        form_is = first.1;
        other_is = second.1;
        above_says = first.2;
        below_says = second.2;
      },
      new.apart,
      new.unsaid,
    )
