-- Worked cases of the rule `clash`: claims that contradict each other, and claims that do not.
use Rattle.std.specs.Prelude.{◌≡◌, List, [], ◌∷◌, ◌⊎◌, ℤ, pos, ◌≤ℤ◌, refl}
use Rattle.std.proofs.Common.{subst, inl, inr}
use Rattle.grind_term_graph.specs.declared.node.Node.{Node}
use Rattle.grind_term_graph.specs.Terms.{opening}
use Rattle.grind_linear_forms.specs.Forms.{number_form}
use Rattle.grind_polynomials.specs.Polynomials.{term_of}
use Rattle.grind_claims.specs.declared.claim.Claim.{Claim}
use Rattle.grind_claims.specs.declared.claim.Claim.TheVariants.{Holds, Fails, AtMost, Zero, Absurd}
use Rattle.grind_rules.specs.Rules.{IsClash, AreOpposed, AreSplit}

-- no terms but `True` and `False`
abbrev nodes : List Node
nodes = opening

-- a formula that fails and holds, in either order
pub clash_is_exchanged : IsClash nodes (Fails 6 ∷ Holds 6 ∷ []) Absurd
clash_is_exchanged = (refl, inl (Holds 6, Fails 6, inr refl, inl (6, refl, refl)))

-- two formulas do not clash
opposed_not : (one other : Claim) →
    ((Holds 6 ∷ Fails 7 ∷ [] ≡ one ∷ other ∷ []) ⊎ (Holds 6 ∷ Fails 7 ∷ [] ≡ other ∷ one ∷ [])) →
    (AreOpposed one other ⊎ AreSplit one other) → ⊥
opposed_not one other (inl e) (inl h) = absurd cc
opposed_not one other (inl e) (inr h) = absurd cc
opposed_not one other (inr e) (inl h) = absurd cc
opposed_not one other (inr e) (inr h) = absurd cc

pub clash_of_two_formulas : IsClash nodes (Holds 6 ∷ Fails 7 ∷ []) Absurd → ⊥
clash_of_two_formulas h = elim h.1 [
  | inl two ↦ opposed_not two.0 two.1 two.2 two.3
  | inr lone ↦ absurd cc
]

-- 1 is not at most 0
pub one_is_too_great : IsClash nodes (AtMost (number_form (pos 1)) ∷ []) Absurd
one_is_too_great = (refl, inr (_, refl, inr (inl (_, refl, refl, record { lt = tt }))))

-- 5 is not 0
pub five_is_no_zero : IsClash nodes ((Zero (term_of (pos 5) [] ∷ [])) ∷ []) Absurd
five_is_no_zero = (refl, inr (_, refl, inr (inr (_, refl, (pos 5, refl, (λ e. (subst (λ (z : ℤ). pos 1 ≤ℤ z) e (record { le = tt })).le))))))
