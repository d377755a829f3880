-- Each rule over equality and truth but `cong` and `table` lets a line claim what is true, where its premises are, and so does `clash`.
use Rattle.std.specs.Prelude.{◌≡◌, ℕ, List, [], ◌∷◌, Option, Some, IfSome, ℤ, refl}
use Rattle.std.proofs.Common.{sym, ap, ◌∙◌, subst, inl, inr}
use Rattle.std.proofs.lemmas.Option.{slice_get_within, get_or_from_slice_get}
use Rattle.grind_term_graph.specs.declared.node.Node.{Node}
use Rattle.grind_term_graph.specs.Shape.{IsBegun}
use Rattle.grind_schemes.specs.Goals.{GoalData}
use Rattle.grind_claims.specs.declared.claim.Claim.{Claim}
use Rattle.grind_claims.specs.declared.claim.Claim.TheVariants.{Holds, Fails, Same, Differ}
use Rattle.grind_claims.specs.Claims.{IsFormed}
use Rattle.grind_term_rules.specs.TermRules.{true_node, false_node, IsHyp, IsNegated, IsRefl, IsSym, IsTrans, IsEq, IsBack, IsTruth, IsUntruth}
use Rattle.grind_rules.specs.Rules.{IsAssumed, IsClash, IsFalseEquality, IsImpossible, AreOpposed, AreSplit}
use Rattle.grind_value_tables.specs.Respects.{one, zero_value, Respects}
use Rattle.grind_value_tables.specs.Truths.{ClaimTrue, AreTrue}
use Rattle.grind_value_tables.proofs.LinearRules.{not_too_great}
use Rattle.grind_value_tables.proofs.PolyRules.{not_false_zero}
use Rattle.grind_value_tables.proofs.Meanings.{PremisesHold, false≢one, false_unless, claim_is, premises_are, premise_is, equation_value, equation_of_value, number_value, formula_value, true_value, false_value}

module _ (goal : GoalData) (v : ℕ → ℤ) (premises : List Claim) (claim : Claim) where
  pub hyp_sound : (i : ℕ) → AreTrue v goal.hyps → IsHyp goal i premises claim → ClaimTrue v claim
  hyp_sound i hyps rule =
      let holds : v rule.1 ≡ one =
      subst (λ n. v n ≡ one) (get_or_from_slice_get goal.hyps rule.0 rule.1 rule.1 rule.3)
      (hyps rule.0 rule.1 (slice_get_within goal.hyps rule.0 rule.1 rule.3)) in
      claim_is v claim (Holds rule.1) rule.5 holds

  pub negated_sound : v goal.show ≡ zero_value → IsNegated goal premises claim → ClaimTrue v claim
  negated_sound fails rule = claim_is v claim (Fails goal.show) rule.1 fails

  pub branch_sound : (literal : Option Claim) → ((it : Claim) → literal ≡ Some it → ClaimTrue v it)
      → IsAssumed literal premises claim → ClaimTrue v claim
  branch_sound literal assumed rule = assumed claim rule.1

module _ (v : ℕ → ℤ) (premises : List Claim) (claim : Claim) (hold : PremisesHold v premises) where
  pub refl_sound : IsRefl premises claim → ClaimTrue v claim
  refl_sound rule = claim_is v claim (Same rule.0 rule.0) rule.2 refl

  pub sym_sound : IsSym premises claim → ClaimTrue v claim
  sym_sound rule =
      let h = premises_are v premises (Same rule.0 rule.1 ∷ []) rule.2 hold in
      claim_is v claim (Same rule.1 rule.0) rule.3 (sym h.0)

  pub trans_sound : IsTrans premises claim → ClaimTrue v claim
  trans_sound rule =
      let h = premises_are v premises (Same rule.0 rule.1 ∷ Same rule.1 rule.2 ∷ []) rule.3 hold in
      claim_is v claim (Same rule.0 rule.2) rule.4 (h.0 ∙ h.1.0)

  module _ (nodes : List Node) (respects : Respects nodes v) where
    pub eq_sound : IsEq nodes premises claim → ClaimTrue v claim
    eq_sound rule =
        let value = equation_value nodes v respects rule.0 rule.1 rule.2 rule.3 in
        elim rule.4 [
          | inl h ↦ claim_is v claim (Same rule.1 rule.2) h.1
              (value.0 (premises_are v premises (Holds rule.0 ∷ []) h.0 hold).0)
          | inr h ↦ claim_is v claim (Differ rule.1 rule.2) h.1
              (λ equal. false≢one (v rule.0) (premises_are v premises (Fails rule.0 ∷ []) h.0 hold).0 (value.1 equal))
        ]

    -- the claim is about a formula, which has 0 or 1
    pub back_sound : IsFormed nodes claim → IsBack nodes premises claim → ClaimTrue v claim
    back_sound formed rule =
        let value = equation_of_value nodes v respects rule.2 rule.0 rule.1 rule.3 in
        elim rule.4 [
          | inl h ↦ claim_is v claim (Holds rule.2) h.1
              (value.1 (premises_are v premises (Same rule.0 rule.1 ∷ []) h.0 hold).0)
          | inr h ↦ claim_is v claim (Fails rule.2) h.1
              (false_unless (v rule.2) (formula_value nodes v respects rule.2 (subst (IsFormed nodes) h.1 formed))
              (λ holds. (premises_are v premises (Differ rule.0 rule.1 ∷ []) h.0 hold).0 (value.0 holds)))
        ]

    pub truth_sound : IsBegun nodes → IsTruth premises claim → ClaimTrue v claim
    truth_sound begun rule = elim rule.1 [
      | inl h ↦ claim_is v claim (Same rule.0 true_node) h.1
          ((premises_are v premises (Holds rule.0 ∷ []) h.0 hold).0 ∙ sym (true_value nodes v respects begun))
      | inr h ↦ claim_is v claim (Same rule.0 false_node) h.1
          ((premises_are v premises (Fails rule.0 ∷ []) h.0 hold).0 ∙ sym (false_value nodes v respects begun))
    ]

    pub untruth_sound : IsBegun nodes → IsUntruth premises claim → ClaimTrue v claim
    untruth_sound begun rule = elim rule.1 [
      | inl h ↦ claim_is v claim (Holds rule.0) h.1
          ((premises_are v premises (Same rule.0 true_node ∷ []) h.0 hold).0 ∙ true_value nodes v respects begun)
      | inr h ↦ claim_is v claim (Fails rule.0) h.1
          ((premises_are v premises (Same rule.0 false_node ∷ []) h.0 hold).0 ∙ false_value nodes v respects begun)
    ]

    -- what is opposed is not both true
    not_opposed : (first second : Claim) → ClaimTrue v first → ClaimTrue v second
        → AreOpposed first second → ⊥
    not_opposed first second p q h =
        false≢one (v h.0) (premise_is v second (Fails h.0) h.2 q) (premise_is v first (Holds h.0) h.1 p)

    -- nor what is split
    not_split : (first second : Claim) → ClaimTrue v first → ClaimTrue v second
        → AreSplit first second → ⊥
    not_split first second p q h = elim h.3 [
      | inl e ↦ premise_is v second (Differ h.0 h.1) e q (premise_is v first (Same h.0 h.1) h.2 p)
      | inr e ↦ premise_is v second (Differ h.1 h.0) e q (sym (premise_is v first (Same h.0 h.1) h.2 p))
    ]

    -- nor an equality of `True` and `False` or of two different numbers
    not_false_equality : IsBegun nodes → (first : Claim) → ClaimTrue v first → IsFalseEquality nodes first → ⊥
    not_false_equality begun first p h =
        let equal : v h.0 ≡ v h.1 = premise_is v first (Same h.0 h.1) h.2 p in
        let yes = true_value nodes v respects begun in
        let false_is = false_value nodes v respects begun in
        elim h.3 [
          | inl (inl e) ↦ false≢one (v h.0) (equal ∙ ap v e.1 ∙ false_is) (ap v e.0 ∙ yes)
          | inl (inr e) ↦ false≢one (v h.0) (ap v e.0 ∙ false_is) (equal ∙ ap v e.1 ∙ yes)
          | inr e ↦ e.4 (sym (number_value nodes v respects h.0 e.0 e.2) ∙ equal ∙ number_value nodes v respects h.1 e.1 e.3)
        ]

    -- and what is impossible is not true
    not_impossible : IsBegun nodes → (first : Claim) → ClaimTrue v first → IsImpossible nodes first → ⊥
    not_impossible begun first p (inl h) = not_false_equality begun first p h
    not_impossible begun first p (inr (inl h)) = not_too_great v first p h
    not_impossible begun first p (inr (inr h)) = not_false_zero v first p h

    pub clash_sound : IsBegun nodes → IsClash nodes premises claim → ClaimTrue v claim
    clash_sound begun rule = absurd (elim rule.1 [
      | inl two ↦
          let both : ClaimTrue v two.0 × ClaimTrue v two.1 = elim two.2 [
            | inl e ↦ let h = premises_are v premises (two.0 ∷ two.1 ∷ []) e hold in (h.0, h.1.0)
            | inr e ↦ let h = premises_are v premises (two.1 ∷ two.0 ∷ []) e hold in (h.1.0, h.0)
          ] in
          elim two.3 [
            | inl h ↦ not_opposed two.0 two.1 both.0 both.1 h
            | inr h ↦ not_split two.0 two.1 both.0 both.1 h
          ]
      | inr single ↦ not_impossible begun single.0 (premises_are v premises (single.0 ∷ []) single.1 hold).0 single.2
    ])
