-- Each line of typed lines claims what is true, where all that its branch assumes is.
use Rattle.std.specs.Prelude.{◌≡◌, ℕ, zero, suc, ◌<◌, List, [], ◌∷◌, Option, Some, IfSome, All, slice_get, ℤ, refl}
use Rattle.std.specs.Option.{IsSomeAnd, option_map}
use Rattle.std.proofs.Common.{arith, sym, ap, ◌∙◌, subst}
use Rattle.std.proofs.lemmas.List.Elements.{All-head, All-tail}
use Rattle.std.proofs.lemmas.Option.{slice_get_within, same_Some}
use Rattle.grind_term_graph.specs.declared.node.Node.{Node}
use Rattle.grind_term_graph.specs.Shape.{IsTermTable}
use Rattle.grind_schemes.specs.Goals.{GoalData}
use Rattle.grind_schemes.specs.declared.lemmas.Lemmas.{Lemmas}
use Rattle.grind_claims.specs.declared.claim.Claim.{Claim}
use Rattle.grind_claims.specs.declared.claim.Claim.TheVariants.{Holds}
use Rattle.grind_claims.specs.declared.proof.Branch.{Branch}
use Rattle.grind_claims.specs.declared.proof.Line.{Line}
use Rattle.grind_claims.specs.declared.proof.Proof.{Proof}
use Rattle.grind_claims.specs.declared.proof.Rule.{Rule}
use Rattle.grind_claims.specs.declared.proof.Rule.TheVariants as rules
use Rattle.grind_claims.specs.Claims.{IsFormed, claim_at, AreClaimsAt}
use Rattle.grind_rules.specs.Rules.{RuleAllows}
use Rattle.grind_proof_kernel.specs.Typing.{Reaches, Serves, IsTypedAs, literal_of}
use Rattle.grind_value_tables.specs.Respects.{one, zero_value, Respects}
use Rattle.grind_value_tables.specs.Truths.{ClaimTrue, AreTrue, InstancesTrue, IsByInst}
use Rattle.grind_value_tables.specs.Laws.{AssumesTruth, HasTypedLines, IsTableFor, Sound}
use Rattle.grind_value_tables.proofs.Fronts.{IsSomeAnd-at}
use Rattle.grind_value_tables.proofs.Meanings.{PremisesHold, IsSomeAnd-item, claim_is}
use Rattle.grind_value_tables.proofs.EqualityRules.{hyp_sound, negated_sound, branch_sound, refl_sound, sym_sound, trans_sound, eq_sound, back_sound, truth_sound, untruth_sound, clash_sound}
use Rattle.grind_value_tables.proofs.Arithmetic.{ArithmeticLaws}
use Rattle.grind_value_tables.proofs.LinearRules.{read_sound, write_sound, line_sound, combine_sound, pinch_sound, strict_sound, apart_sound}
use Rattle.grind_value_tables.proofs.PolyRules.{poly_sound, ideal_sound, equal_sound}
use Rattle.grind_value_tables.proofs.CongRule.{cong_sound}
use Rattle.grind_value_tables.proofs.TableRule.{table_sound}
use Rattle.grind_value_tables.proofs.Ancestors.{assumes_above}

module _ (laws : ArithmeticLaws) (goal : GoalData) (nodes : List Node) (limit : ℕ) (v : ℕ → ℤ) (table : IsTermTable nodes limit)
    (lemmas : Lemmas) (respects : Respects nodes v) (hyps : AreTrue v goal.hyps) (show : v goal.show ≡ zero_value) where
  -- each rule allows what is true
  pub allowed_sound : (rule : Rule) (literal : Option Claim) (premises : List Claim) (claim : Claim)
      → ((n : ℕ) → IsByInst rule → claim ≡ Holds n → v n ≡ one) → IsFormed nodes claim → ((it : Claim) → literal ≡ Some it → ClaimTrue v it) → PremisesHold v premises
      → RuleAllows lemmas goal nodes literal rule premises claim → ClaimTrue v claim
  allowed_sound (rules.Hyp i) literal premises claim listed formed assumed hold says = hyp_sound goal v premises claim i hyps says
  allowed_sound rules.Negated literal premises claim listed formed assumed hold says = negated_sound goal v premises claim show says
  allowed_sound (rules.Inst t ids) literal premises claim listed formed assumed hold says =
      claim_is v claim (Holds says.0) says.3 (listed says.0 (t, ids, refl) says.3)
  allowed_sound rules.Branch literal premises claim listed formed assumed hold says =
      branch_sound goal v premises claim literal assumed says
  allowed_sound rules.Refl literal premises claim listed formed assumed hold says = refl_sound v premises claim hold says
  allowed_sound rules.Sym literal premises claim listed formed assumed hold says = sym_sound v premises claim hold says
  allowed_sound rules.Trans literal premises claim listed formed assumed hold says = trans_sound v premises claim hold says
  allowed_sound rules.Cong literal premises claim listed formed assumed hold says =
      cong_sound v premises claim hold nodes respects table.0 says
  allowed_sound rules.Eq literal premises claim listed formed assumed hold says = eq_sound v premises claim hold nodes respects says
  allowed_sound rules.Back literal premises claim listed formed assumed hold says =
      back_sound v premises claim hold nodes respects formed says
  allowed_sound rules.Truth literal premises claim listed formed assumed hold says =
      truth_sound v premises claim hold nodes respects table.1 says
  allowed_sound rules.Untruth literal premises claim listed formed assumed hold says =
      untruth_sound v premises claim hold nodes respects table.1 says
  allowed_sound (rules.Table free) literal premises claim listed formed assumed hold says =
      table_sound v premises claim hold nodes respects table.0 free says
  allowed_sound rules.Read literal premises claim listed formed assumed hold says =
      read_sound laws v premises claim hold nodes respects says
  allowed_sound rules.Write literal premises claim listed formed assumed hold says =
      write_sound laws v premises claim hold nodes respects formed says
  allowed_sound rules.Line literal premises claim listed formed assumed hold says =
      line_sound laws v premises claim hold nodes respects says
  allowed_sound rules.Poly literal premises claim listed formed assumed hold says =
      poly_sound laws v premises claim hold nodes respects says
  allowed_sound (rules.Combine divisor factors) literal premises claim listed formed assumed hold says =
      combine_sound laws v premises claim hold divisor factors says
  allowed_sound rules.Pinch literal premises claim listed formed assumed hold says =
      pinch_sound laws v premises claim hold nodes respects says
  allowed_sound rules.Strict literal premises claim listed formed assumed hold says =
      strict_sound laws v premises claim hold nodes respects says
  allowed_sound rules.Apart literal premises claim listed formed assumed hold says =
      apart_sound laws v premises claim hold nodes respects says
  allowed_sound (rules.Ideal divisor factors) literal premises claim listed formed assumed hold says =
      ideal_sound laws v premises claim hold divisor factors says
  allowed_sound rules.Equal literal premises claim listed formed assumed hold says =
      equal_sound laws v premises claim hold nodes respects says
  allowed_sound rules.Clash literal premises claim listed formed assumed hold says =
      clash_sound v premises claim hold nodes respects table.1 says

-- where each line before line i claims what is true if its branch assumes that, so do the premises of line i
module _ (v : ℕ → ℤ) (branches : List Branch) (lines : List Line) (i branch : ℕ)
    (before : (j : ℕ) (line : Line) → j < i → slice_get lines j ≡ Some line → AssumesTruth v branches line.branch
    → ClaimTrue v line.claim) (assumes : AssumesTruth v branches branch) where
  premise_holds : (j : ℕ) (claim : Claim) → Serves branches lines i branch j → claim_at lines j ≡ Some claim → ClaimTrue v claim
  premise_holds j claim serves claimed =
      let it = IsSomeAnd-item (slice_get lines j) (λ (line : Line). Reaches branches line.branch branch) serves.1 in
      let holds = before j it.0 serves.0 it.1 (assumes_above branches v it.2.0 branch it.0.branch it.2.2 assumes) in
      let is : Some it.0.claim ≡ Some claim = sym (ap (option_map (λ (line : Line). line.claim)) it.1) ∙ claimed in
      subst (ClaimTrue v) (same_Some it.0.claim claim is) holds

  pub premises_hold : (numbers : List ℕ) (claims : List Claim) → AreClaimsAt lines numbers claims
      → All (Serves branches lines i branch) numbers → PremisesHold v claims
  premises_hold [] [] are serve = tt
  premises_hold [] (claim ∷ claims) are serve = absurd are
  premises_hold (j ∷ numbers) [] are serve = absurd are
  premises_hold (j ∷ numbers) (claim ∷ claims) are serve = (
    premise_holds j claim (All-head (Serves branches lines i branch) j numbers serve) are.0,
    premises_hold numbers claims are.1 (All-tail (Serves branches lines i branch) j numbers serve),
  )

module _ (laws : ArithmeticLaws) (lemmas : Lemmas) (goal : GoalData) (proof : Proof) (v : ℕ → ℤ) (values : IsTableFor goal proof v)
    (hyps : AreTrue v goal.hyps) (instances : InstancesTrue v proof) (show : v goal.show ≡ zero_value) (typed : HasTypedLines lemmas goal proof) where
  -- each of the first lines, so many of them, claims what is true
  sound_below : (count i : ℕ) (line : Line) → i < count → slice_get proof.lines i ≡ Some line
      → AssumesTruth v proof.branches line.branch → ClaimTrue v line.claim
  sound_below zero i line below is assumes = absurd (omega arith)
  sound_below (suc count) i line below is assumes =
      let it = IsSomeAnd-at (slice_get proof.lines i) (IsTypedAs lemmas goal proof i) line is
      (typed i (slice_get_within proof.lines i line is)) in
      allowed_sound laws goal proof.terms.nodes proof.terms.limit v values.table lemmas values.respects hyps show line.rule
      (literal_of proof.branches line.branch) it.rule.0 line.claim
      (λ n by_inst holds. instances n (
        i,
        subst (λ (o : Option Line). IsSomeAnd o
            (λ (at : Line). IsByInst at.rule × (at.claim ≡ Holds n))) (sym is) (by_inst, holds),
      )) it.claim
      (λ literal e. assumes 0 line.branch literal refl e)
      (premises_hold v proof.branches proof.lines i line.branch
      (λ j other earlier. sound_below count j other (omega arith)) assumes line.premises it.rule.0 it.rule.1 it.premises) it.rule.2

  pub sound_line : (i : ℕ) (line : Line) → slice_get proof.lines i ≡ Some line → AssumesTruth v proof.branches line.branch
      → ClaimTrue v line.claim
  sound_line i line is assumes = sound_below (suc i) i line (omega arith) is assumes

pub sound_lines : ArithmeticLaws → Sound
sound_lines laws lemmas goal proof v values hyps instances show typed i line is assumes =
    sound_line laws lemmas goal proof v values hyps instances show typed i line is assumes
