-- Lines written in the root.
use Rattle.std.specs.Prelude.{ℕ, ◌≡◌, zero, suc, ◌≤◌, Bool, true, false, List, [], ◌∷◌, Some, None, length, refl}
use Rattle.std.proofs.Common.{arith, sym, ap, ◌∙◌, subst, inl, inr}
use Rattle.grind_term_graph.specs.declared.node.Node.{Node}
use Rattle.grind_term_graph.specs.Terms.{Terms}
use Rattle.grind_schemes.specs.Goals.{GoalData}
use Rattle.grind_schemes.specs.declared.lemmas.Lemmas.{Lemmas}
use Rattle.grind_claims.specs.declared.claim.Claim.{Claim}
use Rattle.grind_claims.specs.declared.claim.Claim.TheVariants.{Holds, Fails, Absurd}
use Rattle.grind_claims.specs.declared.proof.Branch.{Branch}
use Rattle.grind_claims.specs.declared.proof.Line.{Line}
use Rattle.grind_claims.specs.declared.proof.Proof.{Proof}
use Rattle.grind_claims.specs.declared.proof.Rule.{Rule}
use Rattle.grind_claims.specs.Claims.{claim_at, AreClaimsAt, IsFormed}
use Rattle.grind_rules.specs.Rules.{RuleAllows, IsEquation, IsEq}
use Rattle.grind_proof_kernel.specs.Typing.{LinesAllow, IsClosed, literal_of}
use Rattle.grind_proof_writer.specs.declared.writer.Writer.{Writer}
use Rattle.grind_proof_writer.specs.Lines.{IsReady, Appends, EndsWith}
use Rattle.grind_proof_writer.specs.Branches.{HasPlace, IsFinished}
use Rattle.grind_proof_writer.specs.Writing.{CanWrite, MayWrite, Writes}
use Rattle.grind_proof_writer.specs.Laws.{FinishedIsTyped, AbsurdCloses}
use Rattle.grind_given_lines.specs.Writing.{IsProofOf}
use Rattle.grind_goal_equations.specs.Facts.{IsReadAs}
use Rattle.grind_given_lines.specs.Writing.{literal, sides_claim}
use Rattle.grind_given_lines.specs.Writing.{IsRooted, WritesRoot}

-- the terms are the goal's
pub rooted_terms : (lemmas : Lemmas) (goal : GoalData) (proof : Proof) → IsRooted lemmas goal proof → proof.terms.nodes ≡ goal.terms.nodes
rooted_terms lemmas goal proof rooted = ap (λ (terms : Terms). terms.nodes) rooted.terms

-- where there are no branches but the root, each is in its place
root_only : (proof : Proof) (b : ℕ) → length proof.branches ≡ 0 → b ≤ length proof.branches → HasPlace proof b
root_only proof zero none few = tt
root_only proof (suc b) none few = absurd (omega (arith, none, few))

-- lines that are written in the root leave it so
pub rooted_appends : (lemmas : Lemmas) (goal : GoalData) (old new : Proof) → IsRooted lemmas goal old → Appends lemmas goal old new 0 →
    IsRooted lemmas goal new
rooted_appends lemmas goal old new rooted grown =
    let none : new.branches ≡ [] = grown.branches ∙ rooted.branches in
    record {
      terms = grown.terms ∙ rooted.terms;
      branches = none;
      good = record {
        terms = (rooted.good.terms.0, ap (λ (terms : Terms). terms.nodes) grown.terms ∙ rooted.good.terms.1);
        branches = λ b few. root_only new b (ap (λ (all : List Branch). length all) none) few;
        lines = grown.typed;
      };
    }

-- a rooted proof takes lines in the root
pub rooted_ready : (lemmas : Lemmas) (goal : GoalData) (proof : Proof) → IsRooted lemmas goal proof → IsReady lemmas goal proof 0
rooted_ready lemmas goal proof rooted = record { terms = rooted.good.terms; stands = omega arith; typed = rooted.good.lines }

-- so a writer in the root may write
pub root_can_write : (writer : Writer) (proof : Proof) → WritesRoot writer proof → CanWrite writer proof
root_can_write writer proof root =
    subst (λ (b : ℕ). IsReady writer.lemmas.now writer.goal.now proof b) (sym root.branch)
    (rooted_ready writer.lemmas.now writer.goal.now proof root.rooted)

-- what it writes stands in the root
pub written_in_root : (writer : Writer) (old new : Proof) → WritesRoot writer old → Writes writer old new →
    Appends writer.lemmas.now writer.goal.now old new 0
written_in_root writer old new root writes =
    subst (λ (b : ℕ). Appends writer.lemmas.now writer.goal.now old new b) root.branch writes

-- and leaves it in the root
pub root_stays : (writer : Writer) (old new : Proof) → WritesRoot writer old → Writes writer old new → WritesRoot writer new
root_stays writer old new root writes = record {
  branch = root.branch;
  rooted = rooted_appends writer.lemmas.now writer.goal.now old new root.rooted (written_in_root writer old new root writes);
}

-- a claim over the terms of the goal is one over the proof's
pub root_formed : (writer : Writer) (proof : Proof) (claim : Claim) → WritesRoot writer proof → IsFormed writer.goal.now.terms.nodes claim →
    IsFormed proof.terms.nodes claim
root_formed writer proof claim root formed =
    subst (λ (all : List Node). IsFormed all claim) (sym (rooted_terms writer.lemmas.now writer.goal.now proof root.rooted)) formed

-- what a rule allows in the root over the terms of the goal
pub root_allows : (writer : Writer) (proof : Proof) (rule : Rule) (premises : List ℕ) (claim : Claim) → WritesRoot writer proof →
    LinesAllow writer.lemmas.now writer.goal.now writer.goal.now.terms.nodes proof.lines None rule premises claim →
    MayWrite writer proof rule premises claim
root_allows writer proof rule premises claim root says =
    let nodes : writer.goal.now.terms.nodes ≡ proof.terms.nodes =
    sym (rooted_terms writer.lemmas.now writer.goal.now proof root.rooted) in
    let here : LinesAllow writer.lemmas.now writer.goal.now proof.terms.nodes proof.lines None rule premises claim =
    subst (λ (all : List Node). LinesAllow writer.lemmas.now writer.goal.now all proof.lines None rule premises claim) nodes says in
    subst (λ (b : ℕ). LinesAllow writer.lemmas.now writer.goal.now proof.terms.nodes proof.lines (literal_of proof.branches b) rule premises claim)
    (sym root.branch) here

-- a claim that a rule allows from nothing is allowed from no lines
pub allowed_first : (lemmas : Lemmas) (goal : GoalData) (lines : List Line) (rule : Rule) (claim : Claim) →
    RuleAllows lemmas goal goal.terms.nodes None rule [] claim → LinesAllow lemmas goal goal.terms.nodes lines None rule [] claim
allowed_first lemmas goal lines rule claim allowed = ([], tt, allowed)

-- the equation that a formula is read as
equation_is : (nodes : List Node) (node : ℕ) (plain : Bool) (equation left right : ℕ) → IsReadAs nodes node plain equation left right →
    IsEquation nodes equation left right
equation_is nodes node true equation left right h = subst (λ (n : ℕ). IsEquation nodes n left right) (sym h.0) h.1
equation_is nodes node false equation left right h = h.1

-- what a line says of an equation gives its sides
pub sides_allowed : (nodes : List Node) (lines : List Line) (told node : ℕ) (holds plain : Bool) (equation left right : ℕ) (claim : Claim) →
    IsReadAs nodes node plain equation left right → claim_at lines told ≡ Some (literal holds equation) →
    claim ≡ sides_claim holds left right → (claims : List Claim) × AreClaimsAt lines (told ∷ []) claims × IsEq nodes claims claim
sides_allowed nodes lines told node true plain equation left right claim read says is = (
  Holds equation ∷ [],
  (says, tt),
  (equation, left, right, equation_is nodes node plain equation left right read, inl (refl, is)),
)
sides_allowed nodes lines told node false plain equation left right claim read says is = (
  Fails equation ∷ [],
  (says, tt),
  (equation, left, right, equation_is nodes node plain equation left right read, inr (refl, is)),
)

ends_at_root : (proof : Proof) (b : ℕ) → b ≤ 0 → IsClosed proof.lines 0 → IsClosed proof.lines b
ends_at_root proof zero none closed = closed
ends_at_root proof (suc b) none closed = absurd (omega (arith, none))

-- a proof in the root whose last line is a contradiction
pub clash_proves : FinishedIsTyped → AbsurdCloses → (writer : Writer) (proof : Proof) (number : ℕ) → WritesRoot writer proof →
    EndsWith proof writer.branch number Absurd → IsProofOf writer.lemmas.now writer.goal.now proof
clash_proves finished closes writer proof number root ends =
    let rooted : IsRooted writer.lemmas.now writer.goal.now proof = root.rooted in
    let last : EndsWith proof 0 number Absurd = subst (λ (b : ℕ). EndsWith proof b number Absurd) root.branch ends in
    let closed : IsClosed proof.lines 0 = (closes proof 0 number Absurd last).1 refl in
    let none : length proof.branches ≡ 0 = ap (λ (all : List Branch). length all) rooted.branches in
    let all : IsFinished proof = λ b few. inr (ends_at_root proof b (omega (arith, few, none)) closed) in
    record { typed = (finished writer.lemmas.now writer.goal.now proof rooted.good.terms).0 (rooted.good, all); terms = rooted.terms }
