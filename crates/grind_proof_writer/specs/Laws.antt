-- What holds of proofs while they are written.
use Rattle.std.specs.Prelude.{◌≡◌, ◌↔◌, ℕ}
use Rattle.grind_schemes.specs.Goals.{GoalData}
use Rattle.grind_schemes.specs.declared.lemmas.Lemmas.{Lemmas}
use Rattle.grind_claims.specs.declared.claim.Claim.{Claim}
use Rattle.grind_claims.specs.declared.claim.Claim.TheVariants.{Absurd}
use Rattle.grind_claims.specs.declared.proof.Proof.{Proof}
use Rattle.grind_claims.specs.Claims.{IsFormed}
use Rattle.grind_proof_kernel.specs.Literals.{IsLiteral, AreOpposite}
use Rattle.grind_proof_kernel.specs.Typing.{HasTerms, IsBranch, IsClosed, Typed}
use Rattle.grind_proof_kernel.specs.Laws.{Extends}
use Rattle.grind_proof_writer.specs.Lines.{IsReady, Tells, Appends, EndsWith}
use Rattle.grind_proof_writer.specs.Branches.{IsLeaf, IsGoodSoFar, IsFinished, KeepsOthers, SplitsLeaf, with_pair}

-- a proof is typed exactly where it is good so far and each of its branches ends
abbrev pub FinishedIsTyped : Type 0
FinishedIsTyped =
    (lemmas : Lemmas) (goal : GoalData) (proof : Proof) → HasTerms goal proof →
    (IsGoodSoFar lemmas goal proof × IsFinished proof) ↔ Typed lemmas goal proof

-- lines may be written in each branch of a proof that is good so far
abbrev pub GoodIsReady : Type 0
GoodIsReady =
    (lemmas : Lemmas) (goal : GoalData) (proof : Proof) (branch : ℕ) → IsGoodSoFar lemmas goal proof →
    IsBranch proof.branches branch → IsReady lemmas goal proof branch

-- lines that are written in a leaf keep the proof good, leave it a leaf, and change no other branch
abbrev pub LinesKeepGood : Type 0
LinesKeepGood =
    (lemmas : Lemmas) (goal : GoalData) (old new : Proof) (branch : ℕ) → IsGoodSoFar lemmas goal old →
    IsLeaf old.branches branch → Appends lemmas goal old new branch →
    IsGoodSoFar lemmas goal new × IsLeaf new.branches branch × KeepsOthers old new branch

-- a pair of opposite literals below a leaf keeps the proof good, and its two branches are open
abbrev pub PairKeepsGood : Type 0
PairKeepsGood =
    (lemmas : Lemmas) (goal : GoalData) (proof : Proof) (parent : ℕ) (one other : Claim) → IsGoodSoFar lemmas goal proof →
    IsLeaf proof.branches parent → IsLiteral one → IsFormed proof.terms.nodes one → AreOpposite one other →
    IsGoodSoFar lemmas goal (with_pair proof parent one other)
    × SplitsLeaf proof (with_pair proof parent one other) parent one other

-- a branch that has the last line is closed exactly where that line claims a contradiction
abbrev pub AbsurdCloses : Type 0
AbsurdCloses =
    (proof : Proof) (branch number : ℕ) (claim : Claim) → EndsWith proof branch number claim →
    IsClosed proof.lines branch ↔ (claim ≡ Absurd)

-- what a line tells in a branch it still tells where terms, branches and lines are appended to the proof
abbrev pub TellsStays : Type 0
TellsStays =
    (old new : Proof) (branch number : ℕ) (claim : Claim) → Extends old new →
    Tells old branch number claim → Tells new branch number claim
