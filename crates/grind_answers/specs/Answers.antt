-- What `solve` answers for a theory: a block for each goal.
use Rattle.std.specs.Prelude.{◌≡◌, ◌⊎◌, ℕ, ℤ, List, [], ◌∷◌, ◌++◌, length, flat_map, All, Option}
use Rattle.std.specs.List.{AllByRecursion, AllZip}
use Rattle.grind_outside.specs.Outside.{appended, IsFront}
use Rattle.grind_schemes.specs.Goals.{GoalData}
use Rattle.grind_schemes.specs.declared.lemmas.Lemmas.{Lemmas}
use Rattle.grind_claims.specs.declared.proof.Proof.{Proof}
use Rattle.grind_goal_equations.specs.Congruences.{IsAnswered, CongruenceEntails, ComparesTerms}
use Rattle.grind_proof_kernel.specs.Typing.{Typed}
use Rattle.grind_signature.specs.Signatures.{SignatureData}
use Rattle.grind_value_tables.specs.Respects.{Respects}
use Rattle.grind_value_tables.specs.Truths.{GoalTrue}
use Rattle.grind_report.specs.Report.{RawProof, Block, Closed, Unexplored, Report, ReportOf, BlockFits, header_bytes, block_bytes, end_bytes}
use Rattle.grind_report.specs.Blocks.{ProofOf}

-- the goal is true in every table of values that respects the terms of the proof and makes its listed instances true
abbrev pub IsTrueEverywhere : GoalData → Proof → Type 0
IsTrueEverywhere goal proof = (v : ℕ → ℤ) → Respects proof.terms.nodes v → GoalTrue goal proof v

-- the block spells a proof that the rules type for this goal, and the goal is true wherever its terms are respected
pub record Proves (signature : SignatureData) (lemmas : Lemmas) (goal : GoalData) (raw : RawProof) (proof : Proof) : Type 0 where
  pub spelled : ProofOf signature goal raw proof
  pub typed : Typed lemmas goal proof
  pub true_everywhere : IsTrueEverywhere goal proof

-- a ground equality goal: each of its hypotheses, and its conclusion, says that two terms are equal or that they are different
abbrev pub IsGroundGoal : GoalData → Type 0
IsGroundGoal goal = All (ComparesTerms goal) goal.hyps × ComparesTerms goal goal.show

-- the block answers the goal. It has the goal's name. A goal is closed exactly where its conclusion is one of its
-- hypotheses or congruence entails it, so a ground equality goal exactly where congruence entails it; and a closed block
-- proves it.
abbrev pub AnswersGoal : SignatureData → Lemmas → GoalData → Block → Type 0
AnswersGoal signature lemmas goal (Closed name raw) =
    (name ≡ goal.name) × IsAnswered goal × (IsGroundGoal goal → CongruenceEntails goal)
    × ((proof : Proof) × Proves signature lemmas goal raw proof)
AnswersGoal signature lemmas goal (Unexplored name) =
    (name ≡ goal.name) × (¬ IsAnswered goal) × (IsGroundGoal goal → ¬ CongruenceEntails goal)

-- one block for each goal, in order, and each answers its goal
abbrev pub AnswersAll : SignatureData → Lemmas → List GoalData → List Block → Type 0
AnswersAll signature lemmas goals blocks = AllZip (AnswersGoal signature lemmas) goals blocks

-- the block is that of a closed goal
abbrev pub IsClosedBlock : Block → Type 0
IsClosedBlock (Closed name raw) = Unit {0}
IsClosedBlock (Unexplored name) = ⊥

-- each block is that of a closed goal
abbrev pub AreClosed : List Block → Type 0
AreClosed blocks = AllByRecursion IsClosedBlock blocks

-- these bytes were written after what stood there, and they are a report that answers each goal
pub record WritesReport (signature : SignatureData) (lemmas : Lemmas) (goals : List GoalData) (old new : Option (List ℕ)) (bytes : List ℕ) (report : Report) : Type 0 where
  pub written : new ≡ appended old bytes
  pub spelled : ReportOf bytes report
  pub answers : AnswersAll signature lemmas goals report.blocks

-- nothing, or some first bytes of a block that answers the goal
abbrev pub BeginsGoal : SignatureData → Lemmas → GoalData → List ℕ → Type 0
BeginsGoal signature lemmas goal front =
    (front ≡ []) ⊎ ((block : Block) × AnswersGoal signature lemmas goal block × BlockFits block × IsFront front (block_bytes block))

-- the bytes are blocks that answer the goals that are done, and some first bytes of the next goal's block
pub record IsBegun (signature : SignatureData) (lemmas : Lemmas) (goals : List GoalData) (piece : List ℕ) (done : List GoalData) (goal : GoalData) (rest : List GoalData) (blocks : List Block) (front : List ℕ) : Type 0 where
  pub goals_are : goals ≡ done ++ goal ∷ rest
  pub answers : AnswersAll signature lemmas done blocks
  pub fits : AllByRecursion BlockFits blocks
  pub piece_is : piece ≡ flat_map block_bytes blocks ++ front
  pub next : BeginsGoal signature lemmas goal front

-- the blocks of some first goals, and some first bytes of one further block
abbrev pub IsPartOfBlocks : SignatureData → Lemmas → List GoalData → List ℕ → Type 0
IsPartOfBlocks signature lemmas goals piece =
    (done : List GoalData) × (goal : GoalData) × (rest : List GoalData) × (blocks : List Block) × (front : List ℕ)
    × IsBegun signature lemmas goals piece done goal rest blocks front

-- the bytes are blocks that answer the goals, and some first bytes of the end line
pub record IsEnding (signature : SignatureData) (lemmas : Lemmas) (goals : List GoalData) (piece : List ℕ) (blocks : List Block) (front : List ℕ) : Type 0 where
  pub answers : AnswersAll signature lemmas goals blocks
  pub fits : AllByRecursion BlockFits blocks
  pub piece_is : piece ≡ flat_map block_bytes blocks ++ front
  pub next : IsFront front (end_bytes (length blocks))

-- the blocks of all goals, and some first bytes of the end line
abbrev pub IsPartOfEnd : SignatureData → Lemmas → List GoalData → List ℕ → Type 0
IsPartOfEnd signature lemmas goals piece = (blocks : List Block) × (front : List ℕ) × IsEnding signature lemmas goals piece blocks front

-- some first bytes of a report that answers the goals: of its header, or the header and then of the rest
abbrev pub IsPartOfReport : SignatureData → Lemmas → List GoalData → List ℕ → Type 0
IsPartOfReport signature lemmas goals piece =
    IsFront piece header_bytes
    ⊎ ((rest : List ℕ) × (piece ≡ header_bytes ++ rest) × (IsPartOfBlocks signature lemmas goals rest ⊎ IsPartOfEnd signature lemmas goals rest))

-- some first bytes of such a report were written after what stood there
abbrev pub WritesPart : SignatureData → Lemmas → List GoalData → Option (List ℕ) → Option (List ℕ) → Type 0
WritesPart signature lemmas goals old new = (piece : List ℕ) × (new ≡ appended old piece) × IsPartOfReport signature lemmas goals piece
