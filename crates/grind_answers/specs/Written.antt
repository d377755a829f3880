-- What was written of a report.
use Rattle.std.specs.Prelude.{◌≡◌, ◌↔◌, ℕ, List, flat_map, ◌++◌, Option, Bool, IsTrue}
use Rattle.std.specs.List.{AllByRecursion}
use Rattle.grind_outside.specs.Outside.{appended, IsFront}
use Rattle.grind_schemes.specs.Goals.{GoalData}
use Rattle.grind_schemes.specs.declared.lemmas.Lemmas.{Lemmas}
use Rattle.grind_report.specs.declared.report.Outcome.{Outcome}
use Rattle.grind_report.specs.declared.report.Outcome.TheVariants as outcomes
use Rattle.grind_signature.specs.Signatures.{SignatureData}
use Rattle.grind_report.specs.Report.{Block, BlockFits, block_bytes, header_bytes}
use Rattle.grind_answers.specs.Answers.{AnswersGoal, AnswersAll, BeginsGoal, IsClosedBlock, IsPartOfBlocks}

-- some first bytes of the line were written
abbrev pub WritesFront : Option (List ℕ) → Option (List ℕ) → List ℕ → Type 0
WritesFront old new line = (front : List ℕ) × IsFront front line × (new ≡ appended old front)

-- the outcome is that of a closed goal
abbrev pub IsClosedOutcome : Outcome → Type 0
IsClosedOutcome (outcomes.Closed proof) = Unit {0}
IsClosedOutcome outcomes.Unexplored = ⊥

-- the bytes are those of a block that answers the goal
pub record SpellsBlock (signature : SignatureData) (lemmas : Lemmas) (goal : GoalData) (closed : Bool) (bytes : List ℕ) (block : Block) : Type 0 where
  pub answers : AnswersGoal signature lemmas goal block
  pub fits : BlockFits block
  pub bytes_are : bytes ≡ block_bytes block
  pub closed_is : IsTrue closed ↔ IsClosedBlock block

-- a block that answers the goal was written
pub record WritesBlock (signature : SignatureData) (lemmas : Lemmas) (goal : GoalData) (old new : Option (List ℕ)) (closed : Bool) (block : Block) : Type 0 where
  pub answers : AnswersGoal signature lemmas goal block
  pub fits : BlockFits block
  pub written : new ≡ appended old (block_bytes block)
  pub closed_is : IsTrue closed ↔ IsClosedBlock block

-- nothing was written, or some first bytes of a block that answers the goal
abbrev pub BeginsBlock : SignatureData → Lemmas → GoalData → Option (List ℕ) → Option (List ℕ) → Type 0
BeginsBlock signature lemmas goal old new =
    (front : List ℕ) × (new ≡ appended old front) × BeginsGoal signature lemmas goal front

-- blocks that answer the goals were written
pub record WritesBlocks (signature : SignatureData) (lemmas : Lemmas) (goals : List GoalData) (old new : Option (List ℕ)) (blocks : List Block) : Type 0 where
  pub answers : AnswersAll signature lemmas goals blocks
  pub fits : AllByRecursion BlockFits blocks
  pub written : new ≡ appended old (flat_map block_bytes blocks)

-- some first bytes of such blocks were written
abbrev pub WritesSomeBlocks : SignatureData → Lemmas → List GoalData → Option (List ℕ) → Option (List ℕ) → Type 0
WritesSomeBlocks signature lemmas goals old new = (piece : List ℕ) × (new ≡ appended old piece) × IsPartOfBlocks signature lemmas goals piece

-- the goals are those that are done and then the rest; and the header was written, and a block for each that is done
pub record IsWrittenSoFar (signature : SignatureData) (lemmas : Lemmas) (goals rest : List GoalData) (now : Option (List ℕ)) (done : List GoalData) (before : Option (List ℕ)) (blocks : List Block) : Type 0 where
  pub goals_are : goals ≡ done ++ rest
  pub answers : AnswersAll signature lemmas done blocks
  pub written : now ≡ appended before (header_bytes ++ flat_map block_bytes blocks)

-- what was written ends with the header and a block for each goal before the rest
abbrev pub AwaitsGoals : SignatureData → Lemmas → List GoalData → List GoalData → Option (List ℕ) → Type 0
AwaitsGoals signature lemmas goals rest now =
    (done : List GoalData) × (before : Option (List ℕ)) × (blocks : List Block) × IsWrittenSoFar signature lemmas goals rest now done before blocks
