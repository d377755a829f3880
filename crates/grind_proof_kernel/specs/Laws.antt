-- What holds of every typed line.
use Rattle.std.specs.Prelude.{◌≡◌, ℕ, ◌<◌, ◌⊎◌, List, ◌++◌, length, Option, slice_get}
use Rattle.std.specs.Option.{IsSomeAnd}
use Rattle.grind_term_graph.specs.declared.node.Node.{Node}
use Rattle.grind_schemes.specs.Goals.{GoalData}
use Rattle.grind_term_graph.specs.Beginnings.{BeginsWith}
use Rattle.grind_schemes.specs.declared.lemmas.Lemmas.{Lemmas}
use Rattle.grind_claims.specs.declared.proof.Branch.{Branch}
use Rattle.grind_claims.specs.declared.proof.Line.{Line}
use Rattle.grind_claims.specs.declared.proof.Proof.{Proof}
use Rattle.grind_rules.specs.Laws.{IsPremiseCount}
use Rattle.grind_proof_kernel.specs.Typing.{IsTypedAs, TypedLine, appended}

-- the new proof is the old one with more terms, more branches and more lines after them
pub record Extends (old new : Proof) : Type 0 where
  pub nodes : BeginsWith old.terms.nodes new.terms.nodes
  pub branches : (more : List Branch) × (new.branches ≡ old.branches ++ more)
  pub lines : (more : List Line) × (new.lines ≡ old.lines ++ more)

-- a line stays typed where terms, branches and lines are appended to the proof
abbrev pub TypedLinesStay : Type 0
TypedLinesStay =
    (lemmas : Lemmas) (goal : GoalData) (old new : Proof) (i : ℕ) →
    Extends old new → TypedLine lemmas goal old i → TypedLine lemmas goal new i

-- a line that is typed after the lines of a proof is typed once it stands there
abbrev pub TypedNextLine : Type 0
TypedNextLine =
    (lemmas : Lemmas) (goal : GoalData) (proof : Proof) (line : Line) →
    IsTypedAs lemmas goal proof (length proof.lines) line →
    TypedLine lemmas goal (appended proof line) (length proof.lines)

-- a typed line has as many premises as its rule asks for
abbrev pub TypedLinesCount : Type 0
TypedLinesCount =
    (lemmas : Lemmas) (goal : GoalData) (proof : Proof) (i : ℕ) → TypedLine lemmas goal proof i →
    IsSomeAnd (slice_get proof.lines i) (λ (line : Line). IsPremiseCount line.rule (length line.premises))
