-- What the derivation of an equality keeps. No public clause cites these words.
use Rattle.std.specs.Prelude.{◌≡◌, ℕ, ◌+◌, ◌<◌, Bool, List, [], ◌∷◌, Some, All, Contains, ◌++◌, length, slice_get}
use Rattle.std.specs.Option.{IsSomeAnd}
use Rattle.std.specs.List.{AllZip}
use Rattle.grind_schemes.specs.Goals.{GoalData}
use Rattle.grind_schemes.specs.declared.lemmas.Lemmas.{Lemmas}
use Rattle.grind_claims.specs.declared.claim.Claim.TheVariants.{Same}
use Rattle.grind_claims.specs.declared.proof.Line.{Line}
use Rattle.grind_claims.specs.declared.proof.Proof.{Proof}
use Rattle.grind_classes.specs.Classes.{IsActive}
use Rattle.grind_congruence.specs.declared.edge.Edge.{Edge}
use Rattle.grind_congruence.specs.Congruence.{Congruence, Fits}
use Rattle.grind_congruence.specs.Edges.{Leads, Joins}
use Rattle.grind_needed_edges.specs.declared.why.Why.{Why}
use Rattle.grind_needed_edges.specs.declared.pairs.Pair.{Pair}
use Rattle.grind_needed_edges.specs.declared.plan.Plan.{Plan}
use Rattle.grind_proof_writer.specs.Lines.{IsReady, Tells, Appends}
use Rattle.grind_needed_edges.specs.Needed.{IsAlong}
use Rattle.grind_needed_edges.specs.Numbered.{pair_of, HasNumber, HasNoNumber, KeepsNumbers}
use Rattle.grind_needed_edges.specs.Plans.{IsNeeded, AreWays, IsOnPlan, IsPlanned, IsCovered}
use Rattle.grind_explain.specs.declared.known.Course.{Course}
use Rattle.grind_explain.specs.Explained.{HasReasons, DifferInClaims}

-- What is told.

-- each line that is noted for two nodes tells that they are equal
abbrev pub AreLines : Proof → ℕ → List (Pair × ℕ) → Type 0
AreLines proof branch told = (a b number : ℕ) → Contains told (pair_of a b, number) → Tells proof branch number (Same a b)

-- the line says that two nodes are equal, among certain equalities, for which none was noted, and one is now
abbrev pub IsFresh : (ℕ → ℕ → Type 0) → List (Pair × ℕ) → List (Pair × ℕ) → Line → Type 0
IsFresh Among told later line = (a : ℕ) × (b : ℕ) × (line.claim ≡ Same a b) × HasNoNumber told a b × HasNumber later a b × Among a b

-- lines were written, each among certain equalities for a pair for which none was noted, and were noted
pub record Goes (Among : ℕ → ℕ → Type 0) (old : Proof) (told : List (Pair × ℕ)) (new : Proof) (later : List (Pair × ℕ)) : Type 0 where
  pub keeps : KeepsNumbers told later
  pub lines : List Line
  pub after : new.lines ≡ old.lines ++ lines
  pub fresh : All (IsFresh Among told later) lines
  pub differ : DifferInClaims lines

-- lines were written among the equalities of planned ways
abbrev pub GoesAsPlanned : Course → Proof → List (Pair × ℕ) → Proof → List (Pair × ℕ) → Type 0
GoesAsPlanned course old told new later =
    Goes (IsPlanned course.closure.now.edges course.whys.now course.plan.now) old told new later

-- a line is noted for the edge at that place
abbrev pub IsKnown : List Edge → List (Pair × ℕ) → ℕ → Type 0
IsKnown edges told place = (edge : Edge) × (slice_get edges place ≡ Some edge) × HasNumber told edge.left edge.right

-- and for each needed one of the first edges, so many of them
abbrev pub AreKnown : List Edge → List Bool → List (Pair × ℕ) → ℕ → Type 0
AreKnown edges needed told count = (place : ℕ) → place < count → IsNeeded needed place → IsKnown edges told place

-- what a derivation is given
pub record IsGiven (closure : Congruence) (whys : List Why) (plan : Plan) (branch : ℕ) (proof : Proof) : Type 0 where
  pub fits : Fits closure proof.terms.nodes
  pub reasons : HasReasons proof branch closure.edges whys (length plan.needed)
  pub covers : (place : ℕ) → IsCovered proof.terms.nodes closure.edges whys plan place
  pub ways : AreWays closure.edges plan
  pub on_ways : (place : ℕ) → IsNeeded plan.needed place → IsOnPlan plan place

-- the lines tell that these are equal to those, one by one
abbrev pub AreTold : Proof → ℕ → List ℕ → List ℕ → List ℕ → Type 0
AreTold proof branch [] [] [] = Unit {0}
AreTold proof branch (a ∷ xs) (b ∷ ys) (n ∷ ns) = Tells proof branch n (Same a b) × AreTold proof branch xs ys ns
AreTold proof branch [] [] (n ∷ ns) = ⊥
AreTold proof branch [] (b ∷ ys) ns = ⊥
AreTold proof branch (a ∷ xs) [] ns = ⊥
AreTold proof branch (a ∷ xs) (b ∷ ys) [] = ⊥

-- the line of that number is the last, and stands in the branch itself
abbrev pub IsLast : Proof → ℕ → ℕ → Type 0
IsLast proof branch number =
    (length proof.lines ≡ number + 1) × IsSomeAnd (slice_get proof.lines number) (λ (line : Line). line.branch ≡ branch)

-- what a chain of equalities keeps on its way: a line tells that a is the node here, and the rest leads from there to where
-- all places lead
pub record IsOnWay (Among : ℕ → ℕ → Type 0) (lemmas : Lemmas) (goal : GoalData) (old now : Proof) (told later : List (Pair × ℕ)) (branch : ℕ)
    (edges : List Edge) (places : List ℕ) (from : ℕ) (rest : List ℕ) (number a here : ℕ) : Type 0 where
  pub appends : Appends lemmas goal old now branch
  pub goes : Goes Among old told now later
  pub along : (x y : ℕ) → IsAlong edges a here rest x y → Among x y
  pub ready : IsReady lemmas goal now branch
  pub lines : AreLines now branch later
  pub tells : Tells now branch number (Same a here)
  pub leads : (b : ℕ) → Leads edges places from b → Leads edges rest here b
  pub edges_known : All (IsKnown edges later) rest

-- what a loop over the pairs of two rows keeps: what is told of the rest completes what was told
pub record AreHalfTold (lemmas : Lemmas) (goal : GoalData) (old now : Proof) (before told : List (Pair × ℕ)) (branch : ℕ)
    (closure : Congruence) (whys : List Why) (plan : Plan) (lefts rights left right numbers : List ℕ) : Type 0 where
  pub appends : Appends lemmas goal old now branch
  pub goes : Goes (IsPlanned closure.edges whys plan) old before now told
  pub ready : IsReady lemmas goal now branch
  pub lines : AreLines now branch told
  pub given : IsGiven closure whys plan branch now
  pub place : ℕ
  pub edges_known : AreKnown closure.edges plan.needed told place
  pub active : All (IsActive closure.lists) left
  pub joined : AllZip (Joins closure.edges place) left right
  pub planned : AllZip (HasNumber plan.pairs) left right
  pub told_all : (later : Proof) (more : List ℕ) → Appends lemmas goal now later branch → AreTold later branch left right more
      → AreTold later branch lefts rights (numbers ++ more)

-- what a loop over the needed edges keeps
pub record AreKnownSoFar (lemmas : Lemmas) (goal : GoalData) (old now : Proof) (before told : List (Pair × ℕ)) (branch : ℕ)
    (closure : Congruence) (whys : List Why) (plan : Plan) (place : ℕ) : Type 0 where
  pub appends : Appends lemmas goal old now branch
  pub goes : Goes (IsPlanned closure.edges whys plan) old before now told
  pub ready : IsReady lemmas goal now branch
  pub lines : AreLines now branch told
  pub given : IsGiven closure whys plan branch now
  pub edges_known : AreKnown closure.edges plan.needed told place
