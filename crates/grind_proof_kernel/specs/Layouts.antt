-- What one pass over the lines, and one over the branches, tells of every branch. No public clause cites these words.
use Rattle.std.specs.Prelude.{◌≡◌, ◌↔◌, ℕ, ◌+◌, ◌<◌, ◌≤◌, ◌++◌, ◌∷◌, [], List, IsTrue, length, slice_index_or}
use Rattle.grind_claims.specs.declared.proof.Branch.{Branch}
use Rattle.grind_claims.specs.declared.proof.Line.{Line}
use Rattle.grind_claims.specs.declared.proof.Proof.{Proof}
use Rattle.grind_proof_kernel.specs.declared.layout.Layout.{Layout}
use Rattle.grind_proof_kernel.specs.declared.spans.Span.{Span}
use Rattle.grind_proof_kernel.specs.Typing.{StandsBefore, StandsBehind, IsClosed, IsPairOf}

-- the lines of the branch begin and end there, and the last claims a contradiction or not
pub record IsSpan (lines : List Line) (branch : ℕ) (span : Span) : Type 0 where
  pub begins : (after : ℕ) → after ≤ 4294967295 → (after ≤ span.begin) ↔ StandsBehind lines branch after
  pub ends : (after : ℕ) → (span.end ≤ after) ↔ StandsBefore lines branch after
  pub closes : IsTrue span.closed ↔ IsClosed lines branch

-- the spans of the first branches, from the root
abbrev pub AreSpans : List Line → List Span → Type 0
AreSpans lines spans = (branch : ℕ) (span : Span) → branch < length spans → IsSpan lines branch (slice_index_or spans branch span)

-- one more line, after so many, is noted
abbrev pub NotesLine : Line → ℕ → List Span → List Span → Type 0
NotesLine line count old new = (lines : List Line) → length lines ≡ count → AreSpans lines old → AreSpans (lines ++ line ∷ []) new

-- the first pair that goes on from the branch has that number: one of the first pairs, so many of them, does exactly where the
-- number is below that count
abbrev pub IsFirstPair : List Branch → ℕ → ℕ → Type 0
IsFirstPair branches branch first =
    (count : ℕ) → count ≤ 4294967295 → (first < count) ↔ ((k : ℕ) × (k < count) × IsPairOf branches k branch)

-- the same where only the pairs of a number below `done` are known
abbrev pub IsFirstPairSoFar : List Branch → ℕ → ℕ → ℕ → Type 0
IsFirstPairSoFar branches done branch first =
    (count : ℕ) → count ≤ 4294967295 → (first < count) ↔ ((k : ℕ) × (k < count) × (k < done) × IsPairOf branches k branch)

-- the first pairs of the first branches, from the root
abbrev pub AreFirstPairs : List Branch → List ℕ → Type 0
AreFirstPairs branches firsts = (branch d : ℕ) → branch < length firsts → IsFirstPair branches branch (slice_index_or firsts branch d)

abbrev pub AreFirstPairsSoFar : List Branch → ℕ → List ℕ → Type 0
AreFirstPairsSoFar branches done firsts =
    (branch d : ℕ) → branch < length firsts → IsFirstPairSoFar branches done branch (slice_index_or firsts branch d)

-- one more pair, of that number and that parent, is noted
abbrev pub NotesPair : ℕ → ℕ → List ℕ → List ℕ → Type 0
NotesPair k parent old new = (branches : List Branch) →
    IsPairOf branches k parent → AreFirstPairsSoFar branches k old → AreFirstPairsSoFar branches (k + 1) new

-- the layout is that of the proof
pub record IsLayout (proof : Proof) (layout : Layout) : Type 0 where
  pub count : length layout.spans ≡ length proof.branches + 1
  pub spans : AreSpans proof.lines layout.spans
  pub pair_count : length layout.pairs ≡ length proof.branches + 1
  pub pairs : AreFirstPairs proof.branches layout.pairs
