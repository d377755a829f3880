-- How a run of `solve` ends, status by status.
use Rattle.std.specs.Prelude.{◌≡◌, ◌⊎◌, ℕ, ◌<◌, ◌≤◌, List, length, Option, IfSome}
use Rattle.grind_outside.specs.Outside.{CountsFault}
use Rattle.grind_command.specs.declared.status.Status.{Status}
use Rattle.grind_command.specs.declared.status.Status.TheVariants.{AllClosed, SomeOpen, TheoryRefused, WordsRefused, ReadFault, WriteFault, Memory, ReportMalformed, TooLong}
use Rattle.grind_theory.specs.declared.theory.Theory.{Theory}
use Rattle.grind_theory_files.specs.TheoryFiles.{TheoryOf, IsRefusedFor, Stands, max_theory_bytes}
use Rattle.grind_command.specs.declared.ending.Ending.{Ending}
use Rattle.grind_command.specs.declared.ending.Ending.TheVariants as endings
use Rattle.grind_report.specs.Report.{Report}
use Rattle.grind_answers.specs.Answers.{AreClosed, WritesReport, WritesPart}

-- the bytes are a theory, and a report that answers each goal of it was written
pub record Solves (bytes : List ℕ) (old new : Option (List ℕ)) (theory : Theory) (written : List ℕ) (report : Report) : Type 0 where
  pub theory_of : TheoryOf bytes theory
  pub report_of : WritesReport theory.signature theory.lemmas theory.goals old new written report

-- some first bytes of such a report were written
abbrev pub SolvesInPart : List ℕ → Option (List ℕ) → Option (List ℕ) → Type 0
SolvesInPart bytes old new =
    (theory : Theory) × TheoryOf bytes theory × WritesPart theory.signature theory.lemmas theory.goals old new

-- where each status comes, for this theory: what stands on `out` before and after, and its counts of faults
abbrev pub EndsOnTheory : Status → Theory → Option (List ℕ) → Option (List ℕ) → ℕ → ℕ → Type 0
EndsOnTheory AllClosed theory old new before now =
    (written : List ℕ) × (report : Report) × WritesReport theory.signature theory.lemmas theory.goals old new written report × AreClosed report.blocks
EndsOnTheory SomeOpen theory old new before now =
    (written : List ℕ) × (report : Report) × WritesReport theory.signature theory.lemmas theory.goals old new written report × ¬ AreClosed report.blocks
EndsOnTheory WriteFault theory old new before now =
    CountsFault before now × WritesPart theory.signature theory.lemmas theory.goals old new
EndsOnTheory Memory theory old new before now = WritesPart theory.signature theory.lemmas theory.goals old new
EndsOnTheory TheoryRefused theory old new before now = ⊥
EndsOnTheory WordsRefused theory old new before now = ⊥
EndsOnTheory ReadFault theory old new before now = ⊥
EndsOnTheory ReportMalformed theory old new before now = ⊥
EndsOnTheory TooLong theory old new before now = ⊥

-- where each status comes, for a file of these bytes: what stands on `out` before and after, and its counts of faults
abbrev pub EndsOn : Status → List ℕ → Option (List ℕ) → Option (List ℕ) → ℕ → ℕ → Type 0
EndsOn AllClosed bytes old new before now =
    (theory : Theory) × (written : List ℕ) × (report : Report) × Solves bytes old new theory written report × AreClosed report.blocks
EndsOn SomeOpen bytes old new before now =
    (theory : Theory) × (written : List ℕ) × (report : Report) × Solves bytes old new theory written report × ¬ AreClosed report.blocks
EndsOn TheoryRefused bytes old new before now = ((theory : Theory) → ¬ TheoryOf bytes theory) × (new ≡ old)
EndsOn WriteFault bytes old new before now = CountsFault before now × SolvesInPart bytes old new
EndsOn Memory bytes old new before now = (new ≡ old) ⊎ SolvesInPart bytes old new
EndsOn WordsRefused bytes old new before now = ⊥
EndsOn ReadFault bytes old new before now = ⊥
EndsOn ReportMalformed bytes old new before now = ⊥
EndsOn TooLong bytes old new before now = ⊥

-- the file was read within its limit, and the run ended so on its bytes
abbrev pub EndsOnFile : Status → Option (List ℕ) → Option (List ℕ) → Option (List ℕ) → ℕ → ℕ → Type 0
EndsOnFile status content old new before now =
    (bytes : List ℕ) × Stands content bytes × (length bytes ≤ max_theory_bytes) × EndsOn status bytes old new before now

-- where each status comes, for a file of this content: the counts of faults of the shelf, then those of `out`
abbrev pub Ends : Status → Option (List ℕ) → ℕ → ℕ → Option (List ℕ) → Option (List ℕ) → ℕ → ℕ → Type 0
Ends AllClosed content read reads old new before now = EndsOnFile AllClosed content old new before now
Ends SomeOpen content read reads old new before now = EndsOnFile SomeOpen content old new before now
Ends TheoryRefused content read reads old new before now = EndsOnFile TheoryRefused content old new before now
Ends WriteFault content read reads old new before now = EndsOnFile WriteFault content old new before now
Ends Memory content read reads old new before now = (new ≡ old) ⊎ EndsOnFile Memory content old new before now
Ends ReadFault content read reads old new before now = CountsFault read reads × (new ≡ old)
Ends TooLong content read reads old new before now = IfSome content (λ stored. max_theory_bytes < length stored) × (new ≡ old)
Ends WordsRefused content read reads old new before now = ⊥
Ends ReportMalformed content read reads old new before now = ⊥

-- every goal is closed, or some goal is open: the report was written
abbrev pub IsAnswer : Status → Type 0
IsAnswer status = (status ≡ AllClosed) ⊎ (status ≡ SomeOpen)

-- what an ending says of a file of this content: it says so of the bytes that were read
abbrev pub Explains : Option (List ℕ) → Ending → Type 0
Explains content (endings.Refused refusal) = (bytes : List ℕ) × Stands content bytes × IsRefusedFor bytes refusal
Explains content endings.AllClosed = Unit {0}
Explains content endings.SomeOpen = Unit {0}
Explains content endings.WordsRefused = Unit {0}
Explains content endings.ReadFault = Unit {0}
Explains content endings.WriteFault = Unit {0}
Explains content endings.Memory = Unit {0}
Explains content endings.TooLong = Unit {0}
