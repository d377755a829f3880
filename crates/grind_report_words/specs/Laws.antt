-- What holds of reports.
use Rattle.std.specs.Prelude.{◌≡◌, ◌↔◌, ◌+◌, ℕ, List, length}
use Rattle.grind_report_words.specs.declared.report.Report.{Report}
use Rattle.grind_report_words.specs.Words.{Words}
use Rattle.grind_report_words.specs.Steps.{State, AtStart, Step, Reads}
use Rattle.grind_report_words.specs.Reports.{ReportOf, BeginReport, IsMalformedAt, StopsAfter}

-- a line leads to one end at most
abbrev pub OneStep : Type 0
OneStep = (from one other : State) (words : Words) → Step from words one → Step from words other → one ≡ other

-- bytes are one report at most
abbrev pub OneReport : Type 0
OneReport = (bytes : List ℕ) (one other : Report) → ReportOf bytes one → ReportOf bytes other → one ≡ other

-- lines begin a report exactly where each of them takes a step
abbrev pub BeginningsEnd : Type 0
BeginningsEnd = (page : List Words) → BeginReport page ↔ ((there : State) × Reads AtStart page there)

-- bytes are malformed at one line at most
abbrev pub OneMalformedLine : Type 0
OneMalformedLine = (bytes : List ℕ) (one other : ℕ) → IsMalformedAt bytes one → IsMalformedAt bytes other → one ≡ other

-- the line after those where reading stops is the malformed one
abbrev pub StopsAtMalformed : Type 0
StopsAtMalformed = (bytes : List ℕ) (page : List Words) (rest : List ℕ) (there : State) → StopsAfter bytes page rest there
    → IsMalformedAt bytes (length page + 1)
