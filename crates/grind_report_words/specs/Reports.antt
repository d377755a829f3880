-- Which report bytes are, and where they are none.
use Rattle.std.specs.Prelude.{◌≡◌, ◌≢◌, ℕ, suc, List, [], ◌∷◌, ◌++◌, length, flat_map, All}
use Rattle.grind_report_words.specs.declared.report.Report.{Report}
use Rattle.grind_report_words.specs.Words.{Words}
use Rattle.grind_report_words.specs.Steps.{State, Step, AtStart, Done, Reads}

-- the bytes of a line: its words with a space between two, and a line feed at the end
abbrev pub line_bytes : Words → List ℕ
line_bytes [] = 10 ∷ []
line_bytes (word ∷ words) = word ++ (flat_map (λ (other : List ℕ). 32 ∷ other) words ++ 10 ∷ [])

-- the bytes of lines
abbrev pub page_bytes : List Words → List ℕ
page_bytes page = flat_map line_bytes page

-- a word has no space and no line feed
abbrev pub IsSolid : List ℕ → Type 0
IsSolid word = All (λ byte. (byte ≢ 32) × (byte ≢ 10)) word

-- a line has words
pub record IsSolidLine (words : Words) : Type 0 where
  pub some : words ≢ []
  pub solid : All IsSolid words

-- the bytes begin with these lines, and more stands after them
pub record AreLinesOf (bytes : List ℕ) (page : List Words) (rest : List ℕ) : Type 0 where
  pub are : bytes ≡ page_bytes page ++ rest
  pub solid : All IsSolidLine page

-- the lines are a report
abbrev pub ArePage : List Words → Report → Type 0
ArePage page report = Reads AtStart page (Done report)

-- the bytes are this report
abbrev pub ReportOf : List ℕ → Report → Type 0
ReportOf bytes report = (page : List Words) × AreLinesOf bytes page [] × ArePage page report

-- the lines are the first ones of a report
abbrev pub BeginReport : List Words → Type 0
BeginReport page = (more : List Words) × (report : Report) × ArePage (page ++ more) report

-- the bytes have so many lines, each with its line feed, and the first ones, so many, begin a report
abbrev pub BeginsWith : List ℕ → ℕ → Type 0
BeginsWith bytes count =
    (page : List Words) × (rest : List ℕ) × AreLinesOf bytes page rest × (length page ≡ count) × BeginReport page

-- the bytes are no report, and the line of that number, counted from 1, is the first with which they do not begin one: it says
-- something else, is cut off, or is not there
pub record IsMalformedAt (bytes : List ℕ) (line : ℕ) : Type 0 where
  pub none : (report : Report) → ReportOf bytes report → ⊥
  pub before : (count : ℕ) × (line ≡ suc count) × BeginsWith bytes count
  pub here : BeginsWith bytes line → ⊥

-- reading stops after these lines: each of them takes a step, and what follows is neither a line that takes one nor the end of a
-- report
pub record StopsAfter (bytes : List ℕ) (page : List Words) (rest : List ℕ) (there : State) : Type 0 where
  pub lines : AreLinesOf bytes page rest
  pub reads : Reads AtStart page there
  pub no_step : (line : Words) (more : List ℕ) (next : State) → IsSolidLine line → rest ≡ line_bytes line ++ more
      → Step there line next → ⊥
  pub no_end : (report : Report) → there ≡ Done report → rest ≡ [] → ⊥
