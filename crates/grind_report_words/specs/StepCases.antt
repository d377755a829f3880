-- Worked cases: lines that are read, and lines that are none.
use Rattle.std.specs.Prelude.{ℕ, ℤ, [], ◌∷◌, codes}
use Rattle.grind_claims.specs.declared.claim.Claim.TheVariants as claims
use Rattle.grind_claims.specs.declared.proof.Line.{Line}
use Rattle.grind_claims.specs.declared.proof.Rule.TheVariants as rules
use Rattle.grind_report_words.specs.declared.board.Post.{Post}
use Rattle.grind_report_words.specs.declared.board.Premise.TheVariants as cited
use Rattle.grind_report_words.specs.Words.{IsNatural, IsInteger}
use Rattle.grind_report_words.specs.Lines.{IsLine, IsPost}
use Rattle.grind_report_words.specs.Steps.{State, Between, Step, report_of}
use Rattle.grind_report_words.specs.Reports.{ArePage}

-- `grind report 1` and `end 0` are the report of no blocks
abbrev pub EmptyReport : Type 0
EmptyReport = ArePage
    ((codes "grind" ∷ codes "report" ∷ codes "1" ∷ []) ∷ (codes "end" ∷ codes "0" ∷ []) ∷ []) (report_of [])

-- a line of a proof by the rule `table`, of two free nodes and two premises
abbrev pub tabled : Line
tabled = record { branch = 2; rule = rules.Table (4 ∷ 6 ∷ []); premises = 0 ∷ 12 ∷ []; claim = claims.Holds 6 }

-- `2 table 2 4 6 0 12 : holds 6` says it
abbrev pub TableLine : Type 0
TableLine = IsLine
    (codes "2" ∷ codes "table" ∷ codes "2" ∷ codes "4" ∷ codes "6" ∷ codes "0" ∷ codes "12" ∷ codes ":" ∷ codes "holds" ∷ codes "6" ∷ [])
    tabled

-- a post by congruence, of two nodes that earlier posts have joined
abbrev pub congruent : Post
congruent = record { depth = 0; rule = rules.Cong; premises = cited.Pair 3 4 ∷ []; claim = claims.Same 5 6 }

-- `0 cong 3~4 : same 5 6` says it
abbrev pub PairOfNodes : Type 0
PairOfNodes = IsPost (codes "0" ∷ codes "cong" ∷ codes "3~4" ∷ codes ":" ∷ codes "same" ∷ codes "5" ∷ codes "6" ∷ []) congruent

-- `01` is no number
abbrev pub LeadingZero : Type 0
LeadingZero = (n : ℕ) → IsNatural (codes "01") n → ⊥

-- nor is `-0`
abbrev pub MinusZero : Type 0
MinusZero = (z : ℤ) → IsInteger (codes "-0") z → ⊥

-- after the header no terms are counted
abbrev pub TermsOfNoGoal : Type 0
TermsOfNoGoal = (next : State) → Step (Between []) (codes "terms" ∷ codes "5" ∷ []) next → ⊥
