-- Reading a report line by line: what is read so far, and which line may come next.
use Rattle.std.specs.Prelude.{◌≡◌, ℕ, zero, suc, ◌+◌, List, [], ◌∷◌, ◌++◌, length, None, codes, decimal, ◌⊎◌}
use Rattle.grind_schemes.specs.Labels.{IsLabel}
use Rattle.grind_claims.specs.declared.proof.Branch.{Branch}
use Rattle.grind_claims.specs.declared.proof.Line.{Line}
use Rattle.grind_report_words.specs.declared.term.RawTerm.{RawTerm}
use Rattle.grind_report_words.specs.declared.board.Evidence.TheVariants as evidence
use Rattle.grind_report_words.specs.declared.board.Reason.{Reason}
use Rattle.grind_report_words.specs.declared.board.RawBoard.{RawBoard}
use Rattle.grind_report_words.specs.declared.report.Block.{Block}
use Rattle.grind_report_words.specs.declared.report.Block.TheVariants as block
use Rattle.grind_report_words.specs.declared.report.Report.{Report}
use Rattle.grind_report_words.specs.Words.{Words, IsShort, IsRow}
use Rattle.grind_report_words.specs.Terms.{IsTerm}
use Rattle.grind_report_words.specs.Lines.{IsBranch, IsLine, IsPost}
use Rattle.grind_report_words.specs.Boards.{reason_word, AreGenerations, IsClass, AreCursors, IsBasis, AreValues, IsEntry, IsEvidence}

-- what the first line of a block says of its goal: a name, and that it is closed, or open for a reason
pub data Title : Type 0 where
  Closed : List ℕ → Title
  Open : List ℕ → Reason → Title

-- the board of a goal so far: what is not read yet is empty
pub record Unfinished : Type 0 where
  pub name : List ℕ
  pub reason : Reason
  pub board : RawBoard

-- what is read so far, after the blocks before: a number says how many more lines of the kind come
pub data State : Type 0 where
  -- nothing: the header comes
  AtStart : State
  -- whole blocks: the next block comes, or the end
  Between : List Block → State
  -- the line of a goal: the count of its terms comes
  AtTerms : List Block → Title → State
  -- some terms
  InTerms : List Block → Title → ℕ → List RawTerm → State
  -- the terms of a proof, and some branches
  InBranches : List Block → List ℕ → List RawTerm → ℕ → List Branch → State
  -- its terms and branches, and some lines
  InLines : List Block → List ℕ → List RawTerm → List Branch → ℕ → List Line → State
  -- a board as far as the generations: the count of the classes comes
  AtClasses : List Block → Unfinished → State
  -- some classes
  InClasses : List Block → Unfinished → ℕ → State
  -- some posts
  InPosts : List Block → Unfinished → ℕ → State
  -- the cursors: the basis comes
  AtBasis : List Block → Unfinished → State
  -- the basis: the values come
  AtValues : List Block → Unfinished → State
  -- the values: the count of the ledger comes
  AtLedger : List Block → Unfinished → State
  -- some of the ledger
  InLedger : List Block → Unfinished → ℕ → State
  -- the report
  Done : Report → State

-- the line is a title and a count
abbrev pub IsCount : Words → List ℕ → ℕ → Type 0
IsCount words title count = IsRow words title (count ∷ [])

-- the line is the number of an item and the item
pub record IsItem {A : Type 0} (IsOne : Words → A → Type 0) (words : Words) (number : ℕ) (item : A) : Type 0 where
  pub rest : Words
  pub are : words ≡ decimal number ∷ rest
  pub says : IsOne rest item

-- the lines of a proof: once none is left, the block is whole
abbrev pub lines_left : List Block → List ℕ → List RawTerm → List Branch → ℕ → List Line → State
lines_left blocks name terms branches zero lines =
    Between (blocks ++ block.Closed name (record { terms = terms; branches = branches; lines = lines }) ∷ [])
lines_left blocks name terms branches (suc left) lines = InLines blocks name terms branches left lines

-- a board of which only the terms are read
abbrev pub board_of : List RawTerm → RawBoard
board_of terms = record {
  terms = terms;
  generations = [];
  classes = [];
  posts = [];
  cursors = [];
  basis = [];
  values = None;
  ledger = [];
  evidence = evidence.Nothing;
}

-- the board of such a goal is this now
abbrev pub with_board : Unfinished → RawBoard → Unfinished
with_board it board = record it { board = board }

-- a line of that title counts what comes, and leads there
abbrev pub CountsTo : Words → List ℕ → (ℕ → State) → State → Type 0
CountsTo words title there next = (count : ℕ) × IsCount words title count × (next ≡ there count)

-- a line of that number says an item, and leads there
abbrev pub ItemTo : {A : Type 0} → (Words → A → Type 0) → Words → ℕ → (A → State) → State → Type 0
ItemTo {A} IsOne words number there next = (item : A) × IsItem IsOne words number item × (next ≡ there item)

-- a line says a value, and leads there
abbrev pub ValueTo : {A : Type 0} → (Words → A → Type 0) → Words → (A → State) → State → Type 0
ValueTo {A} IsOne words there next = (value : A) × IsOne words value × (next ≡ there value)

-- the first line of a block
pub data Begins (blocks : List Block) (words : Words) (next : State) : Type 0 where
  closed : (name : List ℕ) → words ≡ codes "goal" ∷ name ∷ codes "closed" ∷ [] → IsLabel name
      → next ≡ AtTerms blocks (Closed name) → Begins blocks words next
  opened : (name : List ℕ) (reason : Reason) → words ≡ codes "goal" ∷ name ∷ codes "open" ∷ reason_word reason ∷ [] → IsLabel name
      → next ≡ AtTerms blocks (Open name reason) → Begins blocks words next
  unexplored : (name : List ℕ) → words ≡ codes "goal" ∷ name ∷ codes "open" ∷ codes "unexplored" ∷ [] → IsLabel name
      → next ≡ Between (blocks ++ block.Unexplored name ∷ []) → Begins blocks words next

-- the report of these blocks
abbrev pub report_of : List Block → Report
report_of blocks = record { blocks = blocks }

-- the words after `evidence` end a block
abbrev pub EndsBoard : Words → List Block → Unfinished → State → Type 0
EndsBoard words blocks it next =
    (rest : Words) × (words ≡ codes "evidence" ∷ rest)
    × ValueTo IsEvidence rest (λ shown. Between
    (blocks ++ block.Unclosed it.name it.reason (record it.board { evidence = shown }) ∷ [])) next

-- from what is read so far the line leads to what is read then. The end counts the blocks; a block begins only where one more
-- can be counted
abbrev pub Step : State → Words → State → Type 0
Step AtStart words next = (words ≡ codes "grind" ∷ codes "report" ∷ codes "1" ∷ []) × (next ≡ Between [])
Step (Between blocks) words next =
    (Begins blocks words next × IsShort (length blocks + 1))
    ⊎ (IsCount words (codes "end") (length blocks) × (next ≡ Done (report_of blocks)))
Step (AtTerms blocks title) words next = CountsTo words (codes "terms") (λ count. InTerms blocks title count []) next
Step (InTerms blocks title (suc left) terms) words next =
    ItemTo IsTerm words (length terms) (λ term. InTerms blocks title left (terms ++ term ∷ [])) next
Step (InTerms blocks (Closed name) zero terms) words next =
    CountsTo words (codes "branches") (λ count. InBranches blocks name terms count []) next
Step (InTerms blocks (Open name reason) zero terms) words next =
    ValueTo (λ ws gs. AreGenerations ws (length terms) gs) words (λ generations. AtClasses blocks
    (record { name = name; reason = reason; board = record (board_of terms) { generations = generations } })) next
Step (InBranches blocks name terms (suc left) branches) words next =
    ItemTo IsBranch words (length branches + 1) (λ branch. InBranches blocks name terms left (branches ++ branch ∷ [])) next
Step (InBranches blocks name terms zero branches) words next =
    CountsTo words (codes "lines") (λ count. lines_left blocks name terms branches count []) next
Step (InLines blocks name terms branches left lines) words next =
    ItemTo IsLine words (length lines) (λ line. lines_left blocks name terms branches left (lines ++ line ∷ [])) next
Step (AtClasses blocks it) words next = CountsTo words (codes "classes") (λ count. InClasses blocks it count) next
Step (InClasses blocks it (suc left)) words next =
    ValueTo IsClass words
    (λ members. InClasses blocks (with_board it (record it.board { classes = it.board.classes ++ members ∷ [] })) left) next
Step (InClasses blocks it zero) words next = CountsTo words (codes "posts") (λ count. InPosts blocks it count) next
Step (InPosts blocks it (suc left)) words next =
    ItemTo IsPost words (length it.board.posts)
    (λ post. InPosts blocks (with_board it (record it.board { posts = it.board.posts ++ post ∷ [] })) left) next
Step (InPosts blocks it zero) words next =
    ValueTo AreCursors words (λ cursors. AtBasis blocks (with_board it (record it.board { cursors = cursors }))) next
Step (AtBasis blocks it) words next =
    ValueTo IsBasis words (λ basis. AtValues blocks (with_board it (record it.board { basis = basis }))) next
Step (AtValues blocks it) words next =
    ValueTo AreValues words (λ values. AtLedger blocks (with_board it (record it.board { values = values }))) next
Step (AtLedger blocks it) words next = CountsTo words (codes "ledger") (λ count. InLedger blocks it count) next
Step (InLedger blocks it (suc left)) words next =
    ValueTo IsEntry words
    (λ entry. InLedger blocks (with_board it (record it.board { ledger = it.board.ledger ++ entry ∷ [] })) left) next
Step (InLedger blocks it zero) words next = EndsBoard words blocks it next
Step (Done report) words next = ⊥

-- the lines lead from what is read so far to what is read then
abbrev pub Reads : State → List Words → State → Type 0
Reads from [] there = from ≡ there
Reads from (line ∷ page) there = (mid : State) × Step from line mid × Reads mid page there
