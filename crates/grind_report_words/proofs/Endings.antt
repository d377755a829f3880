-- Each beginning of a report can be ended.
use Rattle.std.proofs.Common.{◌≡◌, ℕ, zero, suc, ◌+◌, List, [], ◌∷◌, ◌++◌, length, map, All, Option, None, decimal, refl, sym, ap, subst, inl, inr, arith, length-append}
use Rattle.std.specs.Prelude.{codes, ◌≢◌}
use Rattle.std.proofs.lemmas.List.Elements.{All-nil, All-cons, All-from_recursion}
use Rattle.grind_claims.specs.declared.claim.Claim.TheVariants as claims
use Rattle.grind_claims.specs.declared.proof.Branch.{Branch}
use Rattle.grind_claims.specs.declared.proof.Line.{Line}
use Rattle.grind_claims.specs.declared.proof.Rule.TheVariants as rules
use Rattle.grind_report_words.specs.declared.term.RawTerm.{RawTerm}
use Rattle.grind_report_words.specs.declared.term.RawTerm.TheVariants as raw
use Rattle.grind_report_words.specs.declared.board.Entry.{Entry}
use Rattle.grind_report_words.specs.declared.board.Evidence.TheVariants as evidence
use Rattle.grind_report_words.specs.declared.board.Post.{Post}
use Rattle.grind_report_words.specs.declared.report.Block.{Block}
use Rattle.grind_report_words.specs.declared.report.Block.TheVariants as block
use Rattle.grind_report_words.specs.declared.report.Report.{Report}
use Rattle.grind_report_words.specs.Words.{Words, IsShort, IsRow}
use Rattle.grind_report_words.specs.Terms.{IsTerm}
use Rattle.grind_report_words.specs.RuleRows.{premise_word, PremiseFits}
use Rattle.grind_report_words.specs.Lines.{IsBranch, IsCut, IsStep, IsLine, IsPost}
use Rattle.grind_report_words.specs.Boards.{generation_word, GenerationFits}
use Rattle.grind_report_words.specs.Steps.{Title, Closed, Open, Unfinished, State, AtStart, Between, AtTerms, InTerms, InBranches, InLines, AtClasses, InClasses, InPosts, AtBasis, AtValues, AtLedger, InLedger, Done, IsItem, lines_left, board_of, with_board, Begins, closed, opened, unexplored, report_of, Step, Reads}
use Rattle.grind_report_words.specs.Laws.{BeginningsEnd}

-- from there lines lead to a report
abbrev Ends : State → Type 0
Ends from = (page : List Words) × (report : Report) × Reads from page (Done report)

step_ends : (from mid : State) (line : Words) → Step from line mid → Ends mid → Ends from
step_ends from mid line step (page, report, reads) = (line ∷ page, report, (mid, step, reads))

-- there is room for the block in hand
abbrev HasRoom : State → Type 0
HasRoom AtStart = Unit {0}
HasRoom (Between blocks) = IsShort (length blocks)
HasRoom (AtTerms blocks title) = IsShort (length blocks + 1)
HasRoom (InTerms blocks title left terms) = IsShort (length blocks + 1)
HasRoom (InBranches blocks name terms left branches) = IsShort (length blocks + 1)
HasRoom (InLines blocks name terms branches left lines) = IsShort (length blocks + 1)
HasRoom (AtClasses blocks it) = IsShort (length blocks + 1)
HasRoom (InClasses blocks it left) = IsShort (length blocks + 1)
HasRoom (InPosts blocks it left) = IsShort (length blocks + 1)
HasRoom (AtBasis blocks it) = IsShort (length blocks + 1)
HasRoom (AtValues blocks it) = IsShort (length blocks + 1)
HasRoom (AtLedger blocks it) = IsShort (length blocks + 1)
HasRoom (InLedger blocks it left) = IsShort (length blocks + 1)
HasRoom (Done report) = Unit {0}

-- ---- the room stays

one_more : (blocks : List Block) (it : Block) → IsShort (length blocks + 1) → HasRoom (Between (blocks ++ it ∷ []))
one_more blocks it room = let e : length (blocks ++ it ∷ []) ≡ length blocks + 1 = length-append blocks (it ∷ []) in omega (arith, e, room)

room_of_lines : (blocks : List Block) (name : List ℕ) (terms : List RawTerm) (branches : List Branch) (left : ℕ) (lines : List Line)
    → IsShort (length blocks + 1) → HasRoom (lines_left blocks name terms branches left lines)
room_of_lines blocks name terms branches zero lines room =
    one_more blocks (block.Closed name (record { terms = terms; branches = branches; lines = lines })) room
room_of_lines blocks name terms branches (suc left) lines room = room

at_there : {there next : State} → next ≡ there → HasRoom there → HasRoom next
at_there {there} {next} e room = subst HasRoom (sym e) room

begins_room : (blocks : List Block) (words : Words) (next : State) → Begins blocks words next → IsShort (length blocks + 1) → HasRoom next
begins_room blocks words next (closed name is label e) room = at_there e room
begins_room blocks words next (opened name reason is label e) room = at_there e room
begins_room blocks words next (unexplored name is label e) room = at_there e (one_more blocks (block.Unexplored name) room)

zero_short : IsShort 0
zero_short = omega arith

room_step : (from next : State) (words : Words) → HasRoom from → Step from words next → HasRoom next
room_step AtStart next words room step = at_there step.1 zero_short
room_step (Between blocks) next words room (inl step) = begins_room blocks words next step.0 step.1
room_step (Between blocks) next words room (inr step) = at_there step.1 tt
room_step (AtTerms blocks title) next words room step = at_there step.2 room
room_step (InTerms blocks title (suc left) terms) next words room step = at_there step.2 room
room_step (InTerms blocks (Closed name) zero terms) next words room step = at_there step.2 room
room_step (InTerms blocks (Open name reason) zero terms) next words room step = at_there step.2 room
room_step (InBranches blocks name terms (suc left) branches) next words room step = at_there step.2 room
room_step (InBranches blocks name terms zero branches) next words room step =
    at_there step.2 (room_of_lines blocks name terms branches step.0 [] room)
room_step (InLines blocks name terms branches left lines) next words room step =
    at_there step.2 (room_of_lines blocks name terms branches left (lines ++ step.0 ∷ []) room)
room_step (AtClasses blocks it) next words room step = at_there step.2 room
room_step (InClasses blocks it (suc left)) next words room step = at_there step.2 room
room_step (InClasses blocks it zero) next words room step = at_there step.2 room
room_step (InPosts blocks it (suc left)) next words room step = at_there step.2 room
room_step (InPosts blocks it zero) next words room step = at_there step.2 room
room_step (AtBasis blocks it) next words room step = at_there step.2 room
room_step (AtValues blocks it) next words room step = at_there step.2 room
room_step (AtLedger blocks it) next words room step = at_there step.2 room
room_step (InLedger blocks it (suc left)) next words room step = at_there step.2 room
room_step (InLedger blocks it zero) next words room step =
    at_there step.2.2 (one_more blocks (block.Unclosed it.name it.reason (record it.board { evidence = step.2.0 })) room)
room_step (Done report) next words room step = elim step [ ]

room_reads : (page : List Words) (from there : State) → HasRoom from → Reads from page there → HasRoom there
room_reads [] from there room e = subst HasRoom e room
room_reads (line ∷ page) from there room (mid, step, rest) = room_reads page mid there (room_step from mid line room step) rest

-- ---- lines that end what is begun

no_numbers : All IsShort []
no_numbers = All-nil IsShort

one_zero : All IsShort (0 ∷ [])
one_zero = All-cons IsShort 0 [] zero_short no_numbers

count_of : (title : List ℕ) → IsRow (title ∷ decimal 0 ∷ []) title (0 ∷ [])
count_of title = (refl, one_zero)

ends_between : (blocks : List Block) → IsShort (length blocks) → Ends (Between blocks)
ends_between blocks room = (
  (codes "end" ∷ decimal (length blocks) ∷ []) ∷ [],
  report_of blocks,
  (Done (report_of blocks), inr ((refl, All-cons IsShort (length blocks) [] room no_numbers), refl), refl),
)

-- the line of the rule `negated` that claims a contradiction
abbrev short_line : Line
short_line = record { branch = 0; rule = rules.Negated; premises = []; claim = claims.Absurd }

abbrev short_words : Words
short_words = codes "negated" ∷ codes ":" ∷ codes "absurd" ∷ []

no_colon_here : codes "negated" ≢ codes ":"
no_colon_here e = absurd (cc e)

short_cut : IsCut short_words (codes "negated" ∷ []) (codes "absurd" ∷ [])
short_cut = record {
  are = refl;
  first = All-cons (λ (word : List ℕ). word ≢ codes ":") (codes "negated") [] no_colon_here (All-nil (λ (word : List ℕ). word ≢ codes ":"));
}

short_step : {P : Type 0} (word : P → List ℕ) (Fits : P → Type 0) → IsStep word Fits short_words rules.Negated [] claims.Absurd
short_step word Fits = record {
  before = codes "negated" ∷ [];
  after = codes "absurd" ∷ [];
  cut = short_cut;
  rule_is = ((refl, All-nil Fits), refl);
  says = (refl, no_numbers);
}

ends_lines_left : (blocks : List Block) (name : List ℕ) (terms : List RawTerm) (branches : List Branch) (left : ℕ) (lines : List Line)
    → IsShort (length blocks + 1) → Ends (lines_left blocks name terms branches left lines)
ends_lines_left blocks name terms branches zero lines room =
    let it : Block = block.Closed name (record { terms = terms; branches = branches; lines = lines }) in
    ends_between (blocks ++ it ∷ []) (one_more blocks it room)
ends_lines_left blocks name terms branches (suc left) lines room =
    let item : IsItem IsLine (decimal (length lines) ∷ decimal 0 ∷ short_words) (length lines) short_line = record {
      rest = decimal 0 ∷ short_words;
      are = refl;
      says = record { step = short_words; are = refl; branch = zero_short; says = short_step decimal IsShort };
    } in
    step_ends (InLines blocks name terms branches left lines) (lines_left blocks name terms branches left (lines ++ short_line ∷ []))
    (decimal (length lines) ∷ decimal 0 ∷ short_words) (short_line, item, refl)
    (ends_lines_left blocks name terms branches left (lines ++ short_line ∷ []) room)

abbrev short_branch : Branch
short_branch = record { parent = 0; after = 0; literal = claims.Absurd }

ends_branches : (blocks : List Block) (name : List ℕ) (terms : List RawTerm) (left : ℕ) (branches : List Branch)
    → IsShort (length blocks + 1) → Ends (InBranches blocks name terms left branches)
ends_branches blocks name terms zero branches room =
    step_ends (InBranches blocks name terms zero branches) (lines_left blocks name terms branches 0 []) (codes "lines" ∷ decimal 0 ∷ [])
    (0, count_of (codes "lines"), refl) (ends_lines_left blocks name terms branches 0 [] room)
ends_branches blocks name terms (suc left) branches room =
    let rest : Words = decimal 0 ∷ decimal 0 ∷ codes "absurd" ∷ [] in
    let item : IsItem IsBranch (decimal (length branches + 1) ∷ rest) (length branches + 1) short_branch = record {
      rest = rest;
      are = refl;
      says = record { claim = codes "absurd" ∷ []; are = refl; parent = zero_short; after = zero_short; says = (refl, no_numbers) };
    } in
    step_ends (InBranches blocks name terms (suc left) branches) (InBranches blocks name terms left (branches ++ short_branch ∷ []))
    (decimal (length branches + 1) ∷ rest) (short_branch, item, refl)
    (ends_branches blocks name terms left (branches ++ short_branch ∷ []) room)

ends_ledger : (blocks : List Block) (it : Unfinished) (left : ℕ) → IsShort (length blocks + 1) → Ends (InLedger blocks it left)
ends_ledger blocks it zero room =
    let whole : Block = block.Unclosed it.name it.reason (record it.board { evidence = evidence.Nothing }) in
    step_ends (InLedger blocks it zero) (Between (blocks ++ whole ∷ [])) (codes "evidence" ∷ codes "none" ∷ [])
    (codes "none" ∷ [], refl, (evidence.Nothing, (refl, no_numbers), refl)) (ends_between (blocks ++ whole ∷ []) (one_more blocks whole room))
ends_ledger blocks it (suc left) room =
    let entry : Entry = record { theorem = 0; subst = [] } in
    let next : Unfinished = with_board it (record it.board { ledger = it.board.ledger ++ entry ∷ [] }) in
    step_ends (InLedger blocks it (suc left)) (InLedger blocks next left) (decimal 0 ∷ [])
    (entry, record { are = refl; fit = one_zero }, refl) (ends_ledger blocks next left room)

ends_at_ledger : (blocks : List Block) (it : Unfinished) → IsShort (length blocks + 1) → Ends (AtLedger blocks it)
ends_at_ledger blocks it room =
    step_ends (AtLedger blocks it) (InLedger blocks it 0) (codes "ledger" ∷ decimal 0 ∷ []) (0, count_of (codes "ledger"), refl) (ends_ledger blocks it 0 room)

ends_values : (blocks : List Block) (it : Unfinished) → IsShort (length blocks + 1) → Ends (AtValues blocks it)
ends_values blocks it room =
    let next : Unfinished = with_board it (record it.board { values = None }) in
    step_ends (AtValues blocks it) (AtLedger blocks next) (codes "values" ∷ codes "none" ∷ []) (None, refl, refl) (ends_at_ledger blocks next room)

ends_basis : (blocks : List Block) (it : Unfinished) → IsShort (length blocks + 1) → Ends (AtBasis blocks it)
ends_basis blocks it room =
    let next : Unfinished = with_board it (record it.board { basis = [] }) in
    step_ends (AtBasis blocks it) (AtValues blocks next) (codes "basis" ∷ decimal 0 ∷ [])
    ([], record { are = (refl, one_zero) }, refl) (ends_values blocks next room)

abbrev no_cursors : List ℕ
no_cursors = 0 ∷ 0 ∷ 0 ∷ 0 ∷ 0 ∷ []

ends_posts : (blocks : List Block) (it : Unfinished) (left : ℕ) → IsShort (length blocks + 1) → Ends (InPosts blocks it left)
ends_posts blocks it zero room =
    let next : Unfinished = with_board it (record it.board { cursors = no_cursors }) in
    let fit : All IsShort no_cursors = All-from_recursion IsShort no_cursors (zero_short, (zero_short, (zero_short, (zero_short, (zero_short, tt))))) in
    step_ends (InPosts blocks it zero) (AtBasis blocks next) (codes "cursors" ∷ map decimal no_cursors)
    (no_cursors, record { are = (refl, fit); five = refl }, refl) (ends_basis blocks next room)
ends_posts blocks it (suc left) room =
    let post : Post = record { depth = 0; rule = rules.Negated; premises = []; claim = claims.Absurd } in
    let number : ℕ = length it.board.posts in
    let item : IsItem IsPost (decimal number ∷ decimal 0 ∷ short_words) number post = record {
      rest = decimal 0 ∷ short_words;
      are = refl;
      says = record { step = short_words; are = refl; depth = zero_short; says = short_step premise_word PremiseFits };
    } in
    let next : Unfinished = with_board it (record it.board { posts = it.board.posts ++ post ∷ [] }) in
    step_ends (InPosts blocks it (suc left)) (InPosts blocks next left) (decimal number ∷ decimal 0 ∷ short_words)
    (post, item, refl) (ends_posts blocks next left room)

ends_classes : (blocks : List Block) (it : Unfinished) (left : ℕ) → IsShort (length blocks + 1) → Ends (InClasses blocks it left)
ends_classes blocks it zero room =
    step_ends (InClasses blocks it zero) (InPosts blocks it 0) (codes "posts" ∷ decimal 0 ∷ []) (0, count_of (codes "posts"), refl) (ends_posts blocks it 0 room)
ends_classes blocks it (suc left) room =
    let next : Unfinished = with_board it (record it.board { classes = it.board.classes ++ (0 ∷ []) ∷ [] }) in
    step_ends (InClasses blocks it (suc left)) (InClasses blocks next left) (decimal 0 ∷ [])
    (0 ∷ [], record { are = refl; fit = one_zero; some = λ e. absurd (cc e) }, refl) (ends_classes blocks next left room)

ends_at_classes : (blocks : List Block) (it : Unfinished) → IsShort (length blocks + 1) → Ends (AtClasses blocks it)
ends_at_classes blocks it room =
    step_ends (AtClasses blocks it) (InClasses blocks it 0) (codes "classes" ∷ decimal 0 ∷ []) (0, count_of (codes "classes"), refl) (ends_classes blocks it 0 room)

-- so many terms that are not active
abbrev inactive : List RawTerm → List (Option ℕ)
inactive [] = []
inactive (term ∷ terms) = None ∷ inactive terms

inactive_fit : (terms : List RawTerm) → All GenerationFits (inactive terms)
inactive_fit [] = All-nil GenerationFits
inactive_fit (term ∷ terms) = All-cons GenerationFits None (inactive terms) tt (inactive_fit terms)

inactive_each : (terms : List RawTerm) → length (inactive terms) ≡ length terms
inactive_each [] = refl
inactive_each (term ∷ terms) = ap suc (inactive_each terms)

ends_terms : (blocks : List Block) (title : Title) (left : ℕ) (terms : List RawTerm) → IsShort (length blocks + 1) → Ends (InTerms blocks title left terms)
ends_terms blocks title (suc left) terms room =
    let item : IsItem IsTerm (decimal (length terms) ∷ codes "true" ∷ []) (length terms) raw.True = record {
      rest = codes "true" ∷ [];
      are = refl;
      says = (refl, no_numbers);
    } in
    step_ends (InTerms blocks title (suc left) terms) (InTerms blocks title left (terms ++ raw.True ∷ [])) (decimal (length terms) ∷ codes "true" ∷ [])
    (raw.True, item, refl) (ends_terms blocks title left (terms ++ raw.True ∷ []) room)
ends_terms blocks (Closed name) zero terms room =
    step_ends (InTerms blocks (Closed name) zero terms) (InBranches blocks name terms 0 []) (codes "branches" ∷ decimal 0 ∷ [])
    (0, count_of (codes "branches"), refl) (ends_branches blocks name terms 0 [] room)
ends_terms blocks (Open name reason) zero terms room =
    let next : Unfinished = record { name = name; reason = reason; board = record (board_of terms) { generations = inactive terms } } in
    step_ends (InTerms blocks (Open name reason) zero terms) (AtClasses blocks next) (codes "generations" ∷ map generation_word (inactive terms))
    (inactive terms, record { are = refl; fit = inactive_fit terms; each = inactive_each terms }, refl) (ends_at_classes blocks next room)

all_end : (from : State) → HasRoom from → Ends from
all_end AtStart room =
    step_ends AtStart (Between []) (codes "grind" ∷ codes "report" ∷ codes "1" ∷ []) (refl, refl) (ends_between [] zero_short)
all_end (Between blocks) room = ends_between blocks room
all_end (AtTerms blocks title) room =
    step_ends (AtTerms blocks title) (InTerms blocks title 0 []) (codes "terms" ∷ decimal 0 ∷ []) (0, count_of (codes "terms"), refl) (ends_terms blocks title 0 [] room)
all_end (InTerms blocks title left terms) room = ends_terms blocks title left terms room
all_end (InBranches blocks name terms left branches) room = ends_branches blocks name terms left branches room
all_end (InLines blocks name terms branches left lines) room = ends_lines_left blocks name terms branches (suc left) lines room
all_end (AtClasses blocks it) room = ends_at_classes blocks it room
all_end (InClasses blocks it left) room = ends_classes blocks it left room
all_end (InPosts blocks it left) room = ends_posts blocks it left room
all_end (AtBasis blocks it) room = ends_basis blocks it room
all_end (AtValues blocks it) room = ends_values blocks it room
all_end (AtLedger blocks it) room = ends_at_ledger blocks it room
all_end (InLedger blocks it left) room = ends_ledger blocks it left room
all_end (Done report) room = ([], report, refl)

-- ---- lines one after the other

pub parted : (page more : List Words) (from there : State) → Reads from (page ++ more) there → (mid : State) × Reads from page mid × Reads mid more there
parted [] more from there reads = (from, refl, reads)
parted (line ∷ page) more from there (mid, step, rest) =
    let inside = parted page more mid there rest in (inside.0, (mid, step, inside.1), inside.2)

joined : (page more : List Words) (from mid there : State) → Reads from page mid → Reads mid more there → Reads from (page ++ more) there
joined [] more from mid there e rest = subst (λ (s : State). Reads s more there) (sym e) rest
joined (line ∷ page) more from mid there (next, step, inside) rest = (next, step, joined page more next mid there inside rest)

-- lines begin a report exactly where each takes a step
pub beginnings_end : BeginningsEnd
beginnings_end page = (
  λ (more, report, reads). let inside = parted page more AtStart (Done report) reads in (inside.0, inside.1),
  λ (there, reads).
      let end = all_end there (room_reads page AtStart there tt reads) in
      (end.0, end.1, joined page end.0 AtStart there (Done end.1) reads end.2),
)
