-- A line leads to one end at most.
use Rattle.std.proofs.Common.{◌≡◌, ℕ, zero, suc, ◌+◌, Bool, true, false, cond, List, [], ◌∷◌, ◌++◌, length, decimal, refl, sym, ap, ◌∙◌, subst, inl, inr}
use Rattle.std.specs.Prelude.{codes, bytes_eq}
use Rattle.grind_report_words.specs.declared.board.Evidence.{Evidence}
use Rattle.grind_report_words.specs.declared.board.Reason.{Reason}
use Rattle.grind_report_words.specs.declared.board.Reason.TheVariants as reasons
use Rattle.grind_report_words.specs.declared.report.Block.{Block}
use Rattle.grind_report_words.specs.declared.report.Block.TheVariants as block
use Rattle.grind_report_words.specs.Words.{Words}
use Rattle.grind_report_words.specs.Terms.{IsTerm}
use Rattle.grind_report_words.specs.Lines.{IsBranch, IsLine, IsPost}
use Rattle.grind_report_words.specs.Boards.{reason_word, AreGenerations, IsClass, AreCursors, IsBasis, AreValues, IsEntry, IsEvidence}
use Rattle.grind_report_words.specs.Steps.{Closed, Open, Unfinished, State, AtStart, Between, AtTerms, InTerms, InBranches, InLines, AtClasses, InClasses, InPosts, AtBasis, AtValues, AtLedger, InLedger, Done, lines_left, board_of, with_board, CountsTo, ItemTo, ValueTo, Begins, closed, opened, unexplored, EndsBoard, Reads}
use Rattle.grind_report_words.proofs.NumberSpelling.{first_is, rest_is, first_of}
use Rattle.grind_report_words.proofs.ItemLemmas.{one_term, one_evidence}
use Rattle.grind_report_words.proofs.LineLemmas.{one_branch, one_line, one_post}
use Rattle.grind_report_words.proofs.BoardLemmas.{one_count, one_generations, one_class, one_cursors, one_basis, one_values, one_entry}
use Rattle.grind_report_words.specs.Laws.{OneStep}

counts_to : (words : Words) (title : List ℕ) (there : ℕ → State) (one other : State) → CountsTo words title there one → CountsTo words title there other → one ≡ other
counts_to words title there one other (m, is_m, e) (n, is_n, f) = e ∙ ap there (one_count words title m n is_m is_n) ∙ sym f

value_to : {A : Type 0} (IsOne : Words → A → Type 0) (unique : (words : Words) (a b : A) → IsOne words a → IsOne words b → a ≡ b) (words : Words) (there : A → State)
    (one other : State) → ValueTo IsOne words there one → ValueTo IsOne words there other → one ≡ other
value_to IsOne unique words there one other (a, is_a, e) (b, is_b, f) = e ∙ ap there (unique words a b is_a is_b) ∙ sym f

item_to : {A : Type 0} (IsOne : Words → A → Type 0) (unique : (words : Words) (a b : A) → IsOne words a → IsOne words b → a ≡ b) (words : Words) (number : ℕ)
    (there : A → State) (one other : State) → ItemTo IsOne words number there one → ItemTo IsOne words number there other → one ≡ other
item_to IsOne unique words number there one other (a, is_a, e) (b, is_b, f) =
    let rest : is_a.rest ≡ is_b.rest = rest_is (decimal number) (decimal number) is_a.rest is_b.rest (sym is_a.are ∙ is_b.are) in
    e ∙ ap there (unique is_b.rest a b (subst (λ (ws : Words). IsOne ws a) rest is_a.says) is_b.says) ∙ sym f

-- the reason of that word
reason_from : List ℕ → Reason
reason_from word =
    cond (bytes_eq word (codes "instances")) reasons.Instances (cond (bytes_eq word (codes "coefficient")) reasons.Coefficient
    (cond (bytes_eq word (codes "cuts")) reasons.Cuts (cond (bytes_eq word (codes "pairs")) reasons.Pairs
    (cond (bytes_eq word (codes "splits")) reasons.Splits (cond (bytes_eq word (codes "generation")) reasons.Generation reasons.Saturated)))))

reason_back : (reason : Reason) → reason_from (reason_word reason) ≡ reason
unfolding reason_from
reason_back reasons.Instances = refl
reason_back reasons.Coefficient = refl
reason_back reasons.Cuts = refl
reason_back reasons.Pairs = refl
reason_back reasons.Splits = refl
reason_back reasons.Generation = refl
reason_back reasons.Saturated = refl

one_reason : (a b : Reason) → reason_word a ≡ reason_word b → a ≡ b
one_reason a b e = sym (reason_back a) ∙ ap reason_from e ∙ reason_back b

-- which words are reasons
is_reason : List ℕ → Bool
is_reason word =
    cond (bytes_eq word (codes "instances")) true (cond (bytes_eq word (codes "coefficient")) true (cond (bytes_eq word (codes "cuts")) true
    (cond (bytes_eq word (codes "pairs")) true (cond (bytes_eq word (codes "splits")) true (cond (bytes_eq word (codes "generation")) true
    (bytes_eq word (codes "saturated")))))))

reason_is : (reason : Reason) → is_reason (reason_word reason) ≡ true
unfolding is_reason
reason_is reasons.Instances = refl
reason_is reasons.Coefficient = refl
reason_is reasons.Cuts = refl
reason_is reasons.Pairs = refl
reason_is reasons.Splits = refl
reason_is reasons.Generation = refl
reason_is reasons.Saturated = refl

unexplored_is_none : is_reason (codes "unexplored") ≡ false
unfolding is_reason
unexplored_is_none = refl

no_reason : (reason : Reason) → reason_word reason ≡ codes "unexplored" → ⊥
no_reason reason e =
    let both : true ≡ false = sym (reason_is reason) ∙ ap is_reason e ∙ unexplored_is_none in
    absurd cc

second_word : (a x y : List ℕ) (xs ys : Words) → a ∷ x ∷ xs ≡ a ∷ y ∷ ys → x ≡ y
second_word a x y xs ys e = cc

after_two : (a x y : List ℕ) (xs ys : Words) → a ∷ x ∷ xs ≡ a ∷ y ∷ ys → xs ≡ ys
after_two a x y xs ys e = cc

third_word : (x y : List ℕ) → x ∷ [] ≡ y ∷ [] → x ≡ y
third_word x y e = cc

closed_open : (xs : Words) → codes "closed" ∷ [] ≡ codes "open" ∷ xs → ⊥
closed_open xs e = let both : codes "closed" ≡ codes "open" = first_is (codes "closed") (codes "open") [] xs e in absurd (cc both)

begins_once : (blocks : List Block) (words : Words) (one other : State) → Begins blocks words one → Begins blocks words other → one ≡ other
begins_once blocks words one other (closed m is_m label_m e) (closed n is_n label_n f) =
    let name : m ≡ n = second_word (codes "goal") m n (codes "closed" ∷ []) (codes "closed" ∷ []) (sym is_m ∙ is_n) in
    e ∙ ap (λ (x : List ℕ). AtTerms blocks (Closed x)) name ∙ sym f
begins_once blocks words one other (opened m r is_m label_m e) (opened n s is_n label_n f) =
    let both : codes "goal" ∷ m ∷ codes "open" ∷ reason_word r ∷ [] ≡ codes "goal" ∷ n ∷ codes "open" ∷ reason_word s ∷ [] = sym is_m ∙ is_n in
    let name : m ≡ n = second_word (codes "goal") m n (codes "open" ∷ reason_word r ∷ []) (codes "open" ∷ reason_word s ∷ []) both in
    let tail = after_two (codes "goal") m n (codes "open" ∷ reason_word r ∷ []) (codes "open" ∷ reason_word s ∷ []) both in
    let reason : r ≡ s = one_reason r s (third_word (reason_word r) (reason_word s)
    (rest_is (codes "open") (codes "open") (reason_word r ∷ []) (reason_word s ∷ []) tail)) in
    e ∙ ap (λ (x : List ℕ). AtTerms blocks (Open x r)) name ∙ ap (λ (x : Reason). AtTerms blocks (Open n x)) reason ∙ sym f
begins_once blocks words one other (unexplored m is_m label_m e) (unexplored n is_n label_n f) =
    let name : m ≡ n = second_word (codes "goal") m n (codes "open" ∷ codes "unexplored" ∷ []) (codes "open" ∷ codes "unexplored" ∷ []) (sym is_m ∙ is_n) in
    e ∙ ap (λ (x : List ℕ). Between (blocks ++ block.Unexplored x ∷ [])) name ∙ sym f
begins_once blocks words one other (closed m is_m label_m e) (opened n s is_n label_n f) =
    absurd (closed_open (reason_word s ∷ []) (after_two (codes "goal") m n (codes "closed" ∷ []) (codes "open" ∷ reason_word s ∷ []) (sym is_m ∙ is_n)))
begins_once blocks words one other (opened m r is_m label_m e) (closed n is_n label_n f) =
    absurd (closed_open (reason_word r ∷ []) (after_two (codes "goal") n m (codes "closed" ∷ []) (codes "open" ∷ reason_word r ∷ []) (sym is_n ∙ is_m)))
begins_once blocks words one other (closed m is_m label_m e) (unexplored n is_n label_n f) =
    absurd (closed_open (codes "unexplored" ∷ []) (after_two (codes "goal") m n (codes "closed" ∷ []) (codes "open" ∷ codes "unexplored" ∷ []) (sym is_m ∙ is_n)))
begins_once blocks words one other (unexplored m is_m label_m e) (closed n is_n label_n f) =
    absurd (closed_open (codes "unexplored" ∷ []) (after_two (codes "goal") n m (codes "closed" ∷ []) (codes "open" ∷ codes "unexplored" ∷ []) (sym is_n ∙ is_m)))
begins_once blocks words one other (opened m r is_m label_m e) (unexplored n is_n label_n f) =
    let tail = after_two (codes "goal") m n (codes "open" ∷ reason_word r ∷ []) (codes "open" ∷ codes "unexplored" ∷ []) (sym is_m ∙ is_n) in
    absurd (no_reason r (third_word (reason_word r) (codes "unexplored")
    (rest_is (codes "open") (codes "open") (reason_word r ∷ []) (codes "unexplored" ∷ []) tail)))
begins_once blocks words one other (unexplored m is_m label_m e) (opened n s is_n label_n f) =
    let tail = after_two (codes "goal") n m (codes "open" ∷ reason_word s ∷ []) (codes "open" ∷ codes "unexplored" ∷ []) (sym is_n ∙ is_m) in
    absurd (no_reason s (third_word (reason_word s) (codes "unexplored")
    (rest_is (codes "open") (codes "open") (reason_word s ∷ []) (codes "unexplored" ∷ []) tail)))

pub begins_goal : (blocks : List Block) (words : Words) (next : State) → Begins blocks words next → first_of words ≡ codes "goal"
begins_goal blocks words next (closed name is label e) = ap first_of is
begins_goal blocks words next (opened name reason is label e) = ap first_of is
begins_goal blocks words next (unexplored name is label e) = ap first_of is

goal_end : (word : List ℕ) → word ≡ codes "goal" → word ≡ codes "end" → ⊥
goal_end word e f = let both : codes "goal" ≡ codes "end" = sym e ∙ f in absurd (cc both)

ends_board : (words : Words) (blocks : List Block) (goal : Unfinished) (one other : State) → EndsBoard words blocks goal one
    → EndsBoard words blocks goal other → one ≡ other
ends_board words blocks goal one other (xs, e, to_one) (ys, f, to_other) =
    let rest : xs ≡ ys = rest_is (codes "evidence") (codes "evidence") xs ys (sym e ∙ f) in
    let there : Evidence → State = λ shown. Between
    (blocks ++ block.Unclosed goal.name goal.reason (record goal.board { evidence = shown }) ∷ []) in
    value_to IsEvidence one_evidence ys there one other
    (subst (λ (ws : Words). ValueTo IsEvidence ws there one) rest to_one) to_other

pub one_step : OneStep
one_step AtStart one other words a b = a.1 ∙ sym b.1
one_step (Between blocks) one other words (inl a) (inl b) = begins_once blocks words one other a.0 b.0
one_step (Between blocks) one other words (inl a) (inr b) = absurd (goal_end (first_of words) (begins_goal blocks words one a.0) (ap first_of b.0.0))
one_step (Between blocks) one other words (inr a) (inl b) = absurd (goal_end (first_of words) (begins_goal blocks words other b.0) (ap first_of a.0.0))
one_step (Between blocks) one other words (inr a) (inr b) = a.1 ∙ sym b.1
one_step (AtTerms blocks title) one other words a b = counts_to words (codes "terms") (λ count. InTerms blocks title count []) one other a b
one_step (InTerms blocks title (suc left) terms) one other words a b =
    item_to IsTerm one_term words (length terms) (λ term. InTerms blocks title left (terms ++ term ∷ [])) one other a b
one_step (InTerms blocks (Closed name) zero terms) one other words a b =
    counts_to words (codes "branches") (λ count. InBranches blocks name terms count []) one other a b
one_step (InTerms blocks (Open name reason) zero terms) one other words a b =
    value_to (λ ws gs. AreGenerations ws (length terms) gs) (λ ws xs ys. one_generations ws (length terms) xs ys) words
    (λ generations. AtClasses blocks (record { name = name; reason = reason; board = record (board_of terms) { generations = generations } })) one other a b
one_step (InBranches blocks name terms (suc left) branches) one other words a b =
    item_to IsBranch one_branch words (length branches + 1) (λ branch. InBranches blocks name terms left (branches ++ branch ∷ [])) one other a b
one_step (InBranches blocks name terms zero branches) one other words a b =
    counts_to words (codes "lines") (λ count. lines_left blocks name terms branches count []) one other a b
one_step (InLines blocks name terms branches left lines) one other words a b =
    item_to IsLine one_line words (length lines) (λ line. lines_left blocks name terms branches left (lines ++ line ∷ [])) one other a b
one_step (AtClasses blocks it) one other words a b = counts_to words (codes "classes") (λ count. InClasses blocks it count) one other a b
one_step (InClasses blocks it (suc left)) one other words a b =
    value_to IsClass one_class words
    (λ members. InClasses blocks (with_board it (record it.board { classes = it.board.classes ++ members ∷ [] })) left) one other a b
one_step (InClasses blocks it zero) one other words a b = counts_to words (codes "posts") (λ count. InPosts blocks it count) one other a b
one_step (InPosts blocks it (suc left)) one other words a b =
    item_to IsPost one_post words (length it.board.posts)
    (λ post. InPosts blocks (with_board it (record it.board { posts = it.board.posts ++ post ∷ [] })) left) one other a b
one_step (InPosts blocks it zero) one other words a b =
    value_to AreCursors one_cursors words (λ cursors. AtBasis blocks (with_board it (record it.board { cursors = cursors }))) one other a b
one_step (AtBasis blocks it) one other words a b =
    value_to IsBasis one_basis words (λ basis. AtValues blocks (with_board it (record it.board { basis = basis }))) one other a b
one_step (AtValues blocks it) one other words a b =
    value_to AreValues one_values words (λ values. AtLedger blocks (with_board it (record it.board { values = values }))) one other a b
one_step (AtLedger blocks it) one other words a b = counts_to words (codes "ledger") (λ count. InLedger blocks it count) one other a b
one_step (InLedger blocks it (suc left)) one other words a b =
    value_to IsEntry one_entry words
    (λ entry. InLedger blocks (with_board it (record it.board { ledger = it.board.ledger ++ entry ∷ [] })) left) one other a b
one_step (InLedger blocks it zero) one other words a b = ends_board words blocks it one other a b
one_step (Done report) one other words a b = elim a [ ]

-- so do lines
pub one_end : (page : List Words) (from one other : State) → Reads from page one → Reads from page other → one ≡ other
one_end [] from one other a b = sym a ∙ b
one_end (line ∷ page) from one other (mid, step, rest) (mid_b, step_b, rest_b) =
    let same : mid ≡ mid_b = one_step from mid mid_b line step step_b in
    one_end page mid_b one other (subst (λ (s : State). Reads s page one) same rest) rest_b
