-- Which nodes are marked.
use Rattle.std.proofs.Common.{◌≡◌, ◌⊎◌, inl, inr, ℕ, zero, suc, ◌+◌, ◌≤◌, ◌<◌, Bool, true, false, List, [], ◌∷◌, ◌++◌, length, Some, slice_get, slice_set, slice_index_or, All, Contains, arith, sym, ap, ◌∙◌, refl, subst}
use Rattle.std.proofs.lemmas.Bool.{cases_order, false≢true}
use Rattle.std.proofs.lemmas.List.Elements.{All-weaker, All-contains}
use Rattle.std.proofs.lemmas.Option.{none-some, same_Some, slice_get_within}
use Rattle.grind_lemmas.proofs.Lists.{contains-cases, length-push}
use Rattle.grind_term_graph.specs.declared.node.Node.{Node}
use Rattle.grind_term_graph.specs.Shape.{IsTable}
use Rattle.grind_reach.specs.Reached.{reads_arguments, IsNeeded, root, argument, HaveEarlierArguments}
use Rattle.grind_reach.specs.Marks.{IsMarked, HasMarkedArguments}

-- ---- a mark more
pub set-marks : (marks : List Bool) (n : ℕ) → n < length marks → IsMarked (slice_set marks n true) n
set-marks [] n h = absurd (omega arith)
set-marks (m ∷ ms) zero h = refl
set-marks (m ∷ ms) (suc n) h = set-marks ms n (omega arith)

pub set-keeps : (marks : List Bool) (n k : ℕ) → IsMarked marks k → IsMarked (slice_set marks n true) k
set-keeps [] n k h = absurd (none-some true h)
set-keeps (m ∷ ms) zero zero h = refl
set-keeps (m ∷ ms) zero (suc k) h = h
set-keeps (m ∷ ms) (suc n) zero h = h
set-keeps (m ∷ ms) (suc n) (suc k) h = set-keeps ms n k h

pub set-only : (marks : List Bool) (n k : ℕ) → IsMarked (slice_set marks n true) k → IsMarked marks k ⊎ (n ≡ k)
set-only [] n k h = absurd (none-some true h)
set-only (m ∷ ms) zero zero h = inr refl
set-only (m ∷ ms) zero (suc k) h = inl h
set-only (m ∷ ms) (suc n) zero h = inl h
set-only (m ∷ ms) (suc n) (suc k) h = elim (set-only ms n k h) [ inl old ↦ inl old | inr same ↦ inr (ap suc same) ]

-- ---- a list of marks grows
pub push-only : (marks : List Bool) (mark : Bool) (n : ℕ) → IsMarked (marks ++ mark ∷ []) n
    → IsMarked marks n ⊎ ((n ≡ length marks) × (mark ≡ true))
push-only [] mark zero h = inr (refl, same_Some mark true h)
push-only [] mark (suc n) h = absurd (none-some true h)
push-only (m ∷ ms) mark zero h = inl h
push-only (m ∷ ms) mark (suc n) h = elim (push-only ms mark n h) [ inl old ↦ inl old | inr new ↦ inr (ap suc new.0, new.1) ]

pub push-none : (marks : List Bool) → ((n : ℕ) → IsMarked marks n → ⊥) → (n : ℕ) → IsMarked (marks ++ false ∷ []) n → ⊥
push-none marks none n h = elim (push-only marks false n h) [ inl old ↦ none n old | inr new ↦ false≢true new.1 ]

-- ---- the loop that marks numbers
pub contained : (xs : List ℕ) (k d : ℕ) → k < length xs → Contains xs (slice_index_or xs k d)
contained xs k d h = (k, h, index_same xs k d _ h)
  where
    index_same : (xs : List ℕ) (k d e : ℕ) → k < length xs → slice_index_or xs k e ≡ slice_index_or xs k d
    index_same [] k d e h = absurd (omega arith)
    index_same (x ∷ xs) zero d e h = refl
    index_same (x ∷ xs) (suc k) d e h = index_same xs k d e (omega arith)

pub contains-first : (x : ℕ) (xs : List ℕ) → Contains (x ∷ xs) x
contains-first x xs = (0, omega arith, refl)

pub contains-rest : (x : ℕ) (xs : List ℕ) (n : ℕ) → Contains xs n → Contains (x ∷ xs) n
contains-rest x xs n h = (suc h.0, omega (arith, h.1), h.2)

-- how far the marking of numbers has come
pub record SoFar (old marks : List Bool) (numbers rest : List ℕ) : Type 0 where
  pub size : length marks ≡ length old
  pub kept : (n : ℕ) → IsMarked old n → IsMarked marks n
  pub done : (n : ℕ) → Contains numbers n → IsMarked marks n ⊎ Contains rest n
  pub only : (n : ℕ) → IsMarked marks n → IsMarked old n ⊎ Contains numbers n
  pub among : (n : ℕ) → Contains rest n → Contains numbers n

pub so_far-begins : (marks : List Bool) (numbers : List ℕ) → SoFar marks marks numbers numbers
so_far-begins marks numbers = record {
  size = refl;
  kept = λ n h. h;
  done = λ n h. inr h;
  only = λ n h. inl h;
  among = λ n h. h;
}

pub so_far-within : (old marks : List Bool) (numbers rest xs : List ℕ) (x : ℕ) → rest ≡ x ∷ xs → All (λ n. n < length old) numbers
    → SoFar old marks numbers rest → x < length marks
so_far-within old marks numbers rest xs x rest_is within so_far =
    let front : Contains numbers x = so_far.among x (subst (λ (list : List ℕ). Contains list x) (sym rest_is) (contains-first x xs)) in
    let below : x < length old = All-contains (λ n. n < length old) numbers x within front in
    let same_size = so_far.size in omega arith

pub so_far-goes_on : (old marks new : List Bool) (numbers rest xs : List ℕ) (x : ℕ) → rest ≡ x ∷ xs → new ≡ slice_set marks x true
    → length new ≡ length marks → All (λ n. n < length old) numbers → SoFar old marks numbers rest → SoFar old new numbers xs
so_far-goes_on old marks new numbers rest xs x rest_is new_is size within so_far =
    let front : Contains numbers x = so_far.among x (subst (λ (list : List ℕ). Contains list x) (sym rest_is) (contains-first x xs)) in
    let below : x < length old = All-contains (λ n. n < length old) numbers x within front in
    let same_size = so_far.size in record {
      size = omega arith;
      kept = λ n h. subst (λ (list : List Bool). IsMarked list n) (sym new_is) (set-keeps marks x n (so_far.kept n h));
      done = λ n h. elim (so_far.done n h) [
        | inl marked ↦ inl (subst (λ (list : List Bool). IsMarked list n) (sym new_is) (set-keeps marks x n marked))
        | inr later ↦ elim (contains-cases x xs n (subst (λ (list : List ℕ). Contains list n) rest_is later)) [
          | inl same ↦ inl (subst (λ (list : List Bool). IsMarked list n) (sym new_is)
              (subst (IsMarked (slice_set marks x true)) same (set-marks marks x (omega arith))))
          | inr more ↦ inr more
        ]
      ];
      only = λ n h. elim (set-only marks x n (subst (λ (list : List Bool). IsMarked list n) new_is h)) [
        | inl marked ↦ so_far.only n marked
        | inr same ↦ inr (subst (Contains numbers) same front)
      ];
      among = λ n h. so_far.among n (subst (λ (list : List ℕ). Contains list n) (sym rest_is) (contains-rest x xs n h));
    }

pub so_far-ends : (old marks : List Bool) (numbers rest : List ℕ) → length rest ≡ 0 → SoFar old marks numbers rest
    → All (IsMarked marks) numbers
so_far-ends old marks numbers rest none so_far = λ k d h.
    elim (so_far.done (slice_index_or numbers k d) (contained numbers k d h)) [
      | inl marked ↦ marked
      | inr later ↦ absurd (omega (arith, later.1))
    ]

-- ---- the marking of what a reading needs
-- the roots and what they need are marked, as far as marked nodes from number `from` on need them, and nothing else is
pub record IsMarking (nodes : List Node) (roots : List ℕ) (marks : List Bool) (from : ℕ) : Type 0 where
  pub above : All (λ root. root < length marks) roots
  pub least : (bound : ℕ) → All (λ root. root < bound) roots → length marks ≤ bound
  pub top : All (IsMarked marks) roots
  pub needed : (n : ℕ) → IsMarked marks n → IsNeeded nodes roots n
  pub closed : (n : ℕ) → from ≤ n → HasMarkedArguments nodes marks n

module _ (nodes : List Node) (roots : List ℕ) (n : ℕ) (node : Node) (is : slice_get nodes n ≡ Some node)
    (lower : All (λ arg. arg < n) node.args) where
  pub marking-more : (old new : List Bool) → IsMarked old n → length new ≡ length old → ((k : ℕ) → IsMarked old k → IsMarked new k)
      → (reads_arguments node.head ≡ true → All (IsMarked new) node.args)
      → ((k : ℕ) → IsMarked new k → IsMarked old k ⊎ ((reads_arguments node.head ≡ true) × Contains node.args k))
      → IsMarking nodes roots old (suc n) → IsMarking nodes roots new n
  marking-more old new marked size kept args only marking = record {
    above = subst (λ (end : ℕ). All (λ root. root < end) roots) (sym size) marking.above;
    least = λ bound within. subst (λ (end : ℕ). end ≤ bound) (sym size) (marking.least bound within);
    top = All-weaker (IsMarked old) (IsMarked new) kept roots marking.top;
    needed = λ k h. elim (only k h) [
      | inl before ↦ marking.needed k before
      | inr by ↦ argument node (marking.needed n marked) is by.0 by.1
    ];
    closed = λ k from other here h reads. elim (cases_order k n) [
      | inl same ↦
          let one : node ≡ other = same_Some node other (sym is ∙ ap (slice_get nodes) (sym same) ∙ here) in
          subst (λ (node : Node). All (IsMarked new) node.args) one (args (ap (λ (node : Node). reads_arguments node.head) one ∙ reads))
      | inr (inl below) ↦ absurd (omega arith)
      | inr (inr above) ↦ elim (only k h) [
        | inl before ↦ All-weaker (IsMarked old) (IsMarked new) kept other.args (marking.closed k (omega arith) other here before reads)
        | inr by ↦ let small : k < n = All-contains (λ arg. arg < n) node.args k lower by.1 in absurd (omega arith)
      ]
    ];
  }

pub marking-same : (nodes : List Node) (roots : List ℕ) (n : ℕ) (marks : List Bool) → (IsMarked marks n → ⊥)
    → IsMarking nodes roots marks (suc n) → IsMarking nodes roots marks n
marking-same nodes roots n marks unmarked marking = record {
  above = marking.above;
  least = marking.least;
  top = marking.top;
  needed = marking.needed;
  closed = λ k from other here h reads. elim (cases_order k n) [
    | inl same ↦ absurd (unmarked (subst (IsMarked marks) same h))
    | inr (inl below) ↦ absurd (omega arith)
    | inr (inr above) ↦ marking.closed k (omega arith) other here h reads
  ];
}

pub marking-begins : (nodes : List Node) (roots : List ℕ) (marks : List Bool) → All (λ root. root < length marks) roots
    → ((bound : ℕ) → All (λ root. root < bound) roots → length marks ≤ bound) → All (IsMarked marks) roots
    → ((n : ℕ) → IsMarked marks n → Contains roots n) → IsMarking nodes roots marks (length marks)
marking-begins nodes roots marks above least top only = record {
  above = above;
  least = least;
  top = top;
  needed = λ n h. root (only n h);
  closed = λ k from other here h reads. let inside : k < length marks = slice_get_within marks k true h in absurd (omega arith);
}

-- what is needed is marked, where marked nodes have marked arguments
pub needed-marked : (nodes : List Node) (roots : List ℕ) (n : ℕ) (marks : List Bool) → IsMarking nodes roots marks 0
    → IsNeeded nodes roots n → IsMarked marks n
needed-marked nodes roots n marks marking (root among) = All-contains (IsMarked marks) roots n marking.top among
needed-marked nodes roots a marks marking (argument {n} node needed is reads among) =
    All-contains (IsMarked marks) node.args a
    (marking.closed n (omega arith) node is (needed-marked nodes roots n marks marking needed) reads) among

-- ---- the end of some numbers
-- how far the search for it has come
pub record IsEnd (numbers rest : List ℕ) (end : ℕ) : Type 0 where
  pub above : (n : ℕ) → Contains numbers n → (n < end) ⊎ Contains rest n
  pub least : (bound : ℕ) → All (λ number. number < bound) numbers → end ≤ bound
  pub among : (n : ℕ) → Contains rest n → Contains numbers n

pub end-begins : (numbers : List ℕ) → IsEnd numbers numbers 0
end-begins numbers = record {
  above = λ n h. inr h;
  least = λ bound h. omega arith;
  among = λ n h. h;
}

pub end-goes_on : (numbers rest xs : List ℕ) (x end next : ℕ) → rest ≡ x ∷ xs → end ≤ next → x < next
    → ((bound : ℕ) → end ≤ bound → x < bound → next ≤ bound) → IsEnd numbers rest end → IsEnd numbers xs next
end-goes_on numbers rest xs x end next rest_is grows over least so_far = record {
  above = λ n h. elim (so_far.above n h) [
    | inl below ↦ inl (omega arith)
    | inr later ↦ elim (contains-cases x xs n (subst (λ (list : List ℕ). Contains list n) rest_is later)) [
      | inl same ↦ inl (subst (λ (n : ℕ). n < next) same over)
      | inr behind ↦ inr behind
    ]
  ];
  least = λ bound h.
      let front : Contains numbers x = so_far.among x (subst (λ (list : List ℕ). Contains list x) (sym rest_is) (contains-first x xs)) in
      least bound (so_far.least bound h) (All-contains (λ number. number < bound) numbers x h front);
  among = λ n h. so_far.among n (subst (λ (list : List ℕ). Contains list n) (sym rest_is) (contains-rest x xs n h));
}

pub end-ends : (numbers rest : List ℕ) (end : ℕ) → length rest ≡ 0 → IsEnd numbers rest end → All (λ number. number < end) numbers
end-ends numbers rest end none so_far = λ k d h.
    elim (so_far.above (slice_index_or numbers k d) (contained numbers k d h)) [
      | inl below ↦ below
      | inr later ↦ absurd (omega (arith, later.1))
    ]

-- ---- the arguments of a table's nodes
pub earlier-arguments : (nodes before : List Node) (k : ℕ) (node : Node) → IsTable before nodes → slice_get nodes k ≡ Some node
    → All (λ arg. arg < length before + k) node.args
earlier-arguments [] before k node table e = absurd (none-some node e)
earlier-arguments (first ∷ rest) before zero node table e =
    let same : first ≡ node = same_Some first node e in
    let here : length before ≡ length before + 0 = omega arith in
    subst (λ (bound : ℕ). All (λ arg. arg < bound) node.args) here
    (subst (λ (node : Node). All (λ arg. arg < length before) node.args) same table.0.0)
earlier-arguments (first ∷ rest) before (suc k) node table e =
    let longer = length-push before first in
    let there : length (before ++ first ∷ []) + k ≡ length before + suc k = omega arith in
    subst (λ (bound : ℕ). All (λ arg. arg < bound) node.args) there
    (earlier-arguments rest (before ++ first ∷ []) k node table.2 e)

pub table-arguments : (nodes : List Node) → IsTable [] nodes → HaveEarlierArguments nodes
table-arguments nodes table n node e =
    let same : 0 + n ≡ n = omega arith in
    subst (λ (bound : ℕ). All (λ arg. arg < bound) node.args) same (earlier-arguments nodes [] n node table e)
