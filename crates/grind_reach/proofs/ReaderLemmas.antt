-- Which marked node is the last one that is read by another.
use Rattle.std.proofs.Common.{◌≡◌, ◌⊎◌, inl, inr, ℕ, zero, suc, ◌≤◌, ◌<◌, Bool, true, List, [], ◌∷◌, ◌++◌, length, Some, slice_get, slice_set, slice_index_or, All, Contains, arith, sym, ap, ◌∙◌, refl, subst}
use Rattle.std.proofs.Math.ListN.{length-set}
use Rattle.std.proofs.lemmas.Bool.{cases_order}
use Rattle.std.proofs.lemmas.List.Elements.{All-contains}
use Rattle.std.proofs.lemmas.Option.{same_Some, slice_get_within}
use Rattle.grind_lemmas.proofs.Lists.{contains-cases}
use Rattle.grind_term_graph.specs.declared.node.Node.{Node}
use Rattle.grind_reach.specs.Reached.{reads_arguments}
use Rattle.grind_reach.specs.Marks.{IsMarked, IsReader, IsLastReader, IsLastUse, reader_at}
use Rattle.grind_reach.proofs.MarkLemmas.{contained, contains-first, contains-rest}

-- ---- a number more
set-at : (readers : List ℕ) (x reader a : ℕ) → x < length readers
    → ((x ≡ a) × (reader_at (slice_set readers x reader) a ≡ reader)) ⊎ (reader_at (slice_set readers x reader) a ≡ reader_at readers a)
set-at [] x reader a h = absurd (omega arith)
set-at (r ∷ rs) zero reader zero h = inl (refl, refl)
set-at (r ∷ rs) zero reader (suc a) h = inr refl
set-at (r ∷ rs) (suc x) reader zero h = inr refl
set-at (r ∷ rs) (suc x) reader (suc a) h = elim (set-at rs x reader a (omega arith)) [ inl there ↦ inl (ap suc there.0, there.1) | inr other ↦ inr other ]

pub push-zero : (readers : List ℕ) → ((n : ℕ) → reader_at readers n ≡ 0) → (n : ℕ) → reader_at (readers ++ 0 ∷ []) n ≡ 0
push-zero [] all zero = refl
push-zero [] all (suc n) = refl
push-zero (r ∷ rs) all zero = all 0
push-zero (r ∷ rs) all (suc n) = push-zero rs (λ n. all (suc n)) n

-- ---- the loop that notes a reader
-- how far the noting at numbers has come
pub record IsNoted (old new : List ℕ) (reader : ℕ) (numbers rest : List ℕ) : Type 0 where
  pub size : length new ≡ length old
  pub done : (a : ℕ) → Contains numbers a → (reader_at new a ≡ reader) ⊎ Contains rest a
  pub only : (a : ℕ) → (reader_at new a ≡ reader_at old a) ⊎ (Contains numbers a × (reader_at new a ≡ reader))
  pub among : (a : ℕ) → Contains rest a → Contains numbers a

pub noted-begins : (old : List ℕ) (reader : ℕ) (numbers : List ℕ) → IsNoted old old reader numbers numbers
noted-begins old reader numbers = record {
  size = refl;
  done = λ a h. inr h;
  only = λ a. inl refl;
  among = λ a h. h;
}

module _ (old new : List ℕ) (reader : ℕ) (numbers rest xs : List ℕ) (x : ℕ) (rest_is : rest ≡ x ∷ xs)
    (within : All (λ n. n < length old) numbers) (noted : IsNoted old new reader numbers rest) where
  front : Contains numbers x
  front = noted.among x (subst (λ (list : List ℕ). Contains list x) (sym rest_is) (contains-first x xs))

  pub noted-within : x < length new
  noted-within =
      let below : x < length old = All-contains (λ n. n < length old) numbers x within front in
      let same_size = noted.size in omega arith

  pub noted-goes_on : (more : List ℕ) → more ≡ slice_set new x reader → IsNoted old more reader numbers xs
  noted-goes_on more more_is =
      let inside : x < length new = noted-within in
      let same_size = noted.size in
      let longer : length more ≡ length new = ap length more_is ∙ length-set new x reader in record {
        size = omega arith;
        done = λ a h. elim (set-at new x reader a inside) [
          | inl there ↦ inl (ap (λ (list : List ℕ). reader_at list a) more_is ∙ there.1)
          | inr other ↦ elim (noted.done a h) [
            | inl before ↦ inl (ap (λ (list : List ℕ). reader_at list a) more_is ∙ other ∙ before)
            | inr later ↦ elim (contains-cases x xs a (subst (λ (list : List ℕ). Contains list a) rest_is later)) [
              | inl same ↦ inl (ap (λ (list : List ℕ). reader_at list a) more_is
                  ∙ subst (λ (a : ℕ). reader_at (slice_set new x reader) a ≡ reader) same (set-same new x reader inside))
              | inr behind ↦ inr behind
            ]
          ]
        ];
        only = λ a. elim (set-at new x reader a inside) [
          | inl there ↦ inr (subst (Contains numbers) there.0 front, ap (λ (list : List ℕ). reader_at list a) more_is ∙ there.1)
          | inr other ↦ elim (noted.only a) [
            | inl kept ↦ inl (ap (λ (list : List ℕ). reader_at list a) more_is ∙ other ∙ kept)
            | inr by ↦ inr (by.0, ap (λ (list : List ℕ). reader_at list a) more_is ∙ other ∙ by.1)
          ]
        ];
        among = λ a h. noted.among a (subst (λ (list : List ℕ). Contains list a) (sym rest_is) (contains-rest x xs a h));
      }
    where
      set-same : (readers : List ℕ) (x reader : ℕ) → x < length readers → reader_at (slice_set readers x reader) x ≡ reader
      set-same [] x reader h = absurd (omega arith)
      set-same (r ∷ rs) zero reader h = refl
      set-same (r ∷ rs) (suc x) reader h = set-same rs x reader (omega arith)

pub noted-ends : (old new : List ℕ) (reader : ℕ) (numbers rest : List ℕ) → length rest ≡ 0 → IsNoted old new reader numbers rest
    → All (λ number. reader_at new number ≡ reader) numbers
noted-ends old new reader numbers rest none noted = λ k d h.
    elim (noted.done (slice_index_or numbers k d) (contained numbers k d h)) [
      | inl there ↦ there
      | inr later ↦ absurd (omega (arith, later.1))
    ]

-- ---- the last readers, as far as nodes before a number read
pub record HasReaders (nodes : List Node) (marks : List Bool) (readers : List ℕ) (number : ℕ) : Type 0 where
  pub size : length readers ≡ length marks
  pub above : (n a : ℕ) → n < number → IsReader nodes marks n a → n ≤ reader_at readers a
  pub there : (a : ℕ) → (reader_at readers a ≡ 0) ⊎ IsReader nodes marks (reader_at readers a) a

pub readers-begin : (nodes : List Node) (marks : List Bool) (readers : List ℕ) → length readers ≡ length marks
    → ((n : ℕ) → reader_at readers n ≡ 0) → HasReaders nodes marks readers 0
readers-begin nodes marks readers size zeros = record {
  size = size;
  above = λ n a below reads. absurd (omega arith);
  there = λ a. inl (zeros a);
}

pub readers-more : (nodes : List Node) (marks : List Bool) (n : ℕ) (node : Node) → slice_get nodes n ≡ Some node → (old new : List ℕ)
    → IsMarked marks n → length new ≡ length old → (reads_arguments node.head ≡ true → All (λ arg. reader_at new arg ≡ n) node.args)
    → ((a : ℕ) → (reader_at new a ≡ reader_at old a) ⊎ ((reads_arguments node.head ≡ true) × Contains node.args a × (reader_at new a ≡ n)))
    → HasReaders nodes marks old n → HasReaders nodes marks new (suc n)
readers-more nodes marks n node is old new marked size noted only before =
    let old_size = before.size in record {
      size = omega arith;
      above = λ m a below reads. elim (cases_order m n) [
        | inl same ↦
            let one : node ≡ reads.0 = same_Some node reads.0 (sym is ∙ ap (slice_get nodes) (sym same) ∙ reads.1) in
            let by : reads_arguments node.head ≡ true = ap (λ (node : Node). reads_arguments node.head) one ∙ reads.3 in
            let among : Contains node.args a = subst (λ (node : Node). Contains node.args a) (sym one) reads.4 in
            let here : reader_at new a ≡ n = All-contains (λ arg. reader_at new arg ≡ n) node.args a (noted by) among in omega arith
        | inr (inl earlier) ↦
            let known : m ≤ reader_at old a = before.above m a earlier reads in
            elim (only a) [
              | inl kept ↦ omega arith
              | inr by ↦ let here : reader_at new a ≡ n = by.2 in omega arith
            ]
        | inr (inr later) ↦ absurd (omega arith)
      ];
      there = λ a. elim (only a) [
        | inl kept ↦ subst (λ (r : ℕ). (r ≡ 0) ⊎ IsReader nodes marks r a) (sym kept) (before.there a)
        | inr by ↦ inr (subst (λ (r : ℕ). IsReader nodes marks r a) (sym by.2) (node, is, marked, by.0, by.1))
      ];
    }

pub readers-same : (nodes : List Node) (marks : List Bool) (n : ℕ) (readers : List ℕ) → (IsMarked marks n → ⊥)
    → HasReaders nodes marks readers n → HasReaders nodes marks readers (suc n)
readers-same nodes marks n readers unmarked before = record {
  size = before.size;
  above = λ m a below reads. elim (cases_order m n) [
    | inl same ↦ absurd (unmarked (subst (IsMarked marks) same reads.2))
    | inr (inl earlier) ↦ before.above m a earlier reads
    | inr (inr later) ↦ absurd (omega arith)
  ];
  there = before.there;
}

pub readers-end : (nodes : List Node) (marks : List Bool) (readers : List ℕ) → HasReaders nodes marks readers (length marks)
    → (a : ℕ) → IsLastReader nodes marks a (reader_at readers a)
readers-end nodes marks readers all a =
    (λ n reads. all.above n a (slice_get_within marks n true reads.2) reads, all.there a)

-- ---- uses
-- the roots are used after all marked nodes, the other nodes by their last readers
pub uses-are : (nodes : List Node) (marks : List Bool) (roots readers uses : List ℕ)
    → ((a : ℕ) → IsLastReader nodes marks a (reader_at readers a))
    → ((a : ℕ) → (reader_at uses a ≡ reader_at readers a) ⊎ (Contains roots a × (reader_at uses a ≡ length marks)))
    → (a : ℕ) → IsLastUse nodes marks roots a (reader_at uses a)
uses-are nodes marks roots readers uses last only a = elim (only a) [
  | inl same ↦ inr (subst (IsLastReader nodes marks a) (sym same) (last a))
  | inr root ↦ inl root
]
