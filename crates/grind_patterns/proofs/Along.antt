-- Walks along lists of schemes, and schemes by the items of their arguments.
use Rattle.std.proofs.Common.{drop, ◌+◌, ◌≡◌, ◌↔◌, ◌⊎◌, inl, inr, ℕ, zero, suc, ◌<◌, ◌≤◌, arith, Bool, true, false, true≢false, List, [], ◌∷◌, ◌++◌, All, length, slice_index_or, Vec, Global, refl, sym, ap, ◌∙◌, subst, append_assoc}
use Rattle.std.specs.Prelude.{Any, IsTrue, OnOk}
use Rattle.std.proofs.Common.{Result, Ok, Err}
use Rattle.std.proofs.lemmas.List.Elements.{All-nil, All-cons, All-head, All-tail}
use Rattle.grind_term_graph.specs.declared.head.Head.{Head}
use Rattle.grind_schemes.specs.declared.scheme.Scheme.{Scheme, Apply, Row_of-Scheme, end_of-Scheme, more_of-Scheme, items-the_row-Scheme, items_hidden-the_row-Scheme-0}
use Rattle.grind_schemes.proofs.SchemeLemmas.{row_of, HasVar-Apply, any_none, any_cases}
use Rattle.grind_patterns.specs.Patterns.{IsTermHead, IsTerm, AreTerms, HasUncovered}
use Rattle.grind_patterns.proofs.CopyLemmas.{drop_at, drop_all}

-- a test that fails excludes what it decides
pub fails : (b : Bool) (P : Type 0) → (IsTrue b ↔ P) → b ≡ false → ¬ P
fails b P decides e = λ p. true≢false (sym (decides.1 p) ∙ e)

module _ (P : Scheme → Type 0) (all : List Scheme) where
  -- where an item fails, one of the rest passes
  pub any_left : (k : ℕ) (item : Scheme) → k < length all → item ≡ slice_index_or all k item → ¬ P item
      → (Any P all → Any P (drop k all)) → Any P all → Any P (drop (k + 1) all)
  any_left k item below is not_here left h =
      let here : Any P (item ∷ drop (k + 1) all) = subst (Any P) (drop_at all k item below is) (left h) in
      elim (any_cases P item (drop (k + 1) all) here) [ inl p ↦ absurd (not_here p) | inr p ↦ p ]

  -- after the last none passes
  pub none_left : (k : ℕ) → length all ≤ k → (Any P all → Any P (drop k all)) → ¬ Any P all
  none_left k past left h = any_none P (subst (Any P) (drop_all all k past) (left h))

  pub never : (k : ℕ) → length all ≤ k → (Any P all → Any P (drop k all)) → IsTrue false ↔ Any P all
  never k past left = (λ h. absurd (true≢false (sym h)), λ h. absurd (none_left k past left h))

  -- where an item passes, all pass if the rest does
  pub all_left : (k : ℕ) (item : Scheme) → k < length all → item ≡ slice_index_or all k item → P item
      → (All P (drop k all) → All P all) → All P (drop (k + 1) all) → All P all
  all_left k item below is p left h =
      left (subst (All P) (sym (drop_at all k item below is)) (All-cons P item (drop (k + 1) all) p h))

  -- after the last all passed
  pub all_done : (k : ℕ) → length all ≤ k → (All P (drop k all) → All P all) → All P all
  all_done k past left = left (subst (All P) (sym (drop_all all k past)) (All-nil P))

  pub always : (k : ℕ) → length all ≤ k → (All P (drop k all) → All P all) → IsTrue true ↔ All P all
  always k past left = (λ h. all_done k past left, λ h. refl)

-- a test of the items of a head's arguments, read as one of the whole
pub through : (P : Scheme → Type 0) (Q : List Scheme → Type 0) (b : Bool) (head : Head) (sort : ℕ)
    (args : Vec Scheme Global) (scheme : Scheme) (items : List Scheme) → scheme ≡ Apply head sort args
    → items ≡ args.items → (P (Apply head sort args) ↔ Q args.items) → (IsTrue b ↔ Q items) → IsTrue b ↔ P scheme
through P Q b head sort args scheme items e f same decides = (
  λ h. subst P (sym e) (same.1 (subst Q f (decides.0 h))),
  λ p. decides.1 (subst Q (sym f) (same.0 (subst P e p))),
)

-- a head at terms is one exactly where it is a declared function or a number
of_row : (n : _) (row : Row_of-Scheme n) → AreTerms row → All IsTerm (items-the_row-Scheme n row)
of_row n end_of-Scheme h = All-nil IsTerm
of_row n (more_of-Scheme first rest) h = All-cons IsTerm first _ h.0 (of_row _ rest h.1)

to_row : (n : _) (row : Row_of-Scheme n) → All IsTerm (items-the_row-Scheme n row) → AreTerms row
to_row n end_of-Scheme h = tt
to_row n (more_of-Scheme first rest) h = (All-head IsTerm first _ h, to_row _ rest (All-tail IsTerm first _ h))

pub IsTerm-Apply : (head : Head) (sort : ℕ) (args : Vec Scheme Global) →
    IsTerm (Apply head sort args) ↔ (IsTermHead head × All IsTerm args.items)
IsTerm-Apply head sort args =
    let row = row_of (Apply head sort args) in
    let same = items_hidden-the_row-Scheme-0 args in (
      λ h. (h.0, subst (All IsTerm) same (of_row row.0 row.1 h.1)),
      λ h. (h.0, to_row row.0 row.1 (subst (All IsTerm) (sym same) h.1)),
    )

-- a test of a head and of its arguments, read as one of the whole
pub through_head : (b : Bool) (head : Head) (sort : ℕ) (args : Vec Scheme Global) (scheme : Scheme)
    (items : List Scheme) → scheme ≡ Apply head sort args → items ≡ args.items → IsTermHead head
    → (IsTrue b ↔ All IsTerm items) → IsTrue b ↔ IsTerm scheme
through_head b head sort args scheme items e f here decides =
    let whole = IsTerm-Apply head sort args in (
      λ h. subst IsTerm (sym e) (whole.1 (here, subst (All IsTerm) f (decides.0 h))),
      λ p. decides.1 (subst (All IsTerm) (sym f) (whole.0 (subst IsTerm e p)).1),
    )

-- a head at its arguments has an uncovered variable exactly where one of them has
pub HasUncovered-Apply : (terms : List Scheme) (head : Head) (sort : ℕ) (args : Vec Scheme Global) →
    HasUncovered terms (Apply head sort args) ↔ Any (HasUncovered terms) args.items
HasUncovered-Apply terms head sort args = (
  λ h. let found = (HasVar-Apply h.0 head sort args).0 h.1 in
      (found.0, found.1, found.2, found.3, (h.0, found.4, h.2)),
  λ h. let there = h.4 in
      (there.0, (HasVar-Apply there.0 head sort args).1 (h.0, h.1, h.2, h.3, there.1), there.2),
)

-- what is copied, and what is left
pub copied_more : (all done : List Scheme) (k : ℕ) (item : Scheme) → k < length all
    → item ≡ slice_index_or all k item → all ≡ done ++ drop k all → all ≡ (done ++ item ∷ []) ++ drop (k + 1) all
copied_more all done k item below is e =
    e ∙ ap (λ (rest : List Scheme). done ++ rest) (drop_at all k item below is)
    ∙ sym (append_assoc done (item ∷ []) (drop (k + 1) all))

-- what holds of each number below one, and of that one, holds of each below the next
pub below_next : (P : ℕ → Type 0) (n : ℕ) → ((k : ℕ) → k < n → P k) → P n → (k : ℕ) → k < n + 1 → P k
below_next P n below here k less =
    elim (below_or_same k n (omega arith)) [ inl l ↦ below k l | inr e ↦ subst P (sym e) here ]
  where
    below_or_same : (k n : ℕ) → k < suc n → (k < n) ⊎ (k ≡ n)
    below_or_same zero zero l = inr refl
    below_or_same zero (suc n) l = inl (omega arith)
    below_or_same (suc k) zero l = absurd (omega arith)
    below_or_same (suc k) (suc n) l =
        elim (below_or_same k n (omega arith)) [ inl m ↦ inl (omega arith) | inr e ↦ inr (ap suc e) ]

-- what a call leaves where it succeeds, read as something else
pub on_ok : {T E : Type 0} (r : Result T E) (P Q : Type 0) → (P → Q) → OnOk r P → OnOk r Q
on_ok (Ok value) P Q f h = f h
on_ok (Err refusal) P Q f h = h
