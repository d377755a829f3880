-- One pass over a table that reads what its roots need.
use Rattle.std.proofs.Common.{◌≡◌, ◌⊎◌, inl, inr, ℕ, zero, suc, ◌+◌, ◌<◌, ◌≤◌, Bool, true, List, [], ◌∷◌, ◌++◌, length, Option, Some, None, slice_get, slice_set, slice_index_or, All, Contains, ◌↔◌, arith, sym, ap, ◌∙◌, refl, subst}
use Rattle.std.specs.Option.{option_and_then}
use Rattle.std.proofs.lemmas.Bool.{cases_order}
use Rattle.std.proofs.lemmas.List.Elements.{All-contains}
use Rattle.std.proofs.lemmas.Option.{none-some, same_Some, slice_get_within, slice_get_past}
use Rattle.grind_lemmas.proofs.Lists.{get-before, get-at, length-push, contains-cases}
use Rattle.grind_term_graph.specs.declared.node.Node.{Node}
use Rattle.grind_reach.specs.Reached.{IsNeeded, root, argument, HaveEarlierArguments}
use Rattle.grind_reach.specs.Readings.{Operations, reading_of, found, read_at}
use Rattle.grind_reach.specs.Marks.{IsMarked, HasMarkedArguments, IsReader, IsLastUse, IsCourse, AreRead, AreInUse, reader_at}
use Rattle.grind_reach.proofs.MarkLemmas.{contained, contains-first, contains-rest}
use Rattle.grind_reach.proofs.ReadingLemmas.{reading-at, reading-agrees, found-by, found-some}

-- ---- the course of a pass
pub course-is : (nodes : List Node) (roots : List ℕ) (marks same_marks : List Bool) (uses same_uses : List ℕ)
    → same_marks ≡ marks → same_uses ≡ uses → length marks ≤ length nodes → length uses ≡ length marks → HaveEarlierArguments nodes
    → ((n : ℕ) → IsMarked marks n ↔ IsNeeded nodes roots n) → ((n : ℕ) → HasMarkedArguments nodes marks n)
    → ((a : ℕ) → IsLastUse nodes marks roots a (reader_at uses a)) → All (λ root. root < length marks) roots
    → All (λ root. reader_at uses root ≡ length marks) roots → IsCourse nodes roots same_marks same_uses
course-is nodes roots marks same_marks uses same_uses e f within size earlier exact closed uses_of roots_within roots_last =
    subst (λ (marks : List Bool). IsCourse nodes roots marks same_uses) (sym e)
    (subst (IsCourse nodes roots marks) (sym f) (record {
      within = within;
      size = size;
      earlier = earlier;
      exact = exact;
      closed = closed;
      uses_of = uses_of;
      roots_within = roots_within;
      roots_last = roots_last;
    }))

-- the last use of a reading comes no earlier than that by a marked node
use-after : (nodes : List Node) (roots : List ℕ) (marks : List Bool) (uses : List ℕ) → IsCourse nodes roots marks uses
    → (n a : ℕ) → IsReader nodes marks n a → n ≤ reader_at uses a
use-after nodes roots marks uses course n a reads = elim (course.uses_of a) [
  | inl its_root ↦
      let inside : n < length marks = slice_get_within marks n true reads.2 in
      let end : reader_at uses a ≡ length marks = its_root.1 in omega arith
  | inr last ↦ last.0 n reads
]

module _ {R : Type 0} (by : Operations R) (nodes : List Node) (roots : List ℕ) (marks : List Bool) (uses : List ℕ)
    (course : IsCourse nodes roots marks uses) where
  -- a marked node is read from the list
  pub read-marked : (list : List (Option R)) (n : ℕ) (node : Node) → slice_get nodes n ≡ Some node → All (λ arg. arg < n) node.args
      → length list ≡ n → AreRead by nodes marks uses list → IsMarked marks n
      → reading_of by (found list) n node.head node.args ≡ read_at by nodes n
  read-marked list n node is lower count known marked =
      sym (reading-at by nodes n node is lower
      ∙ reading-agrees (read_at by nodes) (found list) by n node.head node.args
      (λ reads k d h.
      let below = lower k d h in
      let among = contained node.args k d h in
      let arg_marked : IsMarked marks (slice_index_or node.args k d) =
      All-contains (IsMarked marks) node.args (slice_index_or node.args k d) (course.closed n node is marked reads) among in
      let later = use-after nodes roots marks uses course n (slice_index_or node.args k d) (node, is, marked, reads, among) in
      sym (known (slice_index_or node.args k d) (omega arith) arg_marked (omega arith))))

  -- one reading more
  pub read-more : (list : List (Option R)) (n : ℕ) (reading : Option R) → length list ≡ n → AreRead by nodes marks uses list
      → (IsMarked marks n → reading ≡ read_at by nodes n) → AreRead by nodes marks uses (list ++ reading ∷ [])
  read-more list n reading count known here k below marked later =
      let longer = length-push list reading in
      elim (cases_order k (length list)) [
        | inl same ↦
            let place : k ≡ n = same ∙ count in
            found-some (list ++ reading ∷ []) k reading (ap (slice_get (list ++ reading ∷ [])) same ∙ get-at list reading)
            ∙ here (subst (IsMarked marks) place marked) ∙ ap (read_at by nodes) (sym place)
        | inr (inl earlier) ↦
            found-by (list ++ reading ∷ []) list k (get-before list (reading ∷ []) k earlier) ∙ known k earlier marked (omega arith)
        | inr (inr above) ↦ absurd (omega arith)
      ]

-- ---- readings that are let go
-- a reading that has its last use at n may be gone
abbrev pub IsKept : {R : Type 0} → List ℕ → ℕ → List (Option R) → List (Option R) → Type 0
IsKept uses n old new = (k : ℕ) → (slice_get new k ≡ slice_get old k) ⊎ ((reader_at uses k ≡ n) × (slice_get new k ≡ Some None))

module _ {R : Type 0} where
  pub read-still : (by : Operations R) (nodes : List Node) (marks : List Bool) (uses : List ℕ) (n : ℕ) (old new : List (Option R))
      → length old ≡ n + 1 → length new ≡ length old → IsKept uses n old new → AreRead by nodes marks uses old
      → AreRead by nodes marks uses new
  read-still by nodes marks uses n old new count size kept known k below marked later = elim (kept k) [
    | inl same ↦ found-by new old k same ∙ known k (omega arith) marked (omega arith)
    | inr gone ↦ let here : reader_at uses k ≡ n = gone.0 in absurd (omega arith)
  ]

  pub read-on : (by : Operations R) (nodes : List Node) (roots : List ℕ) (marks : List Bool) (uses : List ℕ) → IsCourse nodes roots marks uses
      → (n : ℕ) (old grown new : List (Option R)) (reading : Option R) → length old ≡ n → AreRead by nodes marks uses old
      → (IsMarked marks n → reading ≡ read_at by nodes n) → grown ≡ old ++ reading ∷ []
      → length new ≡ length grown → IsKept uses n grown new → AreRead by nodes marks uses new
  read-on by nodes roots marks uses course n old grown new reading count known here grown_is size kept =
      let longer = length-push old reading in
      let long : length grown ≡ length (old ++ reading ∷ []) = ap length grown_is in
      read-still by nodes marks uses n grown new (omega arith) size kept
      (subst (AreRead by nodes marks uses) (sym grown_is) (read-more by nodes roots marks uses course old n reading count known here))

  -- at the end the roots have their readings
  pub roots-read : (by : Operations R) (nodes : List Node) (roots : List ℕ) (marks : List Bool) (uses : List ℕ) (list : List (Option R))
      → IsCourse nodes roots marks uses → length list ≡ length marks → AreRead by nodes marks uses list
      → All (λ root. found list root ≡ read_at by nodes root) roots
  roots-read by nodes roots marks uses list course count known = λ k d h.
      let inside = course.roots_within k d h in
      let last = course.roots_last k d h in
      let marked = (course.exact (slice_index_or roots k d)).1 (root (contained roots k d h)) in
      known (slice_index_or roots k d) (omega arith) marked (omega arith)

  set-at : (list : List (Option R)) (x k : ℕ) (reading : Option R) → x < length list
      → ((x ≡ k) × (slice_get (slice_set list x reading) k ≡ Some reading)) ⊎ (slice_get (slice_set list x reading) k ≡ slice_get list k)
  set-at [] x k reading h = absurd (omega arith)
  set-at (f ∷ fs) zero zero reading h = inl (refl, refl)
  set-at (f ∷ fs) zero (suc k) reading h = inr refl
  set-at (f ∷ fs) (suc x) zero reading h = inr refl
  set-at (f ∷ fs) (suc x) (suc k) reading h = elim (set-at fs x k reading (omega arith)) [
    | inl there ↦ inl (ap suc there.0, there.1)
    | inr other ↦ inr other
  ]

  set-same : (list : List (Option R)) (x : ℕ) (reading : Option R) → x < length list → slice_get (slice_set list x reading) x ≡ Some reading
  set-same [] x reading h = absurd (omega arith)
  set-same (f ∷ fs) zero reading h = refl
  set-same (f ∷ fs) (suc x) reading h = set-same fs x reading (omega arith)

  pub one_kept : (uses : List ℕ) (n arg : ℕ) (old new : List (Option R)) → arg < length old → reader_at uses arg ≡ n
      → new ≡ slice_set old arg None → IsKept uses n old new
  one_kept uses n arg old new inside last new_is k = elim (set-at old arg k None inside) [
    | inl there ↦ inr (ap (reader_at uses) (sym there.0) ∙ last, ap (λ (list : List (Option R)). slice_get list k) new_is ∙ there.1)
    | inr other ↦ inl (ap (λ (list : List (Option R)). slice_get list k) new_is ∙ other)
  ]

  pub one_gone : (arg : ℕ) (old new : List (Option R)) → arg < length old → new ≡ slice_set old arg None → slice_get new arg ≡ Some None
  one_gone arg old new inside new_is = ap (λ (list : List (Option R)). slice_get list arg) new_is ∙ set-same old arg None inside

-- how far the letting go of arguments has come
pub record IsLetGo {R : Type 0} (uses : List ℕ) (n : ℕ) (old new : List (Option R)) (args rest : List ℕ) : Type 0 where
  pub size : length new ≡ length old
  pub kept : IsKept uses n old new
  pub gone : (a : ℕ) → Contains args a → (reader_at uses a ≡ n → slice_get new a ≡ Some None) ⊎ Contains rest a
  pub among : (a : ℕ) → Contains rest a → Contains args a

pub let_go-begins : {R : Type 0} (uses : List ℕ) (n : ℕ) (list : List (Option R)) (args : List ℕ) → IsLetGo uses n list list args args
let_go-begins uses n list args = record {
  size = refl;
  kept = λ k. inl refl;
  gone = λ a h. inr h;
  among = λ a h. h;
}

module _ {R : Type 0} (uses : List ℕ) (n : ℕ) (old list : List (Option R)) (args rest xs : List ℕ) (x : ℕ) (rest_is : rest ≡ x ∷ xs)
    (so_far : IsLetGo uses n old list args rest) where
  pub let_go-within : All (λ arg. arg < length old) args → x < length list
  let_go-within within =
      let front : Contains rest x = subst (λ (list : List ℕ). Contains list x) (sym rest_is) (contains-first x xs) in
      let below : x < length old = All-contains (λ arg. arg < length old) args x within (so_far.among x front) in
      let same_size = so_far.size in omega arith

  pub let_go-goes_on : (new : List (Option R)) → length new ≡ length list → IsKept uses n list new
      → (reader_at uses x ≡ n → slice_get new x ≡ Some None) → IsLetGo uses n old new args xs
  let_go-goes_on new size kept gone =
      let same_size = so_far.size in record {
        size = omega arith;
        kept = λ k. elim (kept k) [
          | inl same ↦ elim (so_far.kept k) [ inl before ↦ inl (same ∙ before) | inr empty ↦ inr (empty.0, same ∙ empty.1) ]
          | inr empty ↦ inr empty
        ];
        gone = λ a h. elim (so_far.gone a h) [
          | inl before ↦ inl (λ last. elim (kept a) [ inl same ↦ same ∙ before last | inr empty ↦ empty.1 ])
          | inr later ↦ elim (contains-cases x xs a (subst (λ (list : List ℕ). Contains list a) rest_is later)) [
            | inl same ↦ inl (subst (λ (a : ℕ). reader_at uses a ≡ n → slice_get new a ≡ Some None) same gone)
            | inr behind ↦ inr behind
          ]
        ];
        among = λ a h. so_far.among a (subst (λ (list : List ℕ). Contains list a) (sym rest_is) (contains-rest x xs a h));
      }

pub let_go-ends : {R : Type 0} (uses : List ℕ) (n : ℕ) (old new : List (Option R)) (args rest : List ℕ) → length rest ≡ 0
    → IsLetGo uses n old new args rest → All (λ arg. reader_at uses arg ≡ n → slice_get new arg ≡ Some None) args
let_go-ends uses n old new args rest none so_far = λ k d h.
    elim (so_far.gone (slice_index_or args k d) (contained args k d h)) [
      | inl there ↦ there
      | inr later ↦ absurd (omega (arith, later.1))
    ]

-- ---- what is held
module _ (nodes : List Node) (roots : List ℕ) (marks : List Bool) (uses : List ℕ) (course : IsCourse nodes roots marks uses) where
  -- a marked node has its last use after it
  used-later : (n : ℕ) → IsNeeded nodes roots n → n < reader_at uses n
  used-later n (root among) =
      let inside : n < length marks = All-contains (λ root. root < length marks) roots n course.roots_within among in
      let last : reader_at uses n ≡ length marks = All-contains (λ root. reader_at uses root ≡ length marks) roots n course.roots_last among in
      omega arith
  used-later a (argument {n} node needed is reads among) =
      let before : a < n = All-contains (λ arg. arg < n) node.args a (course.earlier n node is) among in
      let later = use-after nodes roots marks uses course n a (node, is, (course.exact n).1 needed, reads, among) in omega arith

  -- a node whose last use is at a marked node that is no end is an argument there
  is-argument : (n k : ℕ) (node : Node) → slice_get nodes n ≡ Some node → n < length marks → k < n → reader_at uses k ≡ n
      → Contains node.args k
  is-argument n k node is within below here = elim (course.uses_of k) [
    | inl its_root ↦ let end : reader_at uses k ≡ length marks = its_root.1 in absurd (omega arith)
    | inr last ↦ elim last.1 [
      | inl zero_it_is ↦ absurd (omega arith)
      | inr reads ↦
          let same : reads.0 ≡ node = same_Some reads.0 node (sym reads.1 ∙ ap (slice_get nodes) here ∙ is) in
          subst (λ (node : Node). Contains node.args k) same reads.4
    ]
  ]

found-inside : {R : Type 0} (list : List (Option R)) (k : ℕ) (reading : R) → found list k ≡ Some reading → k < length list
found-inside {R} list k reading e = elim (cases_order k (length list)) [
  | inl same ↦ absurd (past (omega arith))
  | inr (inl below) ↦ below
  | inr (inr above) ↦ absurd (past (omega arith))
]
  where
    past : length list ≤ k → ⊥
    past h = none-some reading (sym (ap (option_and_then (λ (reading : Option R). reading)) (slice_get_past list k h)) ∙ e)

module _ {R : Type 0} (nodes : List Node) (roots : List ℕ) (marks : List Bool) (uses : List ℕ) (course : IsCourse nodes roots marks uses) where
  -- one step further, the readings that had their last use there are gone
  pub held-on : (n : ℕ) (node : Node) → slice_get nodes n ≡ Some node → n < length marks → (old grown new : List (Option R)) (reading : Option R)
      → length old ≡ n → AreInUse marks uses old → ((it : R) → reading ≡ Some it → IsMarked marks n) → grown ≡ old ++ reading ∷ []
      → length new ≡ length grown → IsKept uses n grown new
      → All (λ arg. reader_at uses arg ≡ n → slice_get new arg ≡ Some None) node.args → AreInUse marks uses new
  held-on n node is within old grown new reading count held here grown_is size kept gone k it e =
      let longer = length-push old reading in
      let long : length grown ≡ length (old ++ reading ∷ []) = ap length grown_is in
      let inside = found-inside new k it e in
      elim (cases_order k n) [
        | inl same ↦
            let marked : IsMarked marks n = here it (sym (found-some grown k reading
            (ap (λ (list : List (Option R)). slice_get list k) grown_is ∙ ap (slice_get (old ++ reading ∷ [])) (same ∙ sym count) ∙ get-at old reading))
            ∙ still) in
            let later = used-later nodes roots marks uses course n ((course.exact n).0 marked) in
            let until : reader_at uses k ≡ reader_at uses n = ap (reader_at uses) same in
            (subst (IsMarked marks) (sym same) marked, omega arith)
        | inr (inl below) ↦
            let before : found old k ≡ Some it =
            sym (found-by grown old k (ap (λ (list : List (Option R)). slice_get list k) grown_is ∙ get-before old (reading ∷ []) k (omega arith))) ∙ still in
            let known = held k it before in
            let until : n ≤ reader_at uses k = omega (arith, known.1, count) in (
              known.0,
              elim (cases_order (reader_at uses k) n) [
                | inl last ↦
                    let among = is-argument nodes roots marks uses course n k node is within below last in
                    let empty = All-contains (λ arg. reader_at uses arg ≡ n → slice_get new arg ≡ Some None) node.args k gone among last in
                    absurd (none-some it (sym (found-some new k None empty) ∙ e))
                | inr (inl earlier) ↦ absurd (omega arith)
                | inr (inr later) ↦ omega arith
              ],
            )
        | inr (inr above) ↦ absurd (omega arith)
      ]
    where
      still : found grown k ≡ Some it
      still = elim (kept k) [
        | inl same ↦ sym (found-by new grown k same) ∙ e
        | inr away ↦ absurd (none-some it (sym (found-some new k None away.1) ∙ e))
      ]

  -- at the end the roots alone are held
  pub roots-held : (list : List (Option R)) → length list ≡ length marks → AreInUse marks uses list
      → (k : ℕ) (reading : R) → found list k ≡ Some reading → Contains roots k
  roots-held list count held k reading e =
      let known = held k reading e in
      let marked : k < length marks = slice_get_within marks k true known.0 in
      let until : length marks ≤ reader_at uses k = omega (arith, known.1, count) in
      elim (course.uses_of k) [
        | inl its_root ↦ its_root.0
        | inr last ↦ elim last.1 [
          | inl none ↦ absurd (omega arith)
          | inr reads ↦ let inside : reader_at uses k < length marks = slice_get_within marks (reader_at uses k) true reads.2 in absurd (omega arith)
        ]
      ]
