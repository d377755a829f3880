-- A table of values respects the first nodes exactly where each of them keeps what it has to.
use Rattle.std.specs.Prelude.{◌≡◌, ℕ, zero, suc, ◌+◌, ◌<◌, ◌⊎◌, ◌↔◌, Bool, false, IsTrue, List, Some, length, map, take, slice_get, ℤ, refl}
use Rattle.std.proofs.Common.{arith, sym, ap, ◌∙◌, subst, inl, inr}
use Rattle.std.proofs.lemmas.Bool.{true≢false}
use Rattle.grind_term_graph.specs.declared.node.Node.{Node}
use Rattle.grind_term_graph.specs.Terms.{prop}
use Rattle.grind_value_tables.specs.Respects.{Means, IsTruthValue, AreOneApplication, Respects}
use Rattle.grind_value_tables.specs.Overflows.{value_of, AsksTooMuch, Overflows}
use Rattle.grind_value_tables.specs.NodeByNode.{AgreesBefore, Keeps, KeepsAt, AsksTooMuchAt}
use Rattle.grind_value_tables.proofs.Fronts.{IsSomeAnd-at, IsSomeAnd-from, IsSomeAnd-within, item_below, of_front, in_front, whole_front}

-- which of two numbers is less, if they differ
by_order : (m n : ℕ) → (m < n) ⊎ ((m ≡ n) ⊎ (n < m))
by_order zero zero = inr (inl refl)
by_order zero (suc n) = inl (omega arith)
by_order (suc m) zero = inr (inr (omega arith))
by_order (suc m) (suc n) = elim (by_order m n) [
  | inl less ↦ inl (omega arith)
  | inr (inl equal) ↦ inr (inl (ap suc equal))
  | inr (inr more) ↦ inr (inr (omega arith))
]

module _ (nodes : List Node) (v : ℕ → ℤ) where
  -- the first nodes, so many of them, keep what they have to, and none asks for too much
  pub record Underway (count : ℕ) : Type 0 where
    pub keep : (n : ℕ) → n < count → KeepsAt nodes v n
    pub fit : (n : ℕ) → n < count → AsksTooMuchAt nodes v n → ⊥

  -- one application of a function is another, and that is the one
  turned : (first second : Node) → AreOneApplication v first second → AreOneApplication v second first
  turned first second same = (same.0, same.2, same.1, sym same.3)

  -- what node n keeps
  kept : (n : ℕ) (node : Node) → KeepsAt nodes v n → slice_get nodes n ≡ Some node → Keeps nodes v n node
  kept n node keeps is = IsSomeAnd-at (slice_get nodes n) (Keeps nodes v n) node is keeps

  -- where the first nodes keep what they have to, the table respects them
  respects_front : (count : ℕ) → ((n : ℕ) → n < count → KeepsAt nodes v n) → Respects (take count nodes) v
  respects_front count keep = record {
    heads = λ n node e.
        let at = of_front count nodes n node e in (kept n node (keep n at.0) at.1).head;
    formulas = λ n node e sort.
        let at = of_front count nodes n node e in (kept n node (keep n at.0) at.1).formula sort;
    functions = λ m n first second e f same.
        let here = of_front count nodes m first e in
        let there = of_front count nodes n second f in
        elim (by_order m n) [
          | inl below ↦ (kept n second (keep n there.0) there.1).agrees m below first here.1 same
          | inr (inl equal) ↦ ap v equal
          | inr (inr above) ↦
              sym ((kept m first (keep m here.0) here.1).agrees n above second there.1 (turned first second same))
        ];
  }

  -- where the table respects the first nodes, each of them keeps what it has to
  keeps_front : (count n : ℕ) → n < count → n < length nodes → Respects (take count nodes) v → KeepsAt nodes v n
  keeps_front count n below within respects =
      let it = item_below nodes n within in
      let here = in_front count nodes n it.0 below it.1 in
      IsSomeAnd-from (slice_get nodes n) (Keeps nodes v n) it.0 it.1 record {
        head = respects.heads n it.0 here;
        formula = respects.formulas n it.0 here;
        agrees = λ m before first is same.
            respects.functions m n first it.0 (in_front count nodes m first (omega arith) is) here same;
      }

  -- no node was judged yet
  pub none_yet : Underway 0
  none_yet = record { keep = λ n below. absurd (omega arith); fit = λ n below. absurd (omega arith) }

  -- one more node was judged
  pub one_more : (n : ℕ) → Underway n → KeepsAt nodes v n → (AsksTooMuchAt nodes v n → ⊥) → Underway (n + 1)
  one_more n so_far keeps fits = record {
    keep = λ m below. elim (by_order m n) [
      | inl before ↦ so_far.keep m before
      | inr (inl equal) ↦ subst (KeepsAt nodes v) (sym equal) keeps
      | inr (inr after) ↦ absurd (omega arith)
    ];
    fit = λ m below asks. elim (by_order m n) [
      | inl before ↦ so_far.fit m before asks
      | inr (inl equal) ↦ fits (subst (AsksTooMuchAt nodes v) equal asks)
      | inr (inr after) ↦ absurd (omega arith)
    ];
  }

  -- where the next node asks for too much, the judging overflows
  pub overflows_here : (n : ℕ) → Underway n → AsksTooMuchAt nodes v n → Overflows nodes v
  overflows_here n so_far asks = (n, (respects_front n so_far.keep, asks))

  -- a node that asks for too much stands in the list
  asks_within : (n : ℕ) → AsksTooMuchAt nodes v n → n < length nodes
  asks_within n asks = IsSomeAnd-within nodes n (λ (node : Node). AsksTooMuch node.head (map v node.args)) asks

  -- where the next node does not keep what it has to, the table does not respect the nodes
  pub broken_here : (n : ℕ) → n < length nodes → (KeepsAt nodes v n → ⊥) → Respects nodes v → ⊥
  broken_here n within breaks respects =
      breaks (keeps_front (length nodes) n within within (subst (λ ns. Respects ns v) (sym (whole_front nodes)) respects))

  -- and no later node is judged
  pub stops_here : (n : ℕ) → n < length nodes → Underway n → (KeepsAt nodes v n → ⊥) → (AsksTooMuchAt nodes v n → ⊥)
      → Overflows nodes v → ⊥
  stops_here n within so_far breaks fits over = elim (by_order over.0 n) [
    | inl before ↦ so_far.fit over.0 before over.1.1
    | inr (inl equal) ↦ fits (subst (AsksTooMuchAt nodes v) equal over.1.1)
    | inr (inr after) ↦ breaks (keeps_front over.0 n after within over.1.0)
  ]

  -- where all nodes were judged, the table respects them
  pub all_keep : (count : ℕ) → count ≡ length nodes → Underway count → Respects nodes v
  all_keep count all so_far =
      subst (λ ns. Respects ns v) (whole_front nodes)
      (subst (λ n. Respects (take n nodes) v) all (respects_front count so_far.keep))

  -- and none asked for too much
  pub all_fit : (count : ℕ) → count ≡ length nodes → Underway count → Overflows nodes v → ⊥
  all_fit count all so_far over =
      let within = asks_within over.0 over.1.1 in so_far.fit over.0 (omega arith) over.1.1

  -- what node n keeps, from its parts
  pub keeps_from : (n : ℕ) (node : Node) → slice_get nodes n ≡ Some node → Keeps nodes v n node → KeepsAt nodes v n
  keeps_from n node is keeps = IsSomeAnd-from (slice_get nodes n) (Keeps nodes v n) node is keeps

  pub keeps_parts : (n : ℕ) (node : Node) → slice_get nodes n ≡ Some node → KeepsAt nodes v n → Keeps nodes v n node
  keeps_parts n node is keeps = kept n node keeps is

  -- whether node n keeps what it has to, once all but the applications before it is known: n, its arguments and its value
  -- may be given by other names
  pub keeps_iff : (n id place : ℕ) (node : Node) (args : List ℕ) (given : ℤ) (result : Bool) → id ≡ n → place ≡ n
      → slice_get nodes id ≡ Some node → args ≡ node.args → given ≡ v place → Means node.head (map v args) given
      → (node.sort ≡ prop → IsTruthValue given) → (IsTrue result ↔ AgreesBefore nodes v n node (v n))
      → IsTrue result ↔ KeepsAt nodes v n
  keeps_iff n id place node args given result e f is same_args same_value head formula agrees =
      let stands : slice_get nodes n ≡ Some node = subst (λ m. slice_get nodes m ≡ Some node) e is in
      let value : given ≡ v n = same_value ∙ ap v f in
      let means : Means node.head (map v node.args) (v n) =
      subst (λ xs. Means node.head (map v xs) (v n)) same_args (subst (λ z. Means node.head (map v args) z) value head) in
      let suits : node.sort ≡ prop → IsTruthValue (v n) = subst (λ z. node.sort ≡ prop → IsTruthValue z) value formula in (
        λ yes. keeps_from n node stands record { head = means; formula = suits; agrees = agrees.0 yes },
        λ keeps. agrees.1 (keeps_parts n node stands keeps).agrees,
      )

-- the same where the code reads the values from a list of another name, and knows by its answer what node n keeps
module _ (nodes : List Node) (list values : List ℤ) (n : ℕ) where
  pub asks_of : list ≡ values → AsksTooMuchAt nodes (value_of list) n → AsksTooMuchAt nodes (value_of values) n
  asks_of e asks = subst (λ xs. AsksTooMuchAt nodes (value_of xs) n) e asks

  -- the answer is no, so the node does not keep it
  breaks_of : (keeps : Bool) → list ≡ values → keeps ≡ false → (IsTrue keeps ↔ KeepsAt nodes (value_of list) n)
      → KeepsAt nodes (value_of values) n → ⊥
  breaks_of keeps e refused exact it =
      let yes = exact.1 (subst (λ xs. KeepsAt nodes (value_of xs) n) (sym e) it) in true≢false (sym yes ∙ refused)

  pub broken_by : (keeps : Bool) → list ≡ values → n < length nodes → keeps ≡ false
      → (IsTrue keeps ↔ KeepsAt nodes (value_of list) n) → Respects nodes (value_of values) → ⊥
  broken_by keeps e within refused exact respects =
      broken_here nodes (value_of values) n within (breaks_of keeps e refused exact) respects

  pub stopped_by : (keeps : Bool) → list ≡ values → n < length nodes → Underway nodes (value_of values) n → keeps ≡ false
      → (IsTrue keeps ↔ KeepsAt nodes (value_of list) n) → (IsTrue false ↔ AsksTooMuchAt nodes (value_of list) n)
      → Overflows nodes (value_of values) → ⊥
  stopped_by keeps e within so_far refused exact fits over =
      stops_here nodes (value_of values) n within so_far (breaks_of keeps e refused exact)
      (λ asks. true≢false (sym (fits.1 (subst (λ xs. AsksTooMuchAt nodes (value_of xs) n) (sym e) asks)))) over
