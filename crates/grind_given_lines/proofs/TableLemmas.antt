-- The table of one free formula: where the formula that it negates is known, so is the formula, and the other way round.
use Rattle.std.specs.Prelude.{ℕ, ◌≡◌, zero, suc, ◌+◌, ◌<◌, Bool, true, false, not, List, [], ◌∷◌, ◌++◌, Option, Some, None, IsSome, All, length, map, take, slice_get, if◌then◌else◌, refl}
use Rattle.std.specs.Option.{option_map, option_or}
use Rattle.std.proofs.Common.{arith, sym, ap, ◌∙◌, subst, inl, inr, length-append}
use Rattle.std.proofs.lemmas.Bool.{ne_eqb}
use Rattle.std.proofs.lemmas.Bool.Decides.{eqb_tells}
use Rattle.std.proofs.lemmas.List.{length-take-le}
use Rattle.std.proofs.lemmas.List.Elements.{All-nil, All-cons}
use Rattle.std.proofs.lemmas.Option.{slice_get_within}
use Rattle.grind_term_graph.specs.declared.head.Head.TheVariants as head
use Rattle.grind_term_graph.specs.declared.head.Head.{Head}
use Rattle.grind_term_graph.specs.declared.node.Node.{Node}
use Rattle.grind_term_graph.specs.Terms.{prop, sort_at}
use Rattle.grind_term_graph.specs.Shape.{IsTable}
use Rattle.grind_term_graph.proofs.Tables.{WellShaped-at}
use Rattle.grind_claims.specs.declared.claim.Claim.{Claim}
use Rattle.grind_rules.specs.Tables.{free_truth, unary_truth, joined_truth, truth_at, node_truth, truths_of, truth_of, literal_truth, Follows, IsTableRule}
use Rattle.grind_truth_tables.proofs.TruthLemmas.{first_truths_agree, truths_next}
use Rattle.grind_goal_equations.specs.Congruences.{IsNegation}
use Rattle.grind_given_lines.specs.Writing.{literal}
use Rattle.grind_goal_equations.proofs.LawLemmas.{some_item}
use Rattle.grind_goal_equations.proofs.FactLemmas.{formula_within}

-- as many truths as nodes
count_truths : (free : List ℕ) (truths : List Bool) (known : List (Option Bool)) (nodes : List Node) →
    length (truths_of free truths known nodes) ≡ length known + length nodes
count_truths free truths known [] = omega arith
count_truths free truths known (node ∷ nodes) =
    let more = known ++ node_truth free truths known (length known) node ∷ [] in
    let rest = count_truths free truths more nodes in
    let count : length more ≡ length known + 1 = simp length-append in
    omega (arith, rest, count)

last_truth : (known : List (Option Bool)) (truth : Option Bool) (n : ℕ) → length known ≡ n → truth_at (known ++ truth ∷ []) n ≡ truth
last_truth [] truth zero e = refl
last_truth [] truth (suc n) e = absurd (omega arith)
last_truth (first ∷ known) truth zero e = absurd (omega arith)
last_truth (first ∷ known) truth (suc n) e = last_truth known truth n (omega arith)

-- the truth of a node, from those of the nodes before it
truth_of_node : (nodes : List Node) (free : List ℕ) (truths : List Bool) (n : ℕ) (node : Node) → slice_get nodes n ≡ Some node →
    truth_of nodes free truths n ≡ node_truth free truths (truths_of free truths [] (take n nodes)) n node
truth_of_node nodes free truths n node stands =
    let within : n < length nodes = slice_get_within nodes n node stands in
    let known : List (Option Bool) = truths_of free truths [] (take n nodes) in
    let truth : Option Bool = node_truth free truths known n node in
    let gives : Some truth ≡ option_map (node_truth free truths known n) (slice_get nodes n) =
    sym (ap (option_map (node_truth free truths known n)) stands) in
    let longer = truths_next free truths nodes known n truth within refl gives in
    let front : length (take n nodes) ≡ n = length-take-le n nodes (omega arith) in
    let counted = count_truths free truths [] (take n nodes) in
    let count : length known ≡ n = omega (arith, counted, front) in
    sym (first_truths_agree free truths nodes (known ++ truth ∷ []) (n + 1) longer n (omega arith)) ∙ last_truth known truth n count

item_at : (nodes : List Node) (n : ℕ) → n < length nodes → (node : Node) × (slice_get nodes n ≡ Some node)
item_at [] n within = absurd (omega arith)
item_at (node ∷ nodes) zero within = (node, refl)
item_at (node ∷ nodes) (suc n) within = item_at nodes n (omega arith)

free_itself : (m : ℕ) (t : Bool) → free_truth (m ∷ []) (t ∷ []) m ≡ Some t
free_itself m t = elim (eqb_tells m m) [
  | inl is ↦ ap (λ (b : Bool). if b then Some t else None) is.0
  | inr is ↦ absurd (is.1 refl)
]

free_other : (m n : ℕ) (t : Bool) → m < n → free_truth (m ∷ []) (t ∷ []) n ≡ None
free_other m n t below =
    ap (λ (b : Bool). if b then Some t else None) (ne_eqb m n (λ e. absurd (omega arith)))

-- the free formula has the truth that it is given
free_node_truth : (nodes : List Node) (m : ℕ) (t : Bool) → m < length nodes → truth_of nodes (m ∷ []) (t ∷ []) m ≡ Some t
free_node_truth nodes m t within =
    let item = item_at nodes m within in
    let known : List (Option Bool) = truths_of (m ∷ []) (t ∷ []) [] (take m nodes) in
    truth_of_node nodes (m ∷ []) (t ∷ []) m item.0 item.1
    ∙ ap (λ (o : Option Bool). option_or o (joined_truth item.0.head (map (truth_at known) item.0.args))) (free_itself m t)

-- its negation has the other
negation_truth : (nodes : List Node) (m n : ℕ) (t : Bool) → IsTable [] nodes → IsNegation nodes n m →
    truth_of nodes (m ∷ []) (t ∷ []) n ≡ Some (not t)
negation_truth nodes m n t table is =
    let found = some_item (λ (it : Node). (it.head ≡ head.Not) × (it.args ≡ m ∷ [])) (slice_get nodes n) is in
    let it : Node = found.0 in
    let within : n < length nodes = slice_get_within nodes n it found.1 in
    let shaped = WellShaped-at [] nodes n it table found.1 in
    let args : All (λ (arg : ℕ). arg < length (take n nodes)) (m ∷ []) =
    subst (λ (list : List ℕ). All (λ (arg : ℕ). arg < length (take n nodes)) list) found.2.1 shaped.0 in
    let count : length (take n nodes) ≡ n = length-take-le n nodes (omega arith) in
    let first : m < length (take n nodes) = args 0 0 (omega arith) in
    let below : m < n = omega (arith, first, count) in
    let known : List (Option Bool) = truths_of (m ∷ []) (t ∷ []) [] (take n nodes) in
    let inner : truth_at known m ≡ Some t =
    first_truths_agree (m ∷ []) (t ∷ []) nodes known n refl m below ∙ free_node_truth nodes m t (omega (arith, below, within)) in
    truth_of_node nodes (m ∷ []) (t ∷ []) n it found.1
    ∙ ap (λ (o : Option Bool). option_or o (joined_truth it.head (map (truth_at known) it.args))) (free_other m n t below)
    ∙ ap (λ (h : Head). joined_truth h (map (truth_at known) it.args)) found.2.0
    ∙ ap (λ (list : List ℕ). unary_truth not (map (truth_at known) list)) found.2.1
    ∙ ap (λ (o : Option Bool). unary_truth not (o ∷ [])) inner

one_expressed : (truth : ℕ → Option Bool) (claim : Claim) → IsSome (literal_truth truth claim) →
    All (λ premise. IsSome (literal_truth truth premise)) (claim ∷ [])
one_expressed truth claim h =
    let P : Claim → Type 0 = λ premise. IsSome (literal_truth truth premise) in All-cons P claim [] h (All-nil P)

-- what follows of a formula from what its negation is
turned_follows : (truth : ℕ → Option Bool) (m n : ℕ) (holds t : Bool) → truth m ≡ Some t → truth n ≡ Some (not t) →
    Follows truth (literal holds n ∷ []) (literal (not holds) m)
turned_follows truth m n true t free negation = record {
  expressed = one_expressed truth (literal true n) cc;
  concluded = cc;
  follows = λ held. let first : literal_truth truth (literal true n) ≡ Some true = held 0 (literal true n) (omega arith) in cc;
}
turned_follows truth m n false true free negation = record {
  expressed = one_expressed truth (literal false n) cc;
  concluded = cc;
  follows = λ held. cc;
}
turned_follows truth m n false false free negation = record {
  expressed = one_expressed truth (literal false n) cc;
  concluded = cc;
  follows = λ held. let first : literal_truth truth (literal false n) ≡ Some true = held 0 (literal false n) (omega arith) in absurd cc;
}

always_turned : (nodes : List Node) (m n : ℕ) (holds : Bool) (truths : List Bool) → IsTable [] nodes → m < length nodes → IsNegation nodes n m →
    length truths ≡ 1 → Follows (truth_of nodes (m ∷ []) truths) (literal holds n ∷ []) (literal (not holds) m)
always_turned nodes m n holds [] table within is count = absurd (omega arith)
always_turned nodes m n holds (t ∷ []) table within is count =
    turned_follows (truth_of nodes (m ∷ []) (t ∷ [])) m n holds t (free_node_truth nodes m t within) (negation_truth nodes m n t table is)
always_turned nodes m n holds (t ∷ u ∷ rest) table within is count = absurd (omega arith)

-- the rule `table`, with the equation as the free formula
pub turned_table : (nodes : List Node) (m n : ℕ) (holds : Bool) → IsTable [] nodes → IsNegation nodes n m → sort_at nodes m ≡ Some prop →
    IsTableRule nodes (m ∷ []) (literal holds n ∷ []) (literal (not holds) m)
turned_table nodes m n holds table is formula = record {
  few = omega arith;
  different = λ i j d before within. absurd (omega arith);
  formulas = All-cons (λ (k : ℕ). sort_at nodes k ≡ Some prop) m [] formula (All-nil (λ (k : ℕ). sort_at nodes k ≡ Some prop));
  always = λ truths count. always_turned nodes m n holds truths table (formula_within nodes m formula) is count;
}
