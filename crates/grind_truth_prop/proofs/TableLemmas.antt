-- The truths that an assignment to free nodes gives other nodes.
use Rattle.std.specs.Prelude.{◌≡◌, ℕ, zero, suc, ◌<◌, ◌+◌, Bool, List, [], ◌∷◌, ◌++◌, Option, Some, None, All, Contains, length, map, take, nat_eq, slice_get, slice_index_or, refl}
use Rattle.std.specs.Option.{option_map, option_or}
use Rattle.std.proofs.Common.{arith, sym, ap, ◌∙◌, inl, inr, length-append}
use Rattle.std.proofs.lemmas.Bool.{cases_Bool, cond-true, cond-false, eq-eqb, eqb-true, ne_eqb, both_ways}
use Rattle.std.proofs.lemmas.List.{length-take-le}
use Rattle.std.proofs.lemmas.List.Elements.{All-head, All-tail}
use Rattle.std.proofs.lemmas.Option.{slice_get_within}
use Rattle.grind_term_graph.specs.declared.node.Node.{Node}
use Rattle.grind_truth_prop.proofs.KernelLemmas.{free_truth, joined_truth, truth_at, node_truth, truths_of, truth_of, first_truths_agree, truths_next}
use Rattle.grind_truth_prop.proofs.TermLemmas.{first_or_other}

-- an assignment gives each free node a truth
pub truth_in_free : (free : List ℕ) (truths : List Bool) (m : ℕ) → length truths ≡ length free → Contains free m
    → (truth : Bool) × (free_truth free truths m ≡ Some truth)
truth_in_free [] truths m count has = absurd (omega (arith, has.1))
truth_in_free (f ∷ free) [] m count has = absurd (omega arith)
truth_in_free (f ∷ free) (t ∷ truths) m count has = elim (cases_Bool (nat_eq f m)) [
  | inl is ↦ (t, cond-true (nat_eq f m) (Some t) (free_truth free truths m) is)
  | inr other ↦ elim (first_or_other f free m has) [
    | inl is ↦ absurd (both_ways (nat_eq f m) other (eq-eqb f m (sym is)))
    | inr also ↦
        let rest = truth_in_free free truths m (omega (arith, count)) also in
        (rest.0, cond-false (nat_eq f m) (Some t) (free_truth free truths m) other ∙ rest.1)
  ]
]

-- and no other node
pub no_truth_outside : (free : List ℕ) (truths : List Bool) (m : ℕ) → ¬ Contains free m → free_truth free truths m ≡ None
no_truth_outside [] truths m none = refl
no_truth_outside (f ∷ free) [] m none = refl
no_truth_outside (f ∷ free) (t ∷ truths) m none =
    cond-false (nat_eq f m) (Some t) (free_truth free truths m) (ne_eqb f m (λ e. none (0, omega arith, e)))
    ∙ no_truth_outside free truths m (λ has. none (suc has.0, omega (arith, has.1), has.2))

-- the truths of the free nodes give each its own
pub truth_of_free : (truth : ℕ → Bool) (free : List ℕ) (m : ℕ) → Contains free m → free_truth free (map truth free) m ≡ Some (truth m)
truth_of_free truth [] m has = absurd (omega (arith, has.1))
truth_of_free truth (f ∷ free) m has = elim (cases_Bool (nat_eq f m)) [
  | inl is ↦
      cond-true (nat_eq f m) (Some (truth f)) (free_truth free (map truth free) m) is
      ∙ ap (λ k. Some (truth k)) (eqb-true f m is)
  | inr other ↦ elim (first_or_other f free m has) [
    | inl is ↦ absurd (both_ways (nat_eq f m) other (eq-eqb f m (sym is)))
    | inr also ↦
        cond-false (nat_eq f m) (Some (truth f)) (free_truth free (map truth free) m) other ∙ truth_of_free truth free m also
  ]
]

-- as many truths as nodes
truths_count : (free : List ℕ) (truths : List Bool) (known : List (Option Bool)) (nodes : List Node)
    → length (truths_of free truths known nodes) ≡ length known + length nodes
truths_count free truths known [] = omega arith
truths_count free truths known (node ∷ nodes) =
    let more = known ++ node_truth free truths known (length known) node ∷ [] in
    let rest = truths_count free truths more nodes in
    let count : length more ≡ length known + 1 = simp length-append in
    omega (arith, rest, count)

last_at : (xs : List (Option Bool)) (x : Option Bool) (n : ℕ) → length xs ≡ n → truth_at (xs ++ x ∷ []) n ≡ x
last_at [] x zero e = refl
last_at [] x (suc n) e = absurd (omega arith)
last_at (y ∷ xs) x zero e = absurd (omega arith)
last_at (y ∷ xs) x (suc n) e = last_at xs x n (omega (arith, e))

map_same : (f g : ℕ → Option Bool) (xs : List ℕ) → All (λ x. f x ≡ g x) xs → map f xs ≡ map g xs
map_same f g [] h = refl
map_same f g (x ∷ xs) h =
    let first : f x ≡ g x = All-head (λ k. f k ≡ g k) x xs h in
    let rest = map_same f g xs (All-tail (λ k. f k ≡ g k) x xs h) in
    (λ i. first i ∷ rest i)

-- the truth of a node is its own where it is free, else what its head makes of those of its arguments
pub truth_at_node : (free : List ℕ) (truths : List Bool) (nodes : List Node) (n : ℕ) (node : Node) → slice_get nodes n ≡ Some node
    → All (λ arg. arg < n) node.args
    → truth_of nodes free truths n
    ≡ option_or (free_truth free truths n) (joined_truth node.head (map (truth_of nodes free truths) node.args))
truth_at_node free truths nodes n node there lower =
    let before = truths_of free truths [] (take n nodes) in
    let truth : Option Bool = node_truth free truths before n node in
    let within = slice_get_within nodes n node there in
    let front : length (take n nodes) ≡ n = length-take-le n nodes (omega (arith, within)) in
    let counted = truths_count free truths [] (take n nodes) in
    let count : length before ≡ n = omega (arith, counted, front) in
    let gives : Some truth ≡ option_map (node_truth free truths before n) (slice_get nodes n) =
    sym (ap (option_map (node_truth free truths before n)) there) in
    let next = truths_next free truths nodes before n truth within refl gives in
    let agree = first_truths_agree free truths nodes (before ++ truth ∷ []) (n + 1) next n (omega arith) in
    let args = map_same (truth_at before) (truth_of nodes free truths) node.args
    (λ k d l. first_truths_agree free truths nodes before n refl (slice_index_or node.args k d) (lower k d l)) in
    sym agree ∙ last_at before truth n count
    ∙ ap (λ ts. option_or (free_truth free truths n) (joined_truth node.head ts)) args
