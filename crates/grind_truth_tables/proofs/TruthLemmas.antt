-- The truths of nodes, built one after the other.
use Rattle.std.proofs.Common.{◌≡◌, ℕ, zero, suc, ◌+◌, ◌<◌, ◌≤◌, Bool, true, false, true≢false, List, [], ◌∷◌, ◌++◌, All, Option, Some, None, IsSome, length, map, take, slice_get, refl, sym, ap, subst, ◌∙◌, arith, add-one, length-append, inl, inr}
use Rattle.std.proofs.lemmas.List.{length-take-le}
use Rattle.std.proofs.lemmas.List.Elements.{All-head, All-tail}
use Rattle.std.proofs.lemmas.Bool.{eq-eqb}
use Rattle.std.proofs.lemmas.Option.{slice_get_cases, none-some}
use Rattle.std.specs.Prelude.{option_and_then, nat_eq, if◌then◌else◌}
use Rattle.std.specs.Option.{option_map, option_or, IsSomeAnd}
use Rattle.grind_term_graph.specs.declared.head.Head.{Head}
use Rattle.grind_term_graph.specs.declared.head.Head.TheVariants as head
use Rattle.grind_term_graph.specs.declared.node.Node.{Node}
use Rattle.grind_truth_tables.specs.Tables.{free_truth, joined_truth, truth_at, node_truth, truths_of, truth_of}
use Rattle.grind_truth_tables.specs.Needed.{Lists, IsConnective, RestsOn}

-- as many truths as nodes
length_truths : (free : List ℕ) (truths : List Bool) (known : List (Option Bool)) (nodes : List Node) →
    length (truths_of free truths known nodes) ≡ length known + length nodes
length_truths free truths known [] = omega arith
length_truths free truths known (node ∷ nodes) =
    let more = known ++ node_truth free truths known (length known) node ∷ [] in
    let rest = length_truths free truths more nodes in
    let count : length more ≡ length known + 1 = simp length-append in
    omega (arith, rest, count)

-- one node more has one truth more
truths_more : (free : List ℕ) (truths : List Bool) (known : List (Option Bool)) (nodes : List Node) (n : ℕ) (node : Node) →
    slice_get nodes n ≡ Some node →
    truths_of free truths known (take (suc n) nodes)
    ≡ truths_of free truths known (take n nodes)
    ++ node_truth free truths (truths_of free truths known (take n nodes)) (length (truths_of free truths known (take n nodes))) node ∷ []
truths_more free truths known [] n node h = cc
truths_more free truths known (first ∷ nodes) zero node h =
    let e : first ≡ node = cc in
    ap (λ (it : Node). known ++ node_truth free truths known (length known) it ∷ []) e
truths_more free truths known (first ∷ nodes) (suc n) node h =
    truths_more free truths (known ++ node_truth free truths known (length known) first ∷ []) nodes n node h

-- an item of the front is one of the whole
get_front : {X : Type 0} (xs ys : List X) (n : ℕ) → n < length xs → slice_get (xs ++ ys) n ≡ slice_get xs n
get_front [] ys n h = absurd (omega arith)
get_front (x ∷ xs) ys zero h = refl
get_front (x ∷ xs) ys (suc n) h = get_front xs ys n (omega arith)

-- truths that are known stay
known_stay : (free : List ℕ) (truths : List Bool) (known : List (Option Bool)) (nodes : List Node) (n : ℕ) → n < length known →
    slice_get (truths_of free truths known nodes) n ≡ slice_get known n
known_stay free truths known [] n h = refl
known_stay free truths known (node ∷ nodes) n h =
    let truth = node_truth free truths known (length known) node in
    let count : length (known ++ truth ∷ []) ≡ length known + 1 = simp length-append in
    known_stay free truths (known ++ truth ∷ []) nodes n (omega (arith, count)) ∙ get_front known (truth ∷ []) n h

-- the truth of a node depends on the nodes up to it alone
front_decides : (free : List ℕ) (truths : List Bool) (known : List (Option Bool)) (nodes : List Node) (bound n : ℕ) →
    n < length known + bound →
    slice_get (truths_of free truths known (take bound nodes)) n ≡ slice_get (truths_of free truths known nodes) n
front_decides free truths known nodes zero n h = sym (known_stay free truths known nodes n (omega arith))
front_decides free truths known [] (suc bound) n h = refl
front_decides free truths known (node ∷ nodes) (suc bound) n h =
    let truth = node_truth free truths known (length known) node in
    let count : length (known ++ truth ∷ []) ≡ length known + 1 = simp length-append in
    front_decides free truths (known ++ truth ∷ []) nodes bound n (omega (arith, count))

-- below the bound, the truths of the first nodes are those of all
pub first_truths_agree : (free : List ℕ) (truths : List Bool) (nodes : List Node) (known : List (Option Bool)) (bound : ℕ) →
    known ≡ truths_of free truths [] (take bound nodes) →
    (n : ℕ) → n < bound → truth_at known n ≡ truth_of nodes free truths n
first_truths_agree free truths nodes known bound e n h =
    ap (λ (list : List (Option Bool)). truth_at list n) e
    ∙ ap (option_and_then (λ (truth : Option Bool). truth)) (front_decides free truths [] nodes bound n (omega arith))

-- the truth of the next node goes after those of the first nodes
pub truths_next : (free : List ℕ) (truths : List Bool) (nodes : List Node) (known : List (Option Bool)) (n : ℕ) (truth : Option Bool) →
    n < length nodes → known ≡ truths_of free truths [] (take n nodes) →
    Some truth ≡ option_map (node_truth free truths known n) (slice_get nodes n) →
    known ++ truth ∷ [] ≡ truths_of free truths [] (take (n + 1) nodes)
truths_next free truths nodes known n truth within e h =
    elim (slice_get_cases nodes n).1 [
      | inl found ↦
          let node = found.0 in
          let there = found.2 in
          let before = take n nodes in
          let first = truths_of free truths [] before in
          let front : length before ≡ n = length-take-le n nodes (omega arith) in
          let counted = length_truths free truths [] before in
          let count : length first ≡ n = omega (arith, counted, front) in
          let is : Option (Option Bool) = Some (node_truth free truths known n node) in
          let gives : option_map (node_truth free truths known n) (slice_get nodes n) ≡ is = ap (option_map (node_truth free truths known n)) there in
          let t : truth ≡ node_truth free truths known n node = cc in
          let more = truths_more free truths [] nodes n node there in
          let same : node_truth free truths first (length first) node ≡ node_truth free truths known n node =
          ap (λ m. node_truth free truths first m node) count ∙ ap (λ k. node_truth free truths k n node) (sym e) in
          rw add-one (ap (λ k. k ++ truth ∷ []) e
          ∙ ap (λ it. first ++ it ∷ []) (t ∙ sym same) ∙ sym more)
      | inr past ↦ let low = past.0 in absurd (omega arith)
    ]

-- an item after the others is the last
last_item : {X : Type 0} (xs : List X) (x : X) (n : ℕ) → n ≡ length xs → slice_get (xs ++ x ∷ []) n ≡ Some x
last_item [] x zero e = refl
last_item [] x (suc n) e = absurd (omega arith)
last_item (y ∷ xs) x zero e = absurd (omega arith)
last_item (y ∷ xs) x (suc n) e = last_item xs x n (omega arith)

-- two functions that agree on the arguments give the same list
map_agrees : (one other : ℕ → Option Bool) (args : List ℕ) → ((m : ℕ) → Lists args m → one m ≡ other m) → map one args ≡ map other args
unfolding Lists
map_agrees one other [] agree = refl
map_agrees one other (arg ∷ args) agree =
    ap (λ (first : Option Bool). first ∷ map one args) (agree arg (inl refl))
    ∙ ap (λ (rest : List (Option Bool)). other arg ∷ rest) (map_agrees one other args (λ m has. agree m (inr has)))

-- what stands below the bound, item by item
pub listed_below : (nodes : List ℕ) (bound m : ℕ) → All (λ n. n < bound) nodes → Lists nodes m → m < bound
unfolding Lists
listed_below [] bound m below has = absurd has
listed_below (n ∷ nodes) bound m below (inl e) = let low = All-head (λ n. n < bound) n nodes below in omega arith
listed_below (n ∷ nodes) bound m below (inr has) = listed_below nodes bound m (All-tail (λ n. n < bound) n nodes below) has

-- the truth of a node is made of those of its arguments, which stand before it
pub truth_of-from : (nodes : List Node) (free : List ℕ) (truths : List Bool) (n : ℕ) (node : Node) →
    slice_get nodes n ≡ Some node → n < length nodes → All (λ m. m < n) node.args →
    truth_of nodes free truths n
    ≡ option_or (free_truth free truths n) (joined_truth node.head (map (truth_of nodes free truths) node.args))
truth_of-from nodes free truths n node there within lower =
    let before = truths_of free truths [] (take n nodes) in
    let front : length (take n nodes) ≡ n = length-take-le n nodes (omega arith) in
    let counted = length_truths free truths [] (take n nodes) in
    let count : n ≡ length before = omega (arith, counted, front) in
    let truth = node_truth free truths before (length before) node in
    let here : truth_of nodes free truths n ≡ truth_at (truths_of free truths [] (take (suc n) nodes)) n =
    sym (first_truths_agree free truths nodes (truths_of free truths [] (take (suc n) nodes)) (suc n) refl n (omega arith)) in
    let last : truth_at (truths_of free truths [] (take (suc n) nodes)) n ≡ truth =
    ap (λ (list : List (Option Bool)). truth_at list n) (truths_more free truths [] nodes n node there)
    ∙ ap (option_and_then (λ (it : Option Bool). it)) (last_item before truth n count) in
    let args : map (truth_at before) node.args ≡ map (truth_of nodes free truths) node.args =
    map_agrees (truth_at before) (truth_of nodes free truths) node.args
    (λ m has. first_truths_agree free truths nodes before n refl m (listed_below node.args n m lower has)) in
    here ∙ last
    ∙ ap (λ (k : ℕ). option_or (free_truth free truths k) (joined_truth node.head (map (truth_at before) node.args))) (sym count)
    ∙ ap (λ (list : List (Option Bool)). option_or (free_truth free truths n) (joined_truth node.head list)) args

-- past the last node there is no truth
pub truth_of-past : (nodes : List Node) (free : List ℕ) (truths : List Bool) (n : ℕ) → length nodes ≤ n → truth_of nodes free truths n ≡ None
truth_of-past nodes free truths n past =
    let counted = length_truths free truths [] nodes in
    ap (option_and_then (λ (it : Option Bool). it)) (none_past (truths_of free truths [] nodes) n (omega (arith, counted)))
  where
    none_past : {X : Type 0} (xs : List X) (n : ℕ) → length xs ≤ n → slice_get xs n ≡ None
    none_past [] n le = refl
    none_past (x ∷ xs) zero le = absurd (omega arith)
    none_past (x ∷ xs) (suc n) le = none_past xs n (omega arith)

-- a test that leaves nothing was false, and nothing was left
by_test : (here : Bool) (truth : Bool) (rest : Option Bool) → (if here then Some truth else rest) ≡ None → (here ≡ false) × (rest ≡ None)
by_test true truth rest e = absurd (none-some truth (sym e))
by_test false truth rest e = (refl, e)

-- a free node has a truth where there is one for each free node
free_has_truth : (free : List ℕ) (truths : List Bool) (n : ℕ) → length free ≤ length truths → free_truth free truths n ≡ None → ¬ Lists free n
unfolding Lists
free_has_truth [] truths n count none has = absurd has
free_has_truth (f ∷ free) [] n count none has = absurd (omega arith)
free_has_truth (f ∷ free) (t ∷ truths) n count none (inl same) =
    let other = (by_test (nat_eq f n) t (free_truth free truths n) none).0 in
    true≢false (sym (eq-eqb f n (sym same)) ∙ other)
free_has_truth (f ∷ free) (t ∷ truths) n count none (inr has) =
    free_has_truth free truths n (omega arith) (by_test (nat_eq f n) t (free_truth free truths n) none).1 has

-- what a head makes of truths that agree where it asks for them
joined_agrees : (it : Head) (one other : ℕ → Option Bool) (args : List ℕ) →
    (IsConnective it → (m : ℕ) → Lists args m → one m ≡ other m) → joined_truth it (map one args) ≡ joined_truth it (map other args)
joined_agrees head.True one other args agree = refl
joined_agrees head.False one other args agree = refl
joined_agrees head.Not one other args agree = ap (joined_truth head.Not) (map_agrees one other args (agree tt))
joined_agrees head.And one other args agree = ap (joined_truth head.And) (map_agrees one other args (agree tt))
joined_agrees head.Or one other args agree = ap (joined_truth head.Or) (map_agrees one other args (agree tt))
joined_agrees head.Implies one other args agree = ap (joined_truth head.Implies) (map_agrees one other args (agree tt))
joined_agrees head.Eq one other args agree = ap (joined_truth head.Eq) (map_agrees one other args (agree tt))
joined_agrees head.Le one other args agree = refl
joined_agrees (head.Int number) one other args agree = refl
joined_agrees head.Add one other args agree = refl
joined_agrees head.Neg one other args agree = refl
joined_agrees head.Mul one other args agree = refl
joined_agrees (head.Fun function) one other args agree = refl
joined_agrees (head.Const constant) one other args agree = refl

-- of a node that an assignment makes true or false
pub truth_chosen : (nodes : List Node) (free : List ℕ) (truths : List Bool) (n : ℕ) (node : Node) (chosen : Option Bool) →
    slice_get nodes n ≡ Some node → n < length nodes → All (λ m. m < n) node.args → chosen ≡ free_truth free truths n → IsSome chosen →
    chosen ≡ truth_of nodes free truths n
truth_chosen nodes free truths n node None there within lower is some = absurd cc
truth_chosen nodes free truths n node (Some truth) there within lower is some =
    ap (λ (o : Option Bool). option_or o (joined_truth node.head (map (truth_of nodes free truths) node.args))) is
    ∙ sym (truth_of-from nodes free truths n node there within lower)

-- of another node, from the truths on which it rests
pub truth_joined : (nodes : List Node) (free : List ℕ) (truths : List Bool) (look : ℕ → Option Bool) (n : ℕ) (node : Node)
    (chosen : Option Bool) → slice_get nodes n ≡ Some node → n < length nodes → All (λ m. m < n) node.args →
    length free ≤ length truths → chosen ≡ free_truth free truths n → (IsSome chosen → ⊥) →
    ((m : ℕ) → RestsOn nodes free n m → look m ≡ truth_of nodes free truths m) →
    joined_truth node.head (map look node.args) ≡ truth_of nodes free truths n
truth_joined nodes free truths look n node (Some truth) there within lower count is none told = absurd (none refl)
truth_joined nodes free truths look n node None there within lower count is none told =
    let outside = free_has_truth free truths n count (sym is) in
    let P : Option Node → ℕ → Type 0 = λ o m. IsSomeAnd o (λ (it : Node). IsConnective it.head × Lists it.args m) in
    let rests : IsConnective node.head → (m : ℕ) → Lists node.args m → look m ≡ truth_of nodes free truths m =
    λ connective m has. told m (outside, subst (λ (o : Option Node). P o m) (sym there) (connective, has)) in
    joined_agrees node.head look (truth_of nodes free truths) node.args rests
    ∙ ap (λ (o : Option Bool). option_or o (joined_truth node.head (map (truth_of nodes free truths) node.args))) is
    ∙ sym (truth_of-from nodes free truths n node there within lower)
