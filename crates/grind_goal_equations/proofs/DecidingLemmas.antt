-- What a closure of the given pairs decides.
use Rattle.std.specs.Prelude.{ℕ, ◌≡◌, zero, suc, ◌<◌, List, [], ◌∷◌, Some, All, Contains, length, map, take, slice_get, ◌↔◌, refl}
use Rattle.std.specs.List.{AllZip}
use Rattle.std.proofs.Common.{arith, ap, subst, inl, inr}
use Rattle.std.proofs.lemmas.List.{length-take-le}
use Rattle.std.proofs.lemmas.List.Elements.{All-cons, All-weaker}
use Rattle.std.proofs.lemmas.Option.{slice_get_within}
use Rattle.grind_term_graph.specs.declared.node.Node.{Node}
use Rattle.grind_term_graph.specs.Shape.{IsTable}
use Rattle.grind_term_graph.proofs.Tables.{WellShaped-at}
use Rattle.grind_schemes.specs.Goals.{GoalData}
use Rattle.grind_classes.specs.Classes.{IsActive, AreTogether}
use Rattle.grind_congruence.specs.declared.edge.Edge.{Edge}
use Rattle.grind_congruence.specs.Congruence.{Congruence}
use Rattle.grind_congruence.specs.Edges.{Passes, Leads, Joins, AreClassesOf}
use Rattle.grind_congruence.specs.Derivable.{Derivable, DerivableRow}
use Rattle.grind_congruence.specs.Derivable.Derivable.{given, reflexive, symmetric, transitive, congruent}
use Rattle.grind_congruence.specs.Derivable.DerivableRow.{no_more, and_more}
use Rattle.grind_congruence.specs.Exact.{pair_of}
use Rattle.grind_congruence.proofs.ExactLemmas.{exact_at_rest}
use Rattle.grind_goal_equations.specs.declared.fact.Fact.{Fact}
use Rattle.grind_goal_equations.specs.Congruences.{IsGiven, IsNodeOf, FollowsFromGiven, CongruenceEntails}
use Rattle.grind_goal_equations.specs.Building.{IsFounded, AreFounded, HasEnds, IsClosure}
use Rattle.grind_goal_equations.specs.Given.{IsOfSource, IsGivenEdge, CoversAll, IsRefuted, NoneRefuted}
use Rattle.grind_goal_equations.proofs.BuildingLemmas.{All-contains}
use Rattle.grind_goal_equations.proofs.FactLemmas.{fact_denied}
use Rattle.grind_goal_equations.proofs.GivenLemmas.{sources_pairs, sources_ends}

-- what is derivable from pairs that are derivable from others is derivable from these
module _ (nodes : List Node) (pairs others : List (ℕ × ℕ)) (Among Within : ℕ → Type 0)
    (each : (a b : ℕ) → Contains pairs (a, b) → Among a → Among b → Derivable nodes others Within a b) (among : (a : ℕ) → Among a → Within a) where
  mutual
    cut : {a b : ℕ} → Derivable nodes pairs Among a b → Derivable nodes others Within a b
    cut (given {a = a} {b = b} has left right) = each a b has left right
    cut (reflexive {a = a} here) = reflexive (among a here)
    cut (symmetric d) = symmetric (cut d)
    cut (transitive first second) = transitive (cut first) (cut second)
    cut (congruent {a = a} {b = b} left right here there left_is right_is head sort some row) =
        congruent left right (among a here) (among b there) left_is right_is head sort some (cut_row row)

    cut_row : {xs ys : List ℕ} → DerivableRow nodes pairs Among xs ys → DerivableRow nodes others Within xs ys
    cut_row no_more = no_more
    cut_row (and_more d row) = and_more (cut d) (cut_row row)

-- what is derivable is of the nodes on the way
derivable_among : {nodes : List Node} {pairs : List (ℕ × ℕ)} {Among : ℕ → Type 0} {a b : ℕ} → Derivable nodes pairs Among a b → Among a × Among b
derivable_among (given has left right) = (left, right)
derivable_among (reflexive here) = (here, here)
derivable_among (symmetric d) = let both = derivable_among d in (both.1, both.0)
derivable_among (transitive first second) = ((derivable_among first).0, (derivable_among second).1)
derivable_among (congruent left right here there left_is right_is head sort some row) = (here, there)

-- a way along edges that are derivable is derivable
module _ (nodes : List Node) (pairs : List (ℕ × ℕ)) (Among : ℕ → Type 0) (edges : List Edge)
    (each : (place : ℕ) (edge : Edge) → slice_get edges place ≡ Some edge → Derivable nodes pairs Among edge.left edge.right) where
  passed : (edge : Edge) (a b : ℕ) → Derivable nodes pairs Among edge.left edge.right → Passes edge a b → Derivable nodes pairs Among a b
  passed edge a b d (inl is) = subst (λ (x : ℕ). Derivable nodes pairs Among x b) is.0
      (subst (λ (y : ℕ). Derivable nodes pairs Among edge.left y) is.1 d)
  passed edge a b d (inr is) = subst (λ (x : ℕ). Derivable nodes pairs Among x b) is.0
      (subst (λ (y : ℕ). Derivable nodes pairs Among edge.right y) is.1 (symmetric d))

  led_derivable : (places : List ℕ) (a b : ℕ) → Among a → Leads edges places a b → Derivable nodes pairs Among a b
  led_derivable [] a b here e = subst (λ (x : ℕ). Derivable nodes pairs Among a x) e (reflexive here)
  led_derivable (place ∷ places) a b here (edge, mid, stands, passes, rest) =
      let first : Derivable nodes pairs Among a mid = passed edge a mid (each place edge stands) passes in
      transitive first (led_derivable places mid b (derivable_among first).1 rest)

-- an item of the first ones is an item of all, and stands before them
front_item : {X : Type 0} (xs : List X) (count k : ℕ) (x : X) → slice_get (take count xs) k ≡ Some x → (k < count) × (slice_get xs k ≡ Some x)
front_item [] zero k x e = absurd cc
front_item [] (suc count) k x e = absurd cc
front_item (y ∷ xs) zero k x e = absurd cc
front_item (y ∷ xs) (suc count) zero x e = (omega arith, e)
front_item (y ∷ xs) (suc count) (suc k) x e = let rest = front_item xs count k x e in (omega (arith, rest.0), rest.1)

-- the arguments of a node are nodes
args_within : (nodes : List Node) (n : ℕ) (it : Node) → IsTable [] nodes → slice_get nodes n ≡ Some it → All (λ arg. arg < length nodes) it.args
args_within nodes n it table stands =
    let within : n < length nodes = slice_get_within nodes n it stands in
    let count : length (take n nodes) ≡ n = length-take-le n nodes (omega arith) in
    All-weaker (λ arg. arg < length (take n nodes)) (λ arg. arg < length nodes) (λ arg low. omega (arith, low, count, within)) it.args
    (WellShaped-at [] nodes n it table stands).0

row_derivable : (nodes : List Node) (pairs : List (ℕ × ℕ)) (Among : ℕ → Type 0) (R : ℕ → ℕ → Type 0) (xs ys : List ℕ) →
    ((x y : ℕ) → Among x → R x y → Derivable nodes pairs Among x y) → All Among xs → AllZip R xs ys → DerivableRow nodes pairs Among xs ys
row_derivable nodes pairs Among R [] [] f all zip = no_more
row_derivable nodes pairs Among R [] (y ∷ ys) f all zip = absurd zip
row_derivable nodes pairs Among R (x ∷ xs) [] f all zip = absurd zip
row_derivable nodes pairs Among R (x ∷ xs) (y ∷ ys) f all zip =
    and_more (f x y (all 0 x (omega arith)) zip.0)
    (row_derivable nodes pairs Among R xs ys f (λ k d below. all (suc k) d (omega arith)) zip.1)

-- the pair of an edge is among those of the edges
pair_among : (edges : List Edge) (edge : Edge) → Contains edges edge → Contains (map pair_of edges) (edge.left, edge.right)
pair_among [] edge has = absurd (omega (arith, has.1))
pair_among (first ∷ edges) edge (zero, within, is) = (0, omega arith, ap pair_of is)
pair_among (first ∷ edges) edge (suc k, within, is) =
    let rest = pair_among edges edge (k, omega (arith, within), is) in (suc rest.0, omega (arith, rest.1), rest.2)

-- and each of these is the pair of an edge
pair_place : (edges : List Edge) (a b : ℕ) → Contains (map pair_of edges) (a, b) →
    (place : ℕ) × (edge : Edge) × (slice_get edges place ≡ Some edge) × (edge.left ≡ a) × (edge.right ≡ b)
pair_place [] a b has = absurd (omega (arith, has.1))
pair_place (first ∷ edges) a b (zero, within, is) =
    (0, first, refl, ap (λ (p : ℕ × ℕ). p.0) is, ap (λ (p : ℕ × ℕ). p.1) is)
pair_place (first ∷ edges) a b (suc k, within, is) =
    let rest = pair_place edges a b (k, omega (arith, within), is) in (suc rest.0, rest.1, rest.2, rest.3, rest.4)

-- an edge that is founded is derivable from the given pairs, where the edges before it are
founded_step : (nodes : List Node) (pairs edges : List Edge) (place : ℕ) (edge : Edge) → IsTable [] nodes → All (HasEnds nodes) pairs →
    ((k : ℕ) (it : Edge) → slice_get (take place edges) k ≡ Some it → Derivable nodes (map pair_of pairs) (λ n. n < length nodes) it.left it.right) →
    IsFounded nodes pairs edges place edge → Derivable nodes (map pair_of pairs) (λ n. n < length nodes) edge.left edge.right
founded_step nodes pairs edges place edge table ends before (inl has) =
    let both = All-contains (HasEnds nodes) pairs edge ends has in
    given (pair_among pairs edge has) both.0 both.1
founded_step nodes pairs edges place edge table ends before (inr is) =
    let joins = is.1 in
    congruent joins.left joins.right (slice_get_within nodes edge.left joins.left joins.left_is)
    (slice_get_within nodes edge.right joins.right joins.right_is) joins.left_is joins.right_is joins.head joins.sort joins.has_args
    (row_derivable nodes (map pair_of pairs) (λ n. n < length nodes) (Joins edges place) joins.left.args joins.right.args
    (λ x y here way. led_derivable nodes (map pair_of pairs) (λ n. n < length nodes) (take place edges) before way.0 x y here way.1)
    (args_within nodes edge.left joins.left table joins.left_is) joins.args)

founded_derivable : (nodes : List Node) (pairs edges : List Edge) → IsTable [] nodes → All (HasEnds nodes) pairs → AreFounded nodes pairs edges →
    (bound place : ℕ) (edge : Edge) → place < bound → slice_get edges place ≡ Some edge →
    Derivable nodes (map pair_of pairs) (λ n. n < length nodes) edge.left edge.right
founded_derivable nodes pairs edges table ends founded zero place edge below stands = absurd (omega arith)
founded_derivable nodes pairs edges table ends founded (suc bound) place edge below stands =
    founded_step nodes pairs edges place edge table ends
    (λ k it e.
    let item = front_item edges place k it e in
    founded_derivable nodes pairs edges table ends founded bound k it (omega (arith, item.0, below)) item.1)
    (founded place edge stands)

-- pairs of given edges are given
pairs_given : (goal : GoalData) (edges : List Edge) → All (IsGivenEdge goal) edges →
    All (λ (pair : ℕ × ℕ). IsGiven goal pair.0 pair.1) (map pair_of edges)
pairs_given goal [] all = λ k d below. absurd (omega (arith, below))
pairs_given goal (edge ∷ edges) all =
    All-cons (λ (pair : ℕ × ℕ). IsGiven goal pair.0 pair.1) (pair_of edge) (map pair_of edges) (all 0 edge (omega arith))
    (pairs_given goal edges (λ i e low. all (suc i) e (omega arith)))

-- in a closure of the given pairs two nodes are together exactly where it follows from these that they are equal
pub closure_decides : (goal : GoalData) (edges : List Edge) (closure : Congruence) → IsTable [] goal.terms.nodes →
    AreClassesOf closure.lists closure.edges → All (IsOfSource goal) edges → CoversAll goal edges → IsClosure goal.terms.nodes edges closure → (a b : ℕ) → IsNodeOf goal a → IsNodeOf goal b →
    AreTogether closure.lists a b ↔ FollowsFromGiven goal a b
closure_decides goal edges closure table tied sources covers is a b here there = (down, up)
  where
    nodes : List Node
    nodes = goal.terms.nodes

    exact : (x y : ℕ) → IsActive closure.lists x → IsActive closure.lists y →
        AreTogether closure.lists x y ↔ Derivable goal.terms.nodes (map pair_of closure.edges) (IsActive closure.lists) x y
    exact = exact_at_rest closure goal.terms.nodes tied is.built.fits is.rest.rest

    from_edge : (x y : ℕ) → Contains (map pair_of closure.edges) (x, y) → IsActive closure.lists x → IsActive closure.lists y →
        Derivable goal.terms.nodes (map pair_of edges) (IsNodeOf goal) x y
    from_edge x y has act_x act_y =
        let found = pair_place closure.edges x y has in
        let edge : Edge = found.1 in
        let derived : Derivable goal.terms.nodes (map pair_of edges) (IsNodeOf goal) edge.left edge.right =
        founded_derivable goal.terms.nodes edges closure.edges table (sources_ends goal edges sources) is.built.founded (suc found.0) found.0 edge (omega arith) found.2 in
        subst (λ (p : ℕ). Derivable goal.terms.nodes (map pair_of edges) (IsNodeOf goal) p y) found.3
        (subst (λ (q : ℕ). Derivable goal.terms.nodes (map pair_of edges) (IsNodeOf goal) edge.left q) found.4 derived)

    down : AreTogether closure.lists a b → FollowsFromGiven goal a b
    down together =
        let derived = (exact a b (is.built.active a here) (is.built.active b there)).0 together in (
          map pair_of edges,
          pairs_given goal edges (sources_pairs goal edges sources),
          cut goal.terms.nodes (map pair_of closure.edges) (map pair_of edges) (IsActive closure.lists) (IsNodeOf goal) from_edge
              (λ x act. is.built.fits.within x act) derived,
        )

    from_pair : (pairs : List (ℕ × ℕ)) → All (λ (pair : ℕ × ℕ). IsGiven goal pair.0 pair.1) pairs → (x y : ℕ) → Contains pairs (x, y) →
        IsNodeOf goal x → IsNodeOf goal y → Derivable goal.terms.nodes (map pair_of closure.edges) (IsActive closure.lists) x y
    from_pair pairs all x y has in_x in_y =
        let pair = covers.each x y (All-contains (λ (pair : ℕ × ℕ). IsGiven goal pair.0 pair.1) pairs (x, y) all has) in
        let ends : AreTogether closure.lists pair.edge.left pair.edge.right = (is.asserted.each pair.edge pair.among).ends in
        let together : AreTogether closure.lists x y =
        subst (λ (p : ℕ). AreTogether closure.lists p y) pair.left
        (subst (λ (q : ℕ). AreTogether closure.lists pair.edge.left q) pair.right ends) in
        (exact x y (is.built.active x in_x) (is.built.active y in_y)).0 together

    up : FollowsFromGiven goal a b → AreTogether closure.lists a b
    up follows =
        (exact a b (is.built.active a here) (is.built.active b there)).1
        (cut goal.terms.nodes follows.0 (map pair_of closure.edges) (IsNodeOf goal) (IsActive closure.lists)
        (from_pair follows.0 follows.1) is.built.active follows.2)

-- a refuted fact shows that the goal follows
pub refuted_entails : (goal : GoalData) (edges : List Edge) (closure : Congruence) (fact : Fact) → IsTable [] goal.terms.nodes →
    AreClassesOf closure.lists closure.edges → All (IsOfSource goal) edges → CoversAll goal edges → IsClosure goal.terms.nodes edges closure → IsRefuted goal closure fact → CongruenceEntails goal
refuted_entails goal edges closure fact table tied sources covers is refuted =
    let a : ℕ = fact.reading.left in
    let b : ℕ = fact.reading.right in (
      a,
      b,
      fact_denied goal fact refuted.is refuted.differs,
      (closure_decides goal edges closure table tied sources covers is a b refuted.is.sorted.left refuted.is.sorted.right).0
          refuted.together,
    )

-- where none is refuted it does not
pub none_refuted : (goal : GoalData) (edges : List Edge) (closure : Congruence) → IsTable [] goal.terms.nodes →
    AreClassesOf closure.lists closure.edges → All (IsOfSource goal) edges → CoversAll goal edges → IsClosure goal.terms.nodes edges closure → NoneRefuted goal closure → CongruenceEntails goal → ⊥
none_refuted goal edges closure table tied sources covers is none (a, b, denied, follows) =
    let both = derivable_among follows.2 in
    none.each a b denied ((closure_decides goal edges closure table tied sources covers is a b both.0 both.1).1 follows)
