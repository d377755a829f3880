-- What a closure at rest knows is what is derivable.
use Rattle.std.specs.Prelude.{◌≡◌, ℕ, zero, suc, List, [], ◌∷◌, Some, All, Contains, slice_get, map}
use Rattle.std.specs.List.{AllZip}
use Rattle.std.proofs.Common.{arith, ap, subst, inl, inr}
use Rattle.std.proofs.lemmas.List.Elements.{All-head, All-tail}
use Rattle.grind_term_graph.specs.declared.node.Node.{Node}
use Rattle.grind_classes.specs.Classes.{IsIn, IsActive, AreTogether, IsPartition}
use Rattle.grind_congruence.specs.declared.edge.Edge.{Edge}
use Rattle.grind_congruence.specs.Congruence.{AreCongruent}
use Rattle.grind_congruence.specs.Edges.{Passes, Leads}
use Rattle.grind_congruence.specs.Derivable.{Derivable, DerivableRow}
use Rattle.grind_congruence.specs.Derivable.Derivable.{given, reflexive, symmetric, transitive, congruent}
use Rattle.grind_congruence.specs.Derivable.DerivableRow.{no_more, and_more}
use Rattle.grind_congruence.specs.Exact.{pair_of, ExactAtRest}
use Rattle.grind_congruence.proofs.EdgeLemmas.{All-at, Joins-all, ends_together, HasEndsTogether, together-back, together-through, together-itself, passes_together}

-- the equation of an edge is among those of the edges
pub pair_of-within : (edges : List Edge) (place : ℕ) (edge : Edge) → slice_get edges place ≡ Some edge
    → Contains (map pair_of edges) (pair_of edge)
pair_of-within [] place edge e = absurd cc
pair_of-within (first ∷ edges) zero edge e =
    let is : first ≡ edge = cc in (0, omega arith, ap pair_of is)
pair_of-within (first ∷ edges) (suc place) edge e =
    let rest = pair_of-within edges place edge e in (suc rest.0, omega (arith, rest.1), rest.2)

-- an edge gives what it passes
edge_derivable : (nodes : List Node) (lists : List (List ℕ)) (edges : List Edge) (place : ℕ) (edge : Edge) (a b : ℕ)
    → All (HasEndsTogether lists) edges → slice_get edges place ≡ Some edge → Passes edge a b
    → Derivable nodes (map pair_of edges) (IsActive lists) a b
edge_derivable nodes lists edges place edge a b ends stands passes =
    let both = All-at (HasEndsTogether lists) edges place edge ends stands in
    let step : Derivable nodes (map pair_of edges) (IsActive lists) edge.left edge.right =
    given (pair_of-within edges place edge stands) (both.0, both.1) (both.0, both.2) in
    turned passes step
  where
    turned : Passes edge a b → Derivable nodes (map pair_of edges) (IsActive lists) edge.left edge.right
        → Derivable nodes (map pair_of edges) (IsActive lists) a b
    turned (inl is) d = subst (λ (x : ℕ). Derivable nodes (map pair_of edges) (IsActive lists) x b) is.0
        (subst (λ (y : ℕ). Derivable nodes (map pair_of edges) (IsActive lists) edge.left y) is.1 d)
    turned (inr is) d = subst (λ (x : ℕ). Derivable nodes (map pair_of edges) (IsActive lists) x b) is.0
        (subst (λ (y : ℕ). Derivable nodes (map pair_of edges) (IsActive lists) edge.right y) is.1 (symmetric d))

-- what edges lead to is derivable
pub way_derivable : (nodes : List Node) (lists : List (List ℕ)) (edges : List Edge) (places : List ℕ) (a b : ℕ)
    → All (HasEndsTogether lists) edges → IsActive lists a → Leads edges places a b
    → Derivable nodes (map pair_of edges) (IsActive lists) a b
way_derivable nodes lists edges [] a b ends active e =
    subst (λ (x : ℕ). Derivable nodes (map pair_of edges) (IsActive lists) a x) e (reflexive active)
way_derivable nodes lists edges (place ∷ places) a b ends active (edge, mid, stands, passes, rest) =
    let both = All-at (HasEndsTogether lists) edges place edge ends stands in
    transitive (edge_derivable nodes lists edges place edge a mid ends stands passes)
    (way_derivable nodes lists edges places mid b ends (other_end passes both) rest)
  where
    other_end : Passes edge a mid → HasEndsTogether lists edge → IsActive lists mid
    other_end (inl is) both = (both.0, subst (λ (x : ℕ). IsIn lists both.0 x) is.1 both.2)
    other_end (inr is) both = (both.0, subst (λ (x : ℕ). IsIn lists both.0 x) is.1 both.1)

-- the ends of an edge whose equation is given are together
pub given_together : (lists : List (List ℕ)) (edges : List Edge) (a b : ℕ) → All (HasEndsTogether lists) edges
    → Contains (map pair_of edges) (a, b) → AreTogether lists a b
given_together lists [] a b ends has = absurd (omega (arith, has.1))
given_together lists (edge ∷ edges) a b ends (zero, within, is) =
    let left : edge.left ≡ a = ap (λ (p : ℕ × ℕ). p.0) is in
    let right : edge.right ≡ b = ap (λ (p : ℕ × ℕ). p.1) is in
    passes_together lists edge a b (All-head (HasEndsTogether lists) edge edges ends) (inl (left, right))
given_together lists (edge ∷ edges) a b ends (suc k, within, is) =
    given_together lists edges a b (All-tail (HasEndsTogether lists) edge edges ends) (k, omega (arith, within), is)

-- what is derivable is together, where the given equations are and congruent nodes are
module _ (nodes : List Node) (pairs : List (ℕ × ℕ)) (Among : ℕ → Type 0) (lists : List (List ℕ)) (classes : IsPartition lists)
    (known : (a b : ℕ) → Contains pairs (a, b) → AreTogether lists a b) (itself : (a : ℕ) → Among a → AreTogether lists a a)
    (rest : (a b : ℕ) → Among a → Among b → AreCongruent lists nodes a b → AreTogether lists a b) where
  mutual
    derivable_together : {a b : ℕ} → Derivable nodes pairs Among a b → AreTogether lists a b
    derivable_together (given {a = a} {b = b} has left right) = known a b has
    derivable_together (reflexive {a = a} active) = itself a active
    derivable_together (symmetric {a = a} {b = b} d) = together-back lists a b (derivable_together d)
    derivable_together (transitive {a = a} {b = b} {c = d} first second) =
        together-through lists a b d classes (derivable_together first) (derivable_together second)
    derivable_together (congruent {a = a} {b = b} left right act_a act_b left_is right_is head sort some row) =
        rest a b act_a act_b (record {
          left = left;
          right = right;
          left_is = left_is;
          right_is = right_is;
          head = head;
          sort = sort;
          has_args = some;
          args = row_together row;
        })

    row_together : {xs ys : List ℕ} → DerivableRow nodes pairs Among xs ys → AllZip (AreTogether lists) xs ys
    row_together no_more = tt
    row_together (and_more d row) = (derivable_together d, row_together row)

-- the law
pub exact_at_rest : ExactAtRest
exact_at_rest closure nodes tied fits rest a b act_a act_b =
    let ends = ends_together closure.lists closure.edges tied in (
      λ t.
          let way = (Joins-all closure.edges a b).0 ((tied.led a b act_a act_b).0 t) in
          way_derivable nodes closure.lists closure.edges way.0 a b ends act_a way.1,
      λ d. derivable_together nodes (map pair_of closure.edges) (IsActive closure.lists) closure.lists tied.partition
          (λ x y has. given_together closure.lists closure.edges x y ends has)
          (λ x active. together-itself closure.lists x active) rest d,
    )
