-- What edges join, and rows of nodes that they join one by one.
use Rattle.std.specs.Prelude.{◌≡◌, ℕ, zero, suc, ◌<◌, ◌≤◌, List, [], ◌∷◌, Some, All, length, slice_get, take}
use Rattle.std.specs.List.{AllZip}
use Rattle.std.proofs.Common.{arith, sym, subst}
use Rattle.std.proofs.lemmas.List.Elements.{All-head, All-tail, All-same}
use Rattle.grind_term_graph.specs.declared.node.Node.{Node}
use Rattle.grind_classes.specs.Classes.{IsActive, AreTogether}
use Rattle.grind_congruence.specs.declared.edge.Edge.{Edge}
use Rattle.grind_congruence.specs.Congruence.{Congruence, Fits}
use Rattle.grind_congruence.specs.Edges.{Leads, Joins, AreClassesOf}
use Rattle.grind_congruence.proofs.EdgeLemmas.{All-at, Joins-all, Leads-below, Leads-take}
use Rattle.grind_needed_edges.specs.Needed.{IsFewest}
use Rattle.grind_needed_edges.specs.Planning.{IsBound}

-- what some of the edges join is together
pub together_from_joins : (closure : Congruence) (k a b : ℕ) → AreClassesOf closure.lists closure.edges → IsActive closure.lists a →
    IsActive closure.lists b → Joins closure.edges k a b → AreTogether closure.lists a b
together_from_joins closure k a b tied left right way =
    (tied.led a b left right).1 ((Joins-all closure.edges a b).1 (way.0, Leads-take closure.edges k way.0 a b way.1))

-- the first of those of which it holds
pub All-first : (P : ℕ → Type 0) (rest tail : List ℕ) (x : ℕ) → rest ≡ x ∷ tail → All P rest → P x
All-first P rest tail x is all = All-head P x tail (All-same P (x ∷ tail) rest (sym is) all)

pub All-others : (P : ℕ → Type 0) (rest tail : List ℕ) (x : ℕ) → rest ≡ x ∷ tail → All P rest → All P tail
All-others P rest tail x is all = All-tail P x tail (All-same P (x ∷ tail) rest (sym is) all)

pub zip_others : (R : ℕ → ℕ → Type 0) (left left_tail right right_tail : List ℕ) (a b : ℕ) → left ≡ a ∷ left_tail → right ≡ b ∷ right_tail →
    AllZip R left right → AllZip R left_tail right_tail
zip_others R left left_tail right right_tail a b left_is right_is h =
    (subst (λ (ys : List ℕ). AllZip R (a ∷ left_tail) ys) right_is (subst (λ (xs : List ℕ). AllZip R xs right) left_is h)).1

-- an edge goes between active nodes
pub ends_active : (closure : Congruence) (place : ℕ) (edge : Edge) → AreClassesOf closure.lists closure.edges →
    slice_get closure.edges place ≡ Some edge → IsActive closure.lists edge.left × IsActive closure.lists edge.right
ends_active closure place edge tied stands =
    All-at (λ (e : Edge). IsActive closure.lists e.left × IsActive closure.lists e.right) closure.edges place edge tied.ends stands

slice_get-front : {X : Type 0} (xs : List X) (k i : ℕ) (x : X) → i < k → slice_get xs i ≡ Some x → slice_get (take k xs) i ≡ Some x
slice_get-front [] k i x below e = absurd cc
slice_get-front (y ∷ xs) zero i x below e = absurd (omega arith)
slice_get-front (y ∷ xs) (suc k) zero x below e = e
slice_get-front (y ∷ xs) (suc k) (suc i) x below e = slice_get-front xs k i x (omega arith) e

-- a way of places below a number is one along the first edges
Leads-front : (edges : List Edge) (k : ℕ) (places : List ℕ) (a b : ℕ) → All (λ place. place < k) places → Leads edges places a b →
    Leads (take k edges) places a b
Leads-front edges k [] a b below e = e
Leads-front edges k (place ∷ places) a b below (edge, mid, stands, passes, rest) =
    let P : ℕ → Type 0 = λ p. p < k in (
      edge,
      mid,
      slice_get-front edges k place edge (All-head P place places below) stands,
      passes,
      Leads-front edges k places mid b (All-tail P place places below) rest,
    )

-- the bound of a first way is the fewest edges that join
pub fewest_of_way : (edges : List Edge) (places : List ℕ) (count a b : ℕ) → Leads edges places a b →
    ((k : ℕ) → Joins edges k a b → All (λ place. place < k) places) → IsBound places count → IsFewest edges count a b
fewest_of_way edges places count a b leads among bound = record {
  joins = (places, Leads-front edges count places a b bound.above leads);
  fewest = λ k joins. bound.least k (among k joins);
}

-- and there are so many
pub bound_within : (edges : List Edge) (places : List ℕ) (count a b : ℕ) → Leads edges places a b → IsBound places count → count ≤ length edges
bound_within edges places count a b leads bound = bound.least (length edges) (Leads-below edges places a b leads)

-- the arguments of an active node are active
pub args_active : (closure : Congruence) (nodes : List Node) (n : ℕ) (node : Node) (args : List ℕ) → slice_get nodes n ≡ Some node →
    args ≡ node.args → Fits closure nodes → IsActive closure.lists n → All (IsActive closure.lists) args
args_active closure nodes n node args stands is fits active =
    subst (λ (xs : List ℕ). All (IsActive closure.lists) xs) (sym is) (fits.args n node active stands)
