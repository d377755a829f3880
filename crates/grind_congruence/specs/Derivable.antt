-- Derivations of equality: what follows from given equations by reflexivity, symmetry, transitivity and congruence.
use Rattle.std.specs.Prelude.{◌≡◌, ℕ, List, [], ◌∷◌, Some, Contains, slice_get}
use Rattle.grind_term_graph.specs.declared.node.Node.{Node}

-- Derivable nodes pairs Among a b is a derivation of "a is b". Its equations are pairs, the nodes on its way are those of
-- which Among holds, and nodes says which terms they are. DerivableRow is a derivation for each of two rows' items, in turn.
mutual
  pub data Derivable (nodes : List Node) (pairs : List (ℕ × ℕ)) (Among : ℕ → Type 0) : ℕ → ℕ → Type 0 where
    -- an equation that is given
    given : {a b : ℕ} → Contains pairs (a, b) → Among a → Among b → Derivable nodes pairs Among a b
    -- a node is itself
    reflexive : {a : ℕ} → Among a → Derivable nodes pairs Among a a
    -- read from the right
    symmetric : {a b : ℕ} → Derivable nodes pairs Among a b → Derivable nodes pairs Among b a
    -- one after the other
    transitive : {a b c : ℕ} → Derivable nodes pairs Among a b → Derivable nodes pairs Among b c → Derivable nodes pairs Among a c
    -- two nodes of one head and one sort with arguments, which are equal one by one
    congruent : {a b : ℕ} (left right : Node) → Among a → Among b → slice_get nodes a ≡ Some left → slice_get nodes b ≡ Some right
        → left.head ≡ right.head → left.sort ≡ right.sort → ¬ (left.args ≡ []) → DerivableRow nodes pairs Among left.args right.args
        → Derivable nodes pairs Among a b

  pub data DerivableRow (nodes : List Node) (pairs : List (ℕ × ℕ)) (Among : ℕ → Type 0) : List ℕ → List ℕ → Type 0 where
    -- no items
    no_more : DerivableRow nodes pairs Among [] []
    -- the first items, and the others
    and_more : {a b : ℕ} {xs ys : List ℕ} → Derivable nodes pairs Among a b → DerivableRow nodes pairs Among xs ys
        → DerivableRow nodes pairs Among (a ∷ xs) (b ∷ ys)
