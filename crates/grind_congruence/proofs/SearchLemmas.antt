-- What the search for a pair finds.
use Rattle.std.specs.Prelude.{◌≡◌, ℕ, ◌+◌, ◌<◌, List, length, ◌⊎◌}
use Rattle.std.proofs.Common.{arith, sym, ◌∙◌, subst, inl, inr}
use Rattle.std.proofs.lemmas.Bool.{cases_eq}
use Rattle.grind_term_graph.specs.declared.node.Node.{Node}
use Rattle.grind_classes.specs.Classes.{IsIn, IsActive, AreTogether, IsPartition}
use Rattle.grind_congruence.specs.Congruence.{IsAtRest}
use Rattle.grind_congruence.specs.Searching.{AreNodesOf, IsPair, HasNoPartner}

-- two active nodes are together, or they are not
pub cases_together : (lists : List (List ℕ)) (a b : ℕ) → IsPartition lists → IsActive lists a → IsActive lists b
    → AreTogether lists a b ⊎ (AreTogether lists a b → ⊥)
cases_together lists a b classes left right = elim (cases_eq left.0 right.0) [
  | inl is ↦ inl (right.0, subst (λ (r : ℕ). IsIn lists r a) is left.1, right.1)
  | inr other ↦ inr (λ t. other (classes.in_one left.0 t.0 a left.1 t.1 ∙ classes.in_one t.0 right.0 b t.2 right.1))
]

-- a node below the next one is below this one or is it
pub below_next : (P : ℕ → Type 0) (i : ℕ) → ((k : ℕ) → k < i → P k) → P i → (k : ℕ) → k < i + 1 → P k
below_next P i before here k below = elim (cases_eq k i) [
  | inl is ↦ subst P (sym is) here
  | inr other ↦ before k (omega arith)
]

-- where no node of the table makes a pair with a node, no node does
pub no_partner : (lists : List (List ℕ)) (nodes : List Node) (a n : ℕ) → AreNodesOf lists nodes → n ≡ length nodes
    → ((b : ℕ) → b < n → IsPair lists nodes a b → ⊥) → HasNoPartner lists nodes a
no_partner lists nodes a n fits count none b pair =
    let below = fits.within b pair.1 in none b (omega arith) pair

-- where no node of the table has a partner, the classes are at rest
pub rest_of_none : (lists : List (List ℕ)) (nodes : List Node) (n : ℕ) → IsPartition lists → AreNodesOf lists nodes → n ≡ length nodes
    → ((a : ℕ) → a < n → HasNoPartner lists nodes a) → IsAtRest lists nodes
rest_of_none lists nodes n classes fits count none a b act_a act_b congruent =
    elim (cases_together lists a b classes act_a act_b) [
      | inl t ↦ t
      | inr apart ↦ let below = fits.within a act_a in absurd (none a (omega arith) b (act_a, act_b, congruent, apart))
    ]

-- what is at rest has no pair
pub none_of_rest : (lists : List (List ℕ)) (nodes : List Node) (a b : ℕ) → IsAtRest lists nodes → IsPair lists nodes a b → ⊥
none_of_rest lists nodes a b rest pair = pair.3 (rest a b pair.0 pair.1 pair.2)
