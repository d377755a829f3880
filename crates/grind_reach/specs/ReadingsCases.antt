-- Worked cases: terms read as their values, where only numbers have one.
use Rattle.std.specs.Prelude.{◌≡◌, ℕ, List, [], ◌∷◌, Option, Some, None, ℤ, pos, ◌+ℤ◌, ◌*ℤ◌, neg_ℤ}
use Rattle.std.proofs.Common.{refl}
use Rattle.grind_term_graph.specs.declared.head.Head.{Head}
use Rattle.grind_term_graph.specs.declared.head.Head.TheVariants as head
use Rattle.grind_term_graph.specs.declared.node.Node.{Node}
use Rattle.grind_reach.specs.Readings.{Operations, readings, read_at}

-- a number is its value, other nodes have none
abbrev by_value : Operations ℤ
by_value = record {
  number_of = λ (number : ℤ). Some number;
  atom_of = λ (n : ℕ). None;
  sum_of = λ (a b : ℤ). Some (a +ℤ b);
  negation_of = λ (a : ℤ). Some (neg_ℤ a);
  product_of = λ (n : ℕ) (a b : ℤ). Some (a *ℤ b);
}

-- a whole number of that head and arguments
abbrev term : Head → List ℕ → Node
term its_head args = record { head = its_head; sort = 1; args = args }

-- 3, its negation, the sum of both, a constant, and its product with 3
abbrev terms : List Node
terms = term (head.Int (pos 3)) [] ∷ term head.Neg (0 ∷ []) ∷ term head.Add (0 ∷ 1 ∷ []) ∷ term (head.Const 0) [] ∷ term head.Mul (0 ∷ 3 ∷ []) ∷ []

pub sum_is_zero : read_at by_value terms 2 ≡ Some (pos 0)
unfolding readings
sum_is_zero = refl

-- what an argument lacks, the product lacks
pub product_has_none : read_at by_value terms 4 ≡ None
unfolding readings
product_has_none = refl

-- nor has a node that is not there
pub nothing_behind : read_at by_value terms 5 ≡ None
unfolding readings
nothing_behind = refl
