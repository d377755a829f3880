-- Tables of values that respect arithmetic, and readings that keep them.
use Rattle.std.specs.Prelude.{◌≡◌, ℕ, List, [], ◌∷◌, Some, map, slice_get, ℤ, ◌+ℤ◌, ◌*ℤ◌, neg_ℤ}
use Rattle.grind_term_graph.specs.declared.head.Head.{Head}
use Rattle.grind_term_graph.specs.declared.head.Head.TheVariants as head
use Rattle.grind_term_graph.specs.declared.node.Node.{Node}
use Rattle.grind_reach.specs.Readings.{Operations}

-- there is one value, and this holds of it
abbrev pub OfOne : (ℤ → Type 0) → List ℤ → Type 0
OfOne P [] = ⊥
OfOne P (a ∷ []) = P a
OfOne P (a ∷ b ∷ rest) = ⊥

-- there are two values, and this holds of them
abbrev pub OfTwo : (ℤ → ℤ → Type 0) → List ℤ → Type 0
OfTwo P [] = ⊥
OfTwo P (a ∷ []) = ⊥
OfTwo P (a ∷ b ∷ []) = P a b
OfTwo P (a ∷ b ∷ c ∷ rest) = ⊥

-- a term of this head, with arguments of these values, has this value, where the head is arithmetic
abbrev pub Computes : Head → List ℤ → ℤ → Type 0
Computes head.True args value = Unit {0}
Computes head.False args value = Unit {0}
Computes head.Not args value = Unit {0}
Computes head.And args value = Unit {0}
Computes head.Or args value = Unit {0}
Computes head.Implies args value = Unit {0}
Computes head.Eq args value = Unit {0}
Computes head.Le args value = Unit {0}
Computes (head.Int number) args value = value ≡ number
Computes head.Add args value = OfTwo (λ a b. value ≡ (a +ℤ b)) args
Computes head.Neg args value = OfOne (λ a. value ≡ neg_ℤ a) args
Computes head.Mul args value = OfTwo (λ a b. value ≡ (a *ℤ b)) args
Computes (head.Fun function) args value = Unit {0}
Computes (head.Const constant) args value = Unit {0}

-- the table gives each number, sum, negation and product the value that the values of its arguments make
abbrev pub RespectsArithmetic : List Node → (ℕ → ℤ) → Type 0
RespectsArithmetic nodes v = (n : ℕ) (node : Node) → slice_get nodes n ≡ Some node →
    Computes node.head (map v node.args) (v n)

-- the operations keep values: what they make of readings has the value that a table of values v gives the node
pub record KeepValues {R : Type 0} (by : Operations R) (value : R → ℤ) (v : ℕ → ℤ) : Type 0 where
  pub numbers : (number : ℤ) (made : R) → by.number_of number ≡ Some made → value made ≡ number
  pub atoms : (n : ℕ) (made : R) → by.atom_of n ≡ Some made → value made ≡ v n
  pub sums : (a b made : R) → by.sum_of a b ≡ Some made → value made ≡ value a +ℤ value b
  pub negations : (a made : R) → by.negation_of a ≡ Some made → value made ≡ neg_ℤ (value a)
  pub products : (n : ℕ) (a b made : R) → by.product_of n a b ≡ Some made → v n ≡ value a *ℤ value b → value made ≡ v n
