-- Which tables of values respect the meaning of the terms. A table gives one whole number to each node: a formula has
-- 1 where it is true and 0 where it is false, and a node of another sort stands for some number.
use Rattle.std.specs.Prelude.{◌≡◌, ℕ, ◌↔◌, ◌⊎◌, List, Some, map, slice_get, ℤ, pos, ◌+ℤ◌, ◌*ℤ◌, neg_ℤ, ◌≤ℤ◌}
use Rattle.grind_term_graph.specs.declared.head.Head.{Head}
use Rattle.grind_term_graph.specs.declared.head.Head.TheVariants as head
use Rattle.grind_term_graph.specs.declared.node.Node.{Node}
use Rattle.grind_term_graph.specs.Terms.{prop}
pub use Rattle.grind_linear_forms.specs.Values.{OfOne, OfTwo}

-- the value of what is true, and of what is false
abbrev pub one : ℤ
one = pos 1

abbrev pub zero_value : ℤ
zero_value = pos 0

-- the value of a formula: 0 or 1
abbrev pub IsTruthValue : ℤ → Type 0
IsTruthValue value = (value ≡ zero_value) ⊎ (value ≡ one)

-- a term of this head, with arguments of these values, may have this value: connectives by their truth tables, equality and
-- order where they hold of the values, and arithmetic as it is. What a function or a constant is the head alone does not say.
abbrev pub Means : Head → List ℤ → ℤ → Type 0
Means head.True args value = value ≡ one
Means head.False args value = value ≡ zero_value
Means head.Not args value = OfOne (λ a. (value ≡ one) ↔ (a ≡ zero_value)) args
Means head.And args value = OfTwo (λ a b. (value ≡ one) ↔ ((a ≡ one) × (b ≡ one))) args
Means head.Or args value = OfTwo (λ a b. (value ≡ one) ↔ ((a ≡ one) ⊎ (b ≡ one))) args
Means head.Implies args value = OfTwo (λ a b. (value ≡ one) ↔ (a ≡ one → b ≡ one)) args
Means head.Eq args value = OfTwo (λ a b. (value ≡ one) ↔ (a ≡ b)) args
Means head.Le args value = OfTwo (λ a b. (value ≡ one) ↔ (a ≤ℤ b)) args
Means (head.Int number) args value = value ≡ number
Means head.Add args value = OfTwo (λ a b. value ≡ (a +ℤ b)) args
Means head.Neg args value = OfOne (λ a. value ≡ neg_ℤ a) args
Means head.Mul args value = OfTwo (λ a b. value ≡ (a *ℤ b)) args
Means (head.Fun function) args value = Unit {0}
Means (head.Const constant) args value = Unit {0}

-- the two terms apply one function to arguments of the same values
abbrev pub AreOneApplication : (ℕ → ℤ) → Node → Node → Type 0
AreOneApplication v first second = (function : ℕ)
    × (first.head ≡ head.Fun function) × (second.head ≡ head.Fun function) × (map v first.args ≡ map v second.args)

-- the table gives each node a value that its head allows, each formula 0 or 1, and one value to two applications of one
-- function to arguments of the same values
pub record Respects (nodes : List Node) (v : ℕ → ℤ) : Type 0 where
  pub heads : (n : ℕ) (node : Node) → slice_get nodes n ≡ Some node → Means node.head (map v node.args) (v n)
  pub formulas : (n : ℕ) (node : Node) → slice_get nodes n ≡ Some node → node.sort ≡ prop → IsTruthValue (v n)
  pub functions : (m n : ℕ) (first second : Node) → slice_get nodes m ≡ Some first → slice_get nodes n ≡ Some second
      → AreOneApplication v first second → v m ≡ v n
