-- How terms are read, step by step: each step is a relation between what is read and what was read of the arguments.
use Rattle.std.specs.Prelude.{◌≡◌, ℕ, List, [], ◌∷◌, Some, slice_get, ⊤, ℤ}
use Rattle.grind_term_graph.specs.declared.head.Head.{Head}
use Rattle.grind_term_graph.specs.declared.head.Head.TheVariants as head
use Rattle.grind_term_graph.specs.declared.node.Node.{Node}

-- a term of this head is neither a number nor a sum, a negation or a product
abbrev pub IsReadAsItself : Head → Type 0
IsReadAsItself head.True = ⊤
IsReadAsItself head.False = ⊤
IsReadAsItself head.Not = ⊤
IsReadAsItself head.And = ⊤
IsReadAsItself head.Or = ⊤
IsReadAsItself head.Implies = ⊤
IsReadAsItself head.Eq = ⊤
IsReadAsItself head.Le = ⊤
IsReadAsItself (head.Int number) = ⊥
IsReadAsItself head.Add = ⊥
IsReadAsItself head.Neg = ⊥
IsReadAsItself head.Mul = ⊥
IsReadAsItself (head.Fun function) = ⊤
IsReadAsItself (head.Const constant) = ⊤

-- the term n is read so: a number, itself, or what its arguments are read as, added, negated or multiplied
pub data IsRead {R : Type 0} (IsNumber : ℤ → R → Type 0) (IsItself : ℕ → R → Type 0) (IsSum : R → R → R → Type 0)
    (IsNegation : R → R → Type 0) (IsProduct : ℕ → R → R → R → Type 0) (nodes : List Node) : ℕ → R → Type 0 where
  of_number : {n : ℕ} {made : R} (node : Node) (number : ℤ) → slice_get nodes n ≡ Some node → node.head ≡ head.Int number
      → IsNumber number made → IsRead IsNumber IsItself IsSum IsNegation IsProduct nodes n made
  of_itself : {n : ℕ} {made : R} (node : Node) → slice_get nodes n ≡ Some node → IsReadAsItself node.head
      → IsItself n made → IsRead IsNumber IsItself IsSum IsNegation IsProduct nodes n made
  of_sum : {n : ℕ} {made : R} (node : Node) (a b : ℕ) (left right : R) → slice_get nodes n ≡ Some node
      → node.head ≡ head.Add → node.args ≡ a ∷ b ∷ [] → IsRead IsNumber IsItself IsSum IsNegation IsProduct nodes a left
      → IsRead IsNumber IsItself IsSum IsNegation IsProduct nodes b right
      → IsSum left right made → IsRead IsNumber IsItself IsSum IsNegation IsProduct nodes n made
  of_negation : {n : ℕ} {made : R} (node : Node) (a : ℕ) (inner : R) → slice_get nodes n ≡ Some node
      → node.head ≡ head.Neg → node.args ≡ a ∷ [] → IsRead IsNumber IsItself IsSum IsNegation IsProduct nodes a inner
      → IsNegation inner made → IsRead IsNumber IsItself IsSum IsNegation IsProduct nodes n made
  of_product : {n : ℕ} {made : R} (node : Node) (a b : ℕ) (left right : R) → slice_get nodes n ≡ Some node
      → node.head ≡ head.Mul → node.args ≡ a ∷ b ∷ [] → IsRead IsNumber IsItself IsSum IsNegation IsProduct nodes a left
      → IsRead IsNumber IsItself IsSum IsNegation IsProduct nodes b right
      → IsProduct n left right made → IsRead IsNumber IsItself IsSum IsNegation IsProduct nodes n made
