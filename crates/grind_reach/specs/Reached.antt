-- Which nodes the reading of a term needs.
use Rattle.std.specs.Prelude.{◌≡◌, ℕ, ◌<◌, List, All, Contains, Some, slice_get, Bool, true, false}
use Rattle.grind_term_graph.specs.declared.head.Head.{Head}
use Rattle.grind_term_graph.specs.declared.head.Head.TheVariants as head
use Rattle.grind_term_graph.specs.declared.node.Node.{Node}

-- a term of this head is read by its arguments
abbrev pub reads_arguments : Head → Bool
reads_arguments head.True = false
reads_arguments head.False = false
reads_arguments head.Not = false
reads_arguments head.And = false
reads_arguments head.Or = false
reads_arguments head.Implies = false
reads_arguments head.Eq = false
reads_arguments head.Le = false
reads_arguments (head.Int number) = false
reads_arguments head.Add = true
reads_arguments head.Neg = true
reads_arguments head.Mul = true
reads_arguments (head.Fun function) = false
reads_arguments (head.Const constant) = false

-- the reading of these roots needs a node: it is a root, or an argument by which a needed node is read
pub data IsNeeded (nodes : List Node) (roots : List ℕ) : ℕ → Type 0 where
  root : {n : ℕ} → Contains roots n → IsNeeded nodes roots n
  argument : {n a : ℕ} (node : Node) → IsNeeded nodes roots n → slice_get nodes n ≡ Some node → reads_arguments node.head ≡ true
      → Contains node.args a → IsNeeded nodes roots a

-- the arguments of each node stand before it
abbrev pub HaveEarlierArguments : List Node → Type 0
HaveEarlierArguments nodes = (n : ℕ) (node : Node) → slice_get nodes n ≡ Some node → All (λ arg. arg < n) node.args
