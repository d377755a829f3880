-- How terms are read, by operations on what they are read as.
use Rattle.std.specs.Prelude.{ℕ, List, [], ◌∷◌, ◌++◌, length, Option, None, slice_get, ℤ}
use Rattle.std.specs.Option.{option_and_then}
use Rattle.grind_term_graph.specs.declared.head.Head.{Head}
use Rattle.grind_term_graph.specs.declared.head.Head.TheVariants as head
use Rattle.grind_term_graph.specs.declared.node.Node.{Node}

-- the readings of a number and of a node that is read as itself, and what is made of the readings of a sum's, a
-- negation's and a product's arguments; the product knows its own node. Each may have no answer.
pub record Operations (R : Type 0) : Type 0 where
  pub number_of : ℤ → Option R
  pub atom_of : ℕ → Option R
  pub sum_of : R → R → Option R
  pub negation_of : R → Option R
  pub product_of : ℕ → R → R → Option R

-- what is made of the reading of the only argument
abbrev pub of_one : {R : Type 0} → (ℕ → Option R) → (R → Option R) → List ℕ → Option R
of_one look f [] = None
of_one look f (a ∷ []) = option_and_then f (look a)
of_one look f (a ∷ b ∷ rest) = None

-- what is made of the readings of two arguments
abbrev pub of_two : {R : Type 0} → (ℕ → Option R) → (R → R → Option R) → List ℕ → Option R
of_two look f [] = None
of_two look f (a ∷ []) = None
of_two look f (a ∷ b ∷ []) = option_and_then (λ left. option_and_then (f left) (look b)) (look a)
of_two look f (a ∷ b ∷ c ∷ rest) = None

-- the reading of the node n of this head, where `look` gives those of its arguments: a number is read by what it is, a
-- sum, a negation and a product by their arguments, and every other node as itself
abbrev pub reading_of : {R : Type 0} → Operations R → (ℕ → Option R) → ℕ → Head → List ℕ → Option R
reading_of by look n head.True args = by.atom_of n
reading_of by look n head.False args = by.atom_of n
reading_of by look n head.Not args = by.atom_of n
reading_of by look n head.And args = by.atom_of n
reading_of by look n head.Or args = by.atom_of n
reading_of by look n head.Implies args = by.atom_of n
reading_of by look n head.Eq args = by.atom_of n
reading_of by look n head.Le args = by.atom_of n
reading_of by look n (head.Int number) args = by.number_of number
reading_of by look n head.Add args = of_two look by.sum_of args
reading_of by look n head.Neg args = of_one look by.negation_of args
reading_of by look n head.Mul args = of_two look (by.product_of n) args
reading_of by look n (head.Fun function) args = by.atom_of n
reading_of by look n (head.Const constant) args = by.atom_of n

-- the reading of that number in a list of readings, where it is there and defined
abbrev pub found : {R : Type 0} → List (Option R) → ℕ → Option R
found list n = option_and_then (λ reading. reading) (slice_get list n)

-- the readings of nodes, after those of the nodes before them
unfoldable pub readings : {R : Type 0} → Operations R → List (Option R) → List Node → List (Option R)
readings by done [] = done
readings by done (node ∷ rest) = readings by (done ++ reading_of by (found done) (length done) node.head node.args ∷ []) rest

-- the reading of the node of this number
abbrev pub read_at : {R : Type 0} → Operations R → List Node → ℕ → Option R
read_at by nodes n = found (readings by [] nodes) n
