-- When two nodes are the same, by what they are made of.
use Rattle.std.specs.Prelude.{ℕ, Bool, ◌&&◌, nat_eq, ℤ, pos}
use Rattle.std.specs.Ordering.{int_eq}
use Rattle.std.specs.Cmp.Lexicographic.{pointwise}
use Rattle.grind_term_graph.specs.declared.head.Head.{Head}
use Rattle.grind_term_graph.specs.declared.head.Head.TheVariants.{True, False, Not, And, Or, Implies, Eq, Le, Int, Add, Neg, Mul, Fun, Const}
use Rattle.grind_term_graph.specs.declared.node.Node.{Node}

-- the place of a head in the list of heads
abbrev pub head_kind : Head → ℕ
head_kind True = 0
head_kind False = 1
head_kind Not = 2
head_kind And = 3
head_kind Or = 4
head_kind Implies = 5
head_kind Eq = 6
head_kind Le = 7
head_kind (Int value) = 8
head_kind Add = 9
head_kind Neg = 10
head_kind Mul = 11
head_kind (Fun function) = 12
head_kind (Const constant) = 13

-- the number that a head holds, and 0 where it holds none
abbrev pub head_number : Head → ℤ
head_number (Int value) = value
head_number (Fun function) = pos function
head_number (Const constant) = pos constant
head_number _ = pos 0

-- two heads are the same: of one kind, with one number
abbrev pub is_same_head : Head → Head → Bool
is_same_head one other = nat_eq (head_kind one) (head_kind other) && int_eq (head_number one) (head_number other)

-- two nodes are the same: their heads, their sorts and their arguments are
abbrev pub is_same_node : Node → Node → Bool
is_same_node one other =
    is_same_head one.head other.head && (nat_eq one.sort other.sort && pointwise nat_eq one.args other.args)
