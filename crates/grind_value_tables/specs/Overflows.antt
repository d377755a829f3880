-- A table of values as a list of numbers of 128 bits, and where a value that is asked for does not fit.
use Rattle.std.specs.Prelude.{◌≡◌, ℕ, List, None, map, take, slice_get, slice_index_or, ℤ, pos, ◌+ℤ◌, ◌*ℤ◌, neg_ℤ, FitsSigned}
use Rattle.std.specs.Option.{IsSomeAnd}
use Rattle.std.specs.Int.{w128}
use Rattle.grind_term_graph.specs.declared.head.Head.{Head}
use Rattle.grind_term_graph.specs.declared.head.Head.TheVariants as head
use Rattle.grind_term_graph.specs.declared.node.Node.{Node}
use Rattle.grind_claims.specs.declared.claim.Claim.{Claim}
use Rattle.grind_claims.specs.declared.claim.Claim.TheVariants.{Holds, Fails, Same, Differ, AtMost, Zero, Absurd}
use Rattle.grind_value_tables.specs.Respects.{OfOne, OfTwo, Respects}
use Rattle.grind_value_tables.specs.Evaluations.{form_sum, poly_sum}

-- the value of a node, where the values are listed in the order of the nodes; 0 past the end
abbrev pub value_of : List ℤ → ℕ → ℤ
value_of values n = slice_index_or values n (pos 0)

-- the number does not fit in 128 bits
abbrev pub IsTooLarge : ℤ → Type 0
IsTooLarge number = ¬ FitsSigned w128 number

-- a term of this head, with arguments of these values, asks for a sum, a product or a negation that does not fit
abbrev pub AsksTooMuch : Head → List ℤ → Type 0
AsksTooMuch head.True args = ⊥
AsksTooMuch head.False args = ⊥
AsksTooMuch head.Not args = ⊥
AsksTooMuch head.And args = ⊥
AsksTooMuch head.Or args = ⊥
AsksTooMuch head.Implies args = ⊥
AsksTooMuch head.Eq args = ⊥
AsksTooMuch head.Le args = ⊥
AsksTooMuch (head.Int number) args = ⊥
AsksTooMuch head.Add args = OfTwo (λ a b. IsTooLarge (a +ℤ b)) args
AsksTooMuch head.Neg args = OfOne (λ a. IsTooLarge (neg_ℤ a)) args
AsksTooMuch head.Mul args = OfTwo (λ a b. IsTooLarge (a *ℤ b)) args
AsksTooMuch (head.Fun function) args = ⊥
AsksTooMuch (head.Const constant) args = ⊥

-- nodes are judged from 0 on: the nodes before node n respect the table, and node n asks for a value that does not fit
abbrev pub OverflowsAt : List Node → (ℕ → ℤ) → ℕ → Type 0
OverflowsAt nodes v n = Respects (take n nodes) v
    × IsSomeAnd (slice_get nodes n) (λ (node : Node). AsksTooMuch node.head (map v node.args))

-- there is a node at which the judging overflows
abbrev pub Overflows : List Node → (ℕ → ℤ) → Type 0
Overflows nodes v = (n : ℕ) × OverflowsAt nodes v n

-- a product or a sum on the way to the value of the claim's form or polynomial does not fit
abbrev pub ClaimOverflows : (ℕ → ℤ) → Claim → Type 0
ClaimOverflows v (Holds n) = ⊥
ClaimOverflows v (Fails n) = ⊥
ClaimOverflows v (Same a b) = ⊥
ClaimOverflows v (Differ a b) = ⊥
ClaimOverflows v (AtMost form) = form_sum v form ≡ None
ClaimOverflows v (Zero poly) = poly_sum v poly ≡ None
ClaimOverflows v Absurd = ⊥
