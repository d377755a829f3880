-- Nodes that are the same are equal, and so are those that the code finds equal.
use Rattle.std.specs.Prelude.{◌≡◌, ℕ, Bool, true, false, List, ◌&&◌, nat_eq, cond, ℤ, pos, unsigned_abs, refl}
use Rattle.std.proofs.Common.{sym, ◌∙◌}
use Rattle.std.specs.Bool.{Decides, one_answer}
use Rattle.std.specs.Ordering.{int_eq}
use Rattle.std.specs.Cmp.{signed_Decides}
use Rattle.std.proofs.lemmas.Bool.{and_parts}
use Rattle.std.specs.Cmp.Lexicographic.{pointwise, bytes_decides}
use Rattle.std.proofs.Common.{rules}
use Rattle.grind_term_graph.specs.declared.head.Head.{Head}
use Rattle.grind_term_graph.specs.declared.node.Node.{Node}
use Rattle.grind_term_graph.specs.declared.head.Head.TheVariants.{True, False, Not, And, Or, Implies, Eq, Le, Int, Add, Neg, Mul, Fun, Const}
use Rattle.grind_term_graph.specs.Same.{head_kind, head_number, is_same_head, is_same_node}
use Rattle.grind_term_graph.specs.Placed.{node_eq}
use Rattle.grind_term_graph.specs.contracts.head.HeadPartialEq.TheImpl as same_head

-- whether two heads are one, as the code compares them
abbrev pub head_eq : Head → Head → Bool
head_eq = (same_head.ghosts).eq

-- a node of these parts
abbrev the_node : Head → ℕ → List ℕ → Node
the_node head sort args = record { head = head; sort = sort; args = args }

nat_eq-same : (a b : ℕ) → nat_eq a b ≡ true → a ≡ b
nat_eq-same a b e = search rules

pub head_eq-same : (a b : Head) → head_eq a b ≡ true → a ≡ b
head_eq-same a b e = search rules

pub head_eq-refl : (a : Head) → head_eq a a ≡ true
head_eq-refl a = search rules

-- a node of equal parts is the same node
node_of_parts : (g h : Head) (s t : ℕ) (xs ys : List ℕ) → g ≡ h → s ≡ t → xs ≡ ys
    → the_node g s xs ≡ the_node h t ys
node_of_parts g h s t xs ys p q r = cc

-- two nodes that compare as equal are one
pub node_eq-same : (a b : Node) → node_eq a b ≡ true → a ≡ b
node_eq-same a b e =
    let outer = and_parts (head_eq a.head b.head) (nat_eq a.sort b.sort && pointwise nat_eq a.args b.args) e in
    let inner = and_parts (nat_eq a.sort b.sort) (pointwise nat_eq a.args b.args) outer.1 in
    node_of_parts a.head b.head a.sort b.sort a.args b.args
    (head_eq-same a.head b.head outer.0) (nat_eq-same a.sort b.sort inner.0) ((bytes_decides a.args b.args).0 inner.1)

-- each node compares as equal to itself
pub node_eq-refl : (a : Node) → node_eq a a ≡ true
node_eq-refl a = search rules

-- comparing two nodes decides whether they are one
pub node_eq-decides : (a b : Node) → Decides (node_eq a b) (a ≡ b)
node_eq-decides a b = (node_eq-same a b, λ e. rw (← e) (node_eq-refl a))

-- ---- nodes that are the same
-- the head of that kind with that number
head_of : ℕ → ℤ → Head
head_of kind number =
    cond (nat_eq kind 0) True (cond (nat_eq kind 1) False (cond (nat_eq kind 2) Not (cond (nat_eq kind 3) And
    (cond (nat_eq kind 4) Or (cond (nat_eq kind 5) Implies (cond (nat_eq kind 6) Eq (cond (nat_eq kind 7) Le
    (cond (nat_eq kind 8) (Int number) (cond (nat_eq kind 9) Add (cond (nat_eq kind 10) Neg (cond (nat_eq kind 11) Mul
    (cond (nat_eq kind 12) (Fun (unsigned_abs number)) (Const (unsigned_abs number))))))))))))))

head_of_parts : (a : Head) → head_of (head_kind a) (head_number a) ≡ a
unfolding head_of
head_of_parts True = refl
head_of_parts False = refl
head_of_parts Not = refl
head_of_parts And = refl
head_of_parts Or = refl
head_of_parts Implies = refl
head_of_parts Eq = refl
head_of_parts Le = refl
head_of_parts (Int value) = refl
head_of_parts Add = refl
head_of_parts Neg = refl
head_of_parts Mul = refl
head_of_parts (Fun function) = refl
head_of_parts (Const constant) = refl

both_true : (a b : Bool) → a ≡ true → b ≡ true → (a && b) ≡ true
both_true true true p q = refl
both_true true false p q = q
both_true false b p q = p

nat_eq-refl : (a : ℕ) → nat_eq a a ≡ true
nat_eq-refl a = search rules

same_head-same : (a b : Head) → is_same_head a b ≡ true → a ≡ b
same_head-same a b e =
    let parts = and_parts (nat_eq (head_kind a) (head_kind b)) (int_eq (head_number a) (head_number b)) e in
    let kinds = nat_eq-same (head_kind a) (head_kind b) parts.0 in
    let numbers = (signed_Decides (head_number a) (head_number b)).0 parts.1 in
    sym (head_of_parts a) ∙ (λ i. head_of (kinds i) (numbers i)) ∙ head_of_parts b

-- two nodes that are the same are equal
pub same_node-same : (a b : Node) → is_same_node a b ≡ true → a ≡ b
same_node-same a b e =
    let outer = and_parts (is_same_head a.head b.head) (nat_eq a.sort b.sort && pointwise nat_eq a.args b.args) e in
    let inner = and_parts (nat_eq a.sort b.sort) (pointwise nat_eq a.args b.args) outer.1 in
    node_of_parts a.head b.head a.sort b.sort a.args b.args
    (same_head-same a.head b.head outer.0) (nat_eq-same a.sort b.sort inner.0) ((bytes_decides a.args b.args).0 inner.1)

-- each node is the same as itself
pub same_node-refl : (a : Node) → is_same_node a a ≡ true
same_node-refl a =
    both_true (is_same_head a.head a.head) (nat_eq a.sort a.sort && pointwise nat_eq a.args a.args)
    (both_true (nat_eq (head_kind a.head) (head_kind a.head)) (int_eq (head_number a.head) (head_number a.head))
    (nat_eq-refl (head_kind a.head)) ((signed_Decides (head_number a.head) (head_number a.head)).1 refl))
    (both_true (nat_eq a.sort a.sort) (pointwise nat_eq a.args a.args) (nat_eq-refl a.sort) ((bytes_decides a.args a.args).1 refl))

-- two nodes are the same exactly where they are equal
pub same_node-decides : (a b : Node) → Decides (is_same_node a b) (a ≡ b)
same_node-decides a b = (same_node-same a b, λ e. rw (← e) (same_node-refl a))

-- to the code they are equal exactly where they are the same
pub node_eq-is_same : (a b : Node) → node_eq a b ≡ is_same_node a b
node_eq-is_same a b = one_answer (node_eq a b) (is_same_node a b) (node_eq-decides a b) (same_node-decides a b)
