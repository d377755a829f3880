-- What is declared stays declared.
use Rattle.std.specs.Prelude.{◌≡◌, ℕ, zero, suc, List, [], ◌∷◌, ◌++◌, Some, slice_get}
use Rattle.std.proofs.Common.{sym, ap, subst}
use Rattle.std.proofs.lemmas.List.Elements.{All-push, All-weaker, All-from_recursion, recursion_from_All}
use Rattle.grind_term_graph.specs.declared.node.Node.{Node}
use Rattle.grind_term_graph.specs.declared.head.Head.{Head}
use Rattle.grind_term_graph.specs.declared.head.Head.TheVariants as heads
use Rattle.grind_schemes.specs.declared.goal.Constant.{Constant}
use Rattle.grind_schemes.specs.Goals.{GoalData}
use Rattle.grind_grammar.specs.Terms.{Declaration, Sort, Fun, Theorem, Goal, Limit}
use Rattle.grind_signature.specs.Signatures.{Function, SignatureData, IsDeclaredAs, IsDeclared, with_label}
use Rattle.grind_theory.specs.States.{State, sort_number, sort_numbers}
use Rattle.grind_theory.specs.Theories.{Takes, Adds, IsGoalDeclared, AreDeclared}

slice_get-more : {A : Type 0} (xs ys : List A) (k : ℕ) (x : A) → slice_get xs k ≡ Some x → slice_get (xs ++ ys) k ≡ Some x
slice_get-more [] ys k x e = absurd cc
slice_get-more (z ∷ xs) ys zero x e = e
slice_get-more (z ∷ xs) ys (suc k) x e = slice_get-more xs ys k x e

-- the functions of the one stand in the other at their places
abbrev pub HasFunctions : SignatureData → SignatureData → Type 0
HasFunctions s t = (f : ℕ) (g : Function) → slice_get s.functions f ≡ Some g → slice_get t.functions f ≡ Some g

same_functions : (s t : SignatureData) → t.functions ≡ s.functions → HasFunctions s t
same_functions s t e f g h = subst (λ fs. slice_get fs f ≡ Some g) (sym e) h

-- a declaration leaves the functions at their places
pub adds-functions : (before : State) (d : Declaration) (after : State) → Adds before d after → HasFunctions before.signature after.signature
adds-functions before (Sort n) after h = same_functions before.signature after.signature (ap (λ (x : State). (x.signature).functions) h)
adds-functions before (Fun n ss r) after h = λ f g e.
    let k : Function = record { name = n; args = sort_numbers before.signature ss; result = sort_number before.signature r } in
    subst (λ fs. slice_get fs f ≡ Some g) (sym (ap (λ (x : State). (x.signature).functions) h)) (slice_get-more (before.signature).functions (k ∷ []) f g e)
adds-functions before (Theorem n bs annotations t) after h = same_functions before.signature after.signature (ap (λ (x : State). (x.signature).functions) h.3)
adds-functions before (Goal n bs hs t) after h = same_functions before.signature after.signature (ap (λ (x : State). (x.signature).functions) h.2)
adds-functions before (Limit n v) after h = same_functions before.signature after.signature (ap (λ (x : State). (x.signature).functions) h.4)

declared_by : (s t : SignatureData) → HasFunctions s t → (constants : List Constant) (nodes : List Node) (node : Node) (head : Head)
    → IsDeclaredAs s constants nodes node head → IsDeclaredAs t constants nodes node head
declared_by s t more constants nodes node heads.True h = h
declared_by s t more constants nodes node heads.False h = h
declared_by s t more constants nodes node heads.Eq h = h
declared_by s t more constants nodes node (heads.Const c) h = h
declared_by s t more constants nodes node (heads.Fun f) h = (h.0, more f h.0 h.1, h.2, h.3)
declared_by s t more constants nodes node heads.Not h = h
declared_by s t more constants nodes node heads.And h = h
declared_by s t more constants nodes node heads.Or h = h
declared_by s t more constants nodes node heads.Implies h = h
declared_by s t more constants nodes node heads.Le h = h
declared_by s t more constants nodes node (heads.Int n) h = h
declared_by s t more constants nodes node heads.Add h = h
declared_by s t more constants nodes node heads.Neg h = h
declared_by s t more constants nodes node heads.Mul h = h

goal_declared : (s t : SignatureData) → HasFunctions s t → (goal : GoalData) → IsGoalDeclared s goal → IsGoalDeclared t goal
goal_declared s t more goal h =
    recursion_from_All (IsDeclared t goal.constants goal.terms.nodes) goal.terms.nodes
    (All-weaker (IsDeclared s goal.constants goal.terms.nodes) (IsDeclared t goal.constants goal.terms.nodes)
    (λ node d. declared_by s t more goal.constants goal.terms.nodes node node.head d) goal.terms.nodes
    (All-from_recursion (IsDeclared s goal.constants goal.terms.nodes) goal.terms.nodes h))

declared-more : (s t : SignatureData) → HasFunctions s t → (goals : List GoalData) → AreDeclared s goals → AreDeclared t goals
declared-more s t more [] h = tt
declared-more s t more (goal ∷ goals) h = (goal_declared s t more goal h.0, declared-more s t more goals h.1)

-- a declaration leaves the goals declared
pub takes-declared : (before : State) (d : Declaration) (after : State) → Takes before d after → AreDeclared before.signature before.goals → AreDeclared after.signature before.goals
takes-declared before d after h all = declared-more before.signature after.signature (adds-functions before d after h.adds) before.goals all

-- and one more goal is declared
pub goal-declared : (s t : SignatureData) (name : List ℕ) (goal : GoalData) (goals more : List GoalData) → t ≡ with_label s name → more ≡ goals ++ goal ∷ []
    → IsGoalDeclared s goal → AreDeclared s goals → AreDeclared t more
goal-declared s t name goal goals more e l h all =
    let functions : HasFunctions s t = same_functions s t (ap (λ (x : SignatureData). x.functions) e) in
    let one = goal_declared s t functions goal h in
    let others = declared-more s t functions goals all in
    subst (AreDeclared t) (sym l)
    (recursion_from_All (IsGoalDeclared t) (goals ++ goal ∷ []) (All-push (IsGoalDeclared t) goals goal (All-from_recursion (IsGoalDeclared t) goals others) one))
