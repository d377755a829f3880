-- Goals that say nothing but which terms are equal and different.
use Rattle.std.specs.Prelude.{ℕ, ◌≡◌, ◌<◌, List, [], ◌∷◌, Option, Some, None, All, Contains, length, slice_get, take, refl}
use Rattle.std.specs.Option.{IsSomeAnd}
use Rattle.std.proofs.Common.{arith, subst, inl, inr}
use Rattle.std.proofs.lemmas.List.{length-take-le}
use Rattle.std.proofs.lemmas.Option.{slice_get_within}
use Rattle.std.proofs.lemmas.List.Elements.{All-nil, All-cons}
use Rattle.grind_term_graph.specs.declared.head.Head.TheVariants as head
use Rattle.grind_term_graph.specs.declared.node.Node.{Node}
use Rattle.grind_term_graph.specs.Shape.{IsTable}
use Rattle.grind_term_graph.proofs.Tables.{WellShaped-at}
use Rattle.grind_schemes.specs.Goals.{GoalData}
use Rattle.grind_term_rules.specs.TermRules.{IsEquation}
use Rattle.grind_congruence.specs.Derivable.Derivable.{given}
use Rattle.grind_goal_equations.specs.Congruences.{IsGiven, IsDenied, CongruenceEntails, ComparesTerms}
use Rattle.grind_goal_equations.specs.Laws.{GroundGoals}

-- what an optional value satisfies, it satisfies as a value
pub some_item : {X : Type 0} (P : X → Type 0) (o : Option X) → IsSomeAnd o P → (x : X) × (o ≡ Some x) × P x
some_item P None h = absurd h
some_item P (Some x) h = (x, refl, h)

-- the sides of an equation stand before it
pub sides_within : (nodes : List Node) (n a b : ℕ) → IsTable [] nodes → IsEquation nodes n a b → (a < length nodes) × (b < length nodes)
sides_within nodes n a b table is =
    let found = some_item (λ (it : Node). (it.head ≡ head.Eq) × (it.args ≡ a ∷ b ∷ [])) (slice_get nodes n) is in
    let it : Node = found.0 in
    let within : n < length nodes = slice_get_within nodes n it found.1 in
    let shaped = WellShaped-at [] nodes n it table found.1 in
    let args : All (λ (arg : ℕ). arg < length (take n nodes)) (a ∷ b ∷ []) =
    subst (λ (list : List ℕ). All (λ (arg : ℕ). arg < length (take n nodes)) list) found.2.1 shaped.0 in
    let count : length (take n nodes) ≡ n = length-take-le n nodes (omega arith) in
    let first : a < length (take n nodes) = args 0 0 (omega arith) in
    let second : b < length (take n nodes) = args 1 0 (omega arith) in
    (omega (arith, first, count), omega (arith, second, count))

-- a pair that is given and denied follows
pub meets : (goal : GoalData) (a b : ℕ) → IsGiven goal a b → IsDenied goal a b → a < length goal.terms.nodes → b < length goal.terms.nodes
    → CongruenceEntails goal
meets goal a b is denied left right =
    let Pair : ℕ × ℕ → Type 0 = λ pair. IsGiven goal pair.0 pair.1 in
    (a, b, denied, ((a, b) ∷ [], All-cons Pair (a, b) [] is (All-nil Pair), given (0, omega arith, refl) left right))

-- a conclusion that is a hypothesis and compares terms gives and denies one pair
pub hypothesis_entails : (goal : GoalData) → IsTable [] goal.terms.nodes → ComparesTerms goal goal.show → Contains goal.hyps goal.show
    → CongruenceEntails goal
hypothesis_entails goal table (a, b, inl is) has =
    let within = sides_within goal.terms.nodes goal.show a b table is in
    meets goal a b (inl (goal.show, has, is)) (inr is) within.0 within.1
hypothesis_entails goal table (a, b, inr is) has =
    let within = sides_within goal.terms.nodes is.0 a b table is.2 in
    meets goal a b (inr is) (inl (goal.show, has, is)) within.0 within.1

pub ground_goals_decided : GroundGoals
ground_goals_decided goal table hyps show = (
  λ answered. elim answered [
    | inl has ↦ hypothesis_entails goal table show has
    | inr entails ↦ entails
  ],
  λ entails. inr entails,
)
