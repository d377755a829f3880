-- What a goal is to contracts, and what every goal keeps.
use Rattle.std.specs.Prelude.{◌≡◌, ◌≢◌, ℕ, ◌≤◌, List, length, Some, All, map}
use Rattle.std.specs.List.{AllPairs}
use Rattle.grind_term_graph.specs.declared.head.Head.TheVariants.{Fun}
use Rattle.grind_term_graph.specs.declared.node.Node.{Node}
use Rattle.grind_term_graph.specs.Terms.{Terms, prop, sort_at}
use Rattle.grind_schemes.specs.declared.goal.Constant.{Constant}
use Rattle.grind_schemes.specs.Labels.{IsLabel}

-- a goal: its name, its constants, its terms, its hypotheses and its conclusion
pub record GoalData : Type 0 where
  pub name : List ℕ
  pub constants : List Constant
  pub terms : Terms
  pub hyps : List ℕ
  pub show : ℕ

-- the goal of these parts
abbrev pub goal_data : List ℕ → List Constant → Terms → List ℕ → ℕ → GoalData
goal_data name constants terms hyps show =
    record { name = name; constants = constants; terms = terms; hyps = hyps; show = show }

-- a formula of these nodes
abbrev pub IsFormula : List Node → ℕ → Type 0
IsFormula nodes node = sort_at nodes node ≡ Some prop

-- two nodes of one function have one sort, and arguments of the same sorts
abbrev pub AreAlike : List Node → Node → Node → Type 0
AreAlike nodes one other =
    (function : ℕ) → one.head ≡ Fun function → other.head ≡ Fun function →
    (one.sort ≡ other.sort) × (map (sort_at nodes) one.args ≡ map (sort_at nodes) other.args)

-- what every goal keeps
pub record IsGoal (goal : GoalData) : Type 0 where
  pub name : IsLabel goal.name
  pub constant_names : All (λ (constant : Constant). IsLabel constant.name) goal.constants
  pub constants_differ : AllPairs (λ (one other : Constant). one.name ≢ other.name) goal.constants
  pub hyps : All (IsFormula goal.terms.nodes) goal.hyps
  pub show : IsFormula goal.terms.nodes goal.show
  pub size : length goal.terms.nodes ≤ 65536
  pub functions : AllPairs (AreAlike goal.terms.nodes) goal.terms.nodes
