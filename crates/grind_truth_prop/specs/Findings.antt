-- What is found at one node. No public clause cites these words.
use Rattle.std.specs.Prelude.{◌≡◌, ◌≢◌, ℕ, ◌<◌, ◌⊎◌, ◌↔◌, Bool, List, Contains}
use Rattle.std.specs.List.{AllPairs}
use Rattle.grind_term_graph.specs.declared.head.Head.{Head}
use Rattle.grind_term_graph.specs.declared.node.Node.{Node}
use Rattle.grind_truth_prop.specs.Given.{IsKnown}
use Rattle.grind_truth_prop.specs.Connectives.{IsConnective, IsFixed, IsContradicted}
use Rattle.grind_truth_prop.specs.Equations.{HasJoined, HasParted}
use Rattle.grind_truth_prop.specs.Ways.{args_of, CanHave, MustHave}
use Rattle.grind_truth_prop.specs.declared.types.Known.{Known}
use Rattle.grind_truth_prop.specs.declared.terms.Connective.{Connective}
use Rattle.grind_truth_prop.specs.declared.ways.Joint.{Joint}
use Rattle.grind_truth_prop.specs.declared.ways.Place.{Place}
use Rattle.grind_truth_prop.specs.declared.ways.Place.TheVariants.{Whole, First, Second}
use Rattle.grind_truth_prop.specs.declared.types.TruthStep.{TruthStep}
use Rattle.grind_truth_prop.specs.declared.types.TruthStep.TheVariants as step
use Rattle.grind_truth_prop.specs.declared.units.equations.Equated.{Equated}
use Rattle.grind_truth_prop.specs.declared.units.equations.Equated.TheVariants as equated
use Rattle.grind_truth_prop.specs.declared.units.connectives.Finding.{Finding}
use Rattle.grind_truth_prop.specs.declared.units.connectives.Finding.TheVariants as finding

-- the node is that connective of these two
pub record IsConnectiveOf (nodes : List Node) (node : ℕ) (it : Connective) : Type 0 where
  pub connective : IsConnective nodes node it.head (args_of it.head it.first it.second)
  pub among : (n : ℕ) → Contains (args_of it.head it.first it.second) n ↔ ((n ≡ it.first) ⊎ (n ≡ it.second))
  pub first_lower : it.first < node
  pub second_lower : it.second < node

-- the node is no connective
abbrev pub IsNoConnective : List Node → ℕ → Type 0
IsNoConnective nodes node = (head : Head) (args : List ℕ) → ¬ IsConnective nodes node head args

-- the truth at that place, that of the node n, is known, or can be either
abbrev pub IsOpenIn : Known → Joint → Place → ℕ → Type 0
IsOpenIn known joint place n = IsKnown known n ⊎ ((value : Bool) → CanHave joint place value)

-- the truth at that place, that of the node n, is not known, and can be this alone
pub record IsForced (known : Known) (joint : Joint) (place : Place) (n : ℕ) (value : Bool) : Type 0 where
  pub unknown : ¬ IsKnown known n
  pub can : CanHave joint place value
  pub must : MustHave joint place value

-- the node at that place
abbrev pub node_in : Place → ℕ → Connective → ℕ
node_in Whole n it = n
node_in First n it = it.first
node_in Second n it = it.second

-- at some place the truth, that of node m, can be this alone
abbrev pub IsForcedAmong : Known → Joint → ℕ → Connective → ℕ → Bool → Type 0
IsForcedAmong known joint n it m value = (place : Place) × (node_in place n it ≡ m) × IsForced known joint place m value

-- at no place a truth is left alone
abbrev pub IsOpenAmong : Known → Joint → ℕ → Connective → Type 0
IsOpenAmong known joint n it = (place : Place) → IsOpenIn known joint place (node_in place n it)

-- what follows at an unknown equation
abbrev pub IsEquated : Known → List (List ℕ) → ℕ → Equated → Type 0
IsEquated known lists node equated.Joined = HasJoined known lists node
IsEquated known lists node (equated.Parted apart) = HasParted known lists node apart

-- what follows at a connective of these two
pub record IsFixedTruth (known : Known) (lists : List (List ℕ)) (node n : ℕ) (value : Bool) (first second : ℕ) : Type 0 where
  pub head : Head
  pub args : List ℕ
  pub among : (m : ℕ) → Contains args m ↔ ((m ≡ first) ⊎ (m ≡ second))
  pub fixed : IsFixed known lists node head args n value

abbrev pub IsFinding : Known → List (List ℕ) → ℕ → Finding → Type 0
IsFinding known lists node finding.Contradiction = IsContradicted known lists node
IsFinding known lists node (finding.Truth n value first second) = IsFixedTruth known lists node n value first second

-- m is the first of the two arguments that is not known
abbrev pub IsFirstUnknownOf : Known → Connective → ℕ → Type 0
IsFirstUnknownOf known it m =
    (¬ IsKnown known m) × ((m ≡ it.first) ⊎ (IsKnown known it.first × (m ≡ it.second)))

-- the two arguments are known
abbrev pub AreBothKnown : Known → Connective → Type 0
AreBothKnown known it = IsKnown known it.first × IsKnown known it.second

-- the answer to an unknown equation of whose sides it is known whether they are equal
abbrev pub equated_answer : ℕ → Equated → TruthStep
equated_answer node equated.Joined = step.Joined node
equated_answer node (equated.Parted apart) = step.Parted node apart

-- the list has the two nodes, and none twice
pub record AreTheTwo (first second : ℕ) (free : List ℕ) : Type 0 where
  pub exactly : (n : ℕ) → Contains free n ↔ ((n ≡ first) ⊎ (n ≡ second))
  pub once : AllPairs (λ a b. a ≢ b) free

-- the answer to a connective at which this follows
abbrev pub IsAnswerTo : ℕ → Finding → TruthStep → Type 0
IsAnswerTo node finding.Contradiction answer = answer ≡ step.Conflict node
IsAnswerTo node (finding.Truth n value first second) answer =
    (free : List ℕ) × (answer ≡ step.Settle n value free) × AreTheTwo first second free
