-- Which theory the declarations of a file make, or which of them is the first bad one, and what is wrong with it.
use Rattle.std.specs.Prelude.{◌≡◌, ℕ, suc, pos, List, [], ◌∷◌, ◌++◌}
use Rattle.std.specs.List.{AllByRecursion}
use Rattle.grind_schemes.specs.declared.scheme.Scheme.{Scheme}
use Rattle.grind_schemes.specs.Goals.{GoalData}
use Rattle.grind_schemes.specs.Theorems.{theorem_data}
use Rattle.grind_grammar.specs.Terms.{Declaration, Sort, Fun, Theorem, Goal, Limit}
use Rattle.grind_signature.specs.Signatures.{SignatureData, IsDeclared, with_sort, with_function, with_label}
use Rattle.grind_theory.specs.declared.limits.LimitKind.{LimitKind}
use Rattle.grind_theory.specs.declared.theory.Fault.{Fault}
use Rattle.grind_theory.specs.declared.theory.Theory.{Theory}
use Rattle.grind_theory.specs.States.{State, state_data, opening_state, limit_name, limits_data, with_limit, sort_number, sort_numbers, bound_sorts}
use Rattle.grind_theory.specs.Faults.{IsNew, IsKnown, IsCounted, IsWellSorted, IsPatterned, IsSmall, IsTheoremOf, IsGoalOf, FaultOf}

-- what the declaration adds: a sort, a function, a theorem after those before it, a goal after those before it, or the value
-- of a limit. The names of theorems and goals are labels
abbrev pub Adds : State → Declaration → State → Type 0
Adds before (Sort name) after =
    after ≡ state_data (with_sort before.signature name) before.theorems before.limits before.set before.goals
Adds before (Fun name sorts result) after =
    after ≡ state_data (with_function before.signature (record {
      name = name;
      args = sort_numbers before.signature sorts;
      result = sort_number before.signature result;
    })) before.theorems before.limits before.set before.goals
Adds before (Theorem name bounds annotations body) after =
    (scheme : Scheme) × (patterns : List (List Scheme)) × IsTheoremOf before.signature bounds annotations body scheme patterns
    × (after ≡ state_data (with_label before.signature name)
    (before.theorems ++ theorem_data name (sort_numbers before.signature (bound_sorts bounds)) scheme patterns ∷ [])
    before.limits before.set before.goals)
Adds before (Goal name bounds hyps show) after =
    (goal : GoalData) × IsGoalOf before.signature name bounds hyps show goal
    × (after ≡ state_data (with_label before.signature name) before.theorems before.limits before.set (before.goals ++ goal ∷ []))
Adds before (Limit name value) after =
    (kind : LimitKind) × (n : ℕ) × (name ≡ limit_name kind) × (value ≡ pos n)
    × (after ≡ state_data before.signature before.theorems (with_limit before.limits kind n) (before.set ++ kind ∷ []) before.goals)

-- a declaration leads from one state to the next: it is all that is asked of it, and adds what it declares
pub record Takes (before : State) (d : Declaration) (after : State) : Type 0 where
  pub fresh : IsNew before d
  pub known : IsKnown before d
  pub counted : IsCounted before d
  pub sorted : IsWellSorted before d
  pub patterned : IsPatterned before d
  pub small : IsSmall before d
  pub adds : Adds before d after

-- declarations, one after another
abbrev pub TakesAll : State → List Declaration → State → Type 0
TakesAll before [] after = after ≡ before
TakesAll before (d ∷ ds) after = (mid : State) × Takes before d mid × TakesAll mid ds after

-- the first declaration that has a fault, counted from 1, and its first fault
pub data RefusedAt : State → List Declaration → ℕ → Fault → Type 0 where
  here : {before : State} {d : Declaration} {ds : List Declaration} {fault : Fault} → FaultOf before d fault →
      RefusedAt before (d ∷ ds) 1 fault
  later : {before mid : State} {d : Declaration} {ds : List Declaration} {number : ℕ} {fault : Fault} → Takes before d mid →
      RefusedAt mid ds number fault → RefusedAt before (d ∷ ds) (suc number) fault

-- the signature, theorems, limits and goals of a theory, and the limits that were set, as a state
abbrev pub state_of : Theory → List LimitKind → State
state_of theory set =
    state_data theory.signature theory.lemmas.theorems (limits_data theory.lemmas.limits) set theory.goals

-- the declarations, from nothing declared, lead to the theory
abbrev pub IsTheoryOf : List Declaration → Theory → Type 0
IsTheoryOf ds theory = (set : List LimitKind) × TakesAll opening_state ds (state_of theory set)

-- each node of the goal is declared
abbrev pub IsGoalDeclared : SignatureData → GoalData → Type 0
IsGoalDeclared s goal = AllByRecursion (IsDeclared s goal.constants goal.terms.nodes) goal.terms.nodes

-- each node of each goal is declared
abbrev pub AreDeclared : SignatureData → List GoalData → Type 0
AreDeclared s goals = AllByRecursion (IsGoalDeclared s) goals
