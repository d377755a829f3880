-- What the code has declared so far, and what it reads of the declarations that it keeps.
use Rattle.std.specs.Prelude.{ℕ, List}
use Rattle.grind_grammar.specs.declared.syntax.Decl.{Decl}
use Rattle.grind_grammar.specs.Terms.{Declaration}
use Rattle.grind_grammar.specs.Keeps.{KeepsDecls}
use Rattle.grind_theory.specs.declared.declarations.Building.{Building}
use Rattle.grind_theory.specs.declared.theory.Fault.{Fault}
use Rattle.grind_theory.specs.declared.theory.Theory.{Theory}
use Rattle.grind_theory.specs.States.{State, state_data, limits_data, opening_state}
use Rattle.grind_theory.specs.Theories.{RefusedAt, IsTheoryOf}

-- the state that the code has reached
abbrev pub state_at : Building → State
state_at b = state_data b.signature b.theorems (limits_data b.limits) b.set b.goals

-- the theory is that of the declarations which the code keeps
abbrev pub IsTheoryRead : List ℕ → List Decl → Theory → Type 0
IsTheoryRead text kept theory = (ds : List Declaration) → KeepsDecls text kept ds → IsTheoryOf ds theory

-- the declarations which the code keeps are refused at this one, with this fault
abbrev pub AreRefused : List ℕ → List Decl → ℕ → Fault → Type 0
AreRefused text kept number fault = (ds : List Declaration) → KeepsDecls text kept ds → RefusedAt opening_state ds number fault
