-- What holds of every theory.
use Rattle.std.specs.Prelude.{◌≡◌, ℕ, List}
use Rattle.std.specs.List.{AllZip}
use Rattle.grind_schemes.specs.Theorems.{TheoremData}
use Rattle.grind_grammar.specs.Terms.{Declaration}
use Rattle.grind_resolution.specs.Same.{AreSame}
use Rattle.grind_theory.specs.declared.theory.Fault.{Fault}
use Rattle.grind_theory.specs.declared.theory.Theory.{Theory}
use Rattle.grind_theory.specs.States.{State, opening_state}
use Rattle.grind_theory.specs.Faults.{FaultOf}
use Rattle.grind_theory.specs.Theories.{Takes, RefusedAt, IsTheoryOf}

-- a declaration has one first fault at most
abbrev pub OneFault : Type 0
OneFault = (state : State) (d : Declaration) (a b : Fault) → FaultOf state d a → FaultOf state d b → a ≡ b

-- a declaration that is taken has no fault
abbrev pub NoneFaulty : Type 0
NoneFaulty = (before after : State) (d : Declaration) (fault : Fault) → Takes before d after → ¬ FaultOf before d fault

-- no declaration is neither taken nor has a fault
abbrev pub EachJudged : Type 0
EachJudged =
    (before : State) (d : Declaration) → ((after : State) → ¬ Takes before d after)
    → ((fault : Fault) → ¬ FaultOf before d fault) → ⊥

-- declarations that make a theory are not refused
abbrev pub NoneRefused : Type 0
NoneRefused =
    (ds : List Declaration) (theory : Theory) (number : ℕ) (fault : Fault)
    → IsTheoryOf ds theory → ¬ RefusedAt opening_state ds number fault

-- declarations are refused at one of them at most, with one fault
abbrev pub OneRefusal : Type 0
OneRefusal =
    (ds : List Declaration) (m n : ℕ) (a b : Fault)
    → RefusedAt opening_state ds m a → RefusedAt opening_state ds n b → (m ≡ n) × (a ≡ b)

-- two theorems are the same: name, variables, what they say and their patterns, whatever room their lists of arguments have
pub record AreSameTheorems (a b : TheoremData) : Type 0 where
  pub names : a.name ≡ b.name
  pub variables : a.vars ≡ b.vars
  pub bodies : AreSame a.body b.body
  pub patterns : AllZip (AllZip AreSame) a.patterns b.patterns

-- two theories are the same, but for the room that the schemes of their theorems have
pub record AreSameTheories (a b : Theory) : Type 0 where
  pub signatures : a.signature ≡ b.signature
  pub theorems : AllZip AreSameTheorems a.lemmas.theorems b.lemmas.theorems
  pub limits : a.lemmas.limits ≡ b.lemmas.limits
  pub goals : a.goals ≡ b.goals

-- declarations make at most one theory
abbrev pub OneTheory : Type 0
OneTheory = (ds : List Declaration) (a b : Theory) → IsTheoryOf ds a → IsTheoryOf ds b → AreSameTheories a b
