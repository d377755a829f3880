-- What a theorem is to contracts, and what every theorem keeps.
use Rattle.std.specs.Prelude.{◌≡◌, ◌↔◌, ℕ, ◌<◌, List, length, Some, All, Any}
use Rattle.grind_term_graph.specs.Terms.{prop}
use Rattle.grind_schemes.specs.declared.scheme.Scheme.{Scheme}
use Rattle.grind_schemes.specs.Schemes.{scheme_sort, IsScheme, HasVar, IsHeadedByFunction}

-- a theorem: its name, the sorts of its variables, what it says, and the lists of its patterns
pub record TheoremData : Type 0 where
  pub name : List ℕ
  pub vars : List ℕ
  pub body : Scheme
  pub patterns : List (List Scheme)

-- the theorem of these parts
abbrev pub theorem_data : List ℕ → List ℕ → Scheme → List (List Scheme) → TheoremData
theorem_data name vars body patterns = record { name = name; vars = vars; body = body; patterns = patterns }

-- each of these variables stands in one of the patterns
abbrev pub HoldsEach : List ℕ → List Scheme → Type 0
HoldsEach vars patterns = (variable : ℕ) → variable < length vars → Any (HasVar variable) patterns

-- what every theorem keeps
pub record IsTheorem (theorem : TheoremData) : Type 0 where
  pub body : IsScheme theorem.vars theorem.body
  pub formula : scheme_sort theorem.vars theorem.body ≡ Some prop
  pub patterns : All (All (IsScheme theorem.vars)) theorem.patterns
  pub functions : All (All IsHeadedByFunction) theorem.patterns
  pub variables : All (HoldsEach theorem.vars) theorem.patterns
  pub wanted : (0 < length theorem.vars) ↔ (0 < length theorem.patterns)
