-- What is asked of a theorem's patterns and size: for private contracts.
use Rattle.std.specs.Prelude.{◌≡◌, ◌↔◌, ℕ, ◌<◌, ◌≤◌, ◌+◌, List, length}
use Rattle.grind_schemes.specs.declared.scheme.Scheme.{Scheme}
use Rattle.grind_schemes.specs.Theorems.{TheoremData}
use Rattle.grind_grammar.specs.Terms.{Term, Annotation}
use Rattle.grind_resolution.specs.Scopes.{Given}
use Rattle.grind_resolution.specs.Resolved.{StandsFor}
use Rattle.grind_resolution.specs.Sizes.{size}
use Rattle.grind_theory.specs.declared.theory.Fault.{Fault}
use Rattle.grind_theory.specs.declared.theory.Fault.TheVariants as faults
use Rattle.grind_annotations.specs.Giving.{GivePatterns}
use Rattle.grind_annotations.specs.Written.{written_sizes}

-- there is an annotation exactly where there is a variable
abbrev pub IsAnnotated : List ℕ → List Annotation → Type 0
IsAnnotated vars annotations = (0 < length vars) ↔ (0 < length annotations)

-- at most 16 variables, and at most 256 nodes of the body and the written patterns
abbrev pub IsSmallTheorem : List ℕ → List Annotation → Term → Type 0
IsSmallTheorem vars annotations body = (length vars ≤ 16) × (size body + written_sizes annotations ≤ 256)

-- by what names stand for, the body stands for the scheme, and the annotations give the lists of patterns
pub record HasPatterns (gives : List ℕ → Given → Type 0) (vars : List ℕ) (annotations : List Annotation) (body : Term) (scheme : Scheme) (lists : List (List Scheme)) : Type 0 where
  pub stands : StandsFor gives body scheme
  pub given : GivePatterns gives vars scheme annotations lists
  pub wanted : IsAnnotated vars annotations

-- the theorem of a name, variables, annotations and a body
pub record IsTheoremIn (gives : List ℕ → Given → Type 0) (name : List ℕ) (vars : List ℕ) (annotations : List Annotation) (body : Term) (theorem : TheoremData) : Type 0 where
  pub name_is : theorem.name ≡ name
  pub variables_are : theorem.vars ≡ vars
  pub found : HasPatterns gives vars annotations body theorem.body theorem.patterns
  pub small : IsSmallTheorem vars annotations body

-- the fault of patterns or size
abbrev pub FaultOfTheorem : (List ℕ → Given → Type 0) → List ℕ → List Annotation → Term → Fault → Type 0
FaultOfTheorem gives vars annotations body faults.Pattern =
    (scheme : Scheme) (lists : List (List Scheme)) → ¬ HasPatterns gives vars annotations body scheme lists
FaultOfTheorem gives vars annotations body faults.Size =
    ((scheme : Scheme) × (lists : List (List Scheme)) × HasPatterns gives vars annotations body scheme lists)
    × ¬ IsSmallTheorem vars annotations body
FaultOfTheorem gives vars annotations body faults.Duplicate = ⊥
FaultOfTheorem gives vars annotations body faults.Unknown = ⊥
FaultOfTheorem gives vars annotations body faults.Arity = ⊥
FaultOfTheorem gives vars annotations body faults.Sort = ⊥
