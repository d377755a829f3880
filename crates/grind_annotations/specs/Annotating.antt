-- The patterns that annotations give a theorem, or that they give none: for private contracts.
use Rattle.std.specs.Prelude.{ℕ, List, Option, Some, None}
use Rattle.grind_schemes.specs.declared.scheme.Scheme.{Scheme}
use Rattle.grind_grammar.specs.Terms.{Annotation}
use Rattle.grind_resolution.specs.Scopes.{Given}
use Rattle.grind_resolution.specs.Same.{AreSame}
use Rattle.grind_annotations.specs.Giving.{GivesPatterns, GivePatterns}

-- the annotation gives these patterns, or it gives none, whichever scheme that is the same as this one the body stands for
abbrev pub GivesOrNone : (List ℕ → Given → Type 0) → List ℕ → Scheme → Annotation → Option (List Scheme) → Type 0
GivesOrNone gives vars body annotation (Some patterns) = GivesPatterns gives vars body annotation patterns
GivesOrNone gives vars body annotation None =
    (other : Scheme) → AreSame other body → (patterns : List Scheme) → ¬ GivesPatterns gives vars other annotation patterns

-- the annotations give these lists of patterns, or they give none, whichever scheme that is the same as this one the body stands for
abbrev pub ListsOrNone : (List ℕ → Given → Type 0) → List ℕ → Scheme → List Annotation → Option (List (List Scheme)) → Type 0
ListsOrNone gives vars body annotations (Some lists) = GivePatterns gives vars body annotations lists
ListsOrNone gives vars body annotations None =
    (other : Scheme) → AreSame other body → (lists : List (List Scheme)) → ¬ GivePatterns gives vars other annotations lists
