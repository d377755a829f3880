-- The patterns that annotations give a theorem.
use Rattle.std.specs.Prelude.{◌≡◌, ℕ, List, [], ◌∷◌}
use Rattle.grind_schemes.specs.declared.scheme.Scheme.{Scheme}
use Rattle.grind_grammar.specs.Terms.{Term, Annotation, Left, Right, Hyps, Concl, Pattern}
use Rattle.grind_resolution.specs.Scopes.{Given}
use Rattle.grind_resolution.specs.Resolved.{StandsFor}
use Rattle.grind_patterns.specs.declared.kind.Kind.{Kind}
use Rattle.grind_patterns.specs.declared.kind.Kind.TheVariants as annotated
use Rattle.grind_patterns.specs.Patterns.{PatternsOf}

module _ (gives : List ℕ → Given → Type 0) where
  -- the terms stand for these schemes, one each
  abbrev pub StandForEach : List Term → List Scheme → Type 0
  StandForEach [] [] = Unit {0}
  StandForEach [] (scheme ∷ schemes) = ⊥
  StandForEach (t ∷ terms) [] = ⊥
  StandForEach (t ∷ terms) (scheme ∷ schemes) = StandsFor gives t scheme × StandForEach terms schemes

  -- the annotation, with the schemes of the terms that it writes
  abbrev pub Annotates : Annotation → Kind → Type 0
  Annotates Left kind = kind ≡ annotated.Left
  Annotates Right kind = kind ≡ annotated.Right
  Annotates Hyps kind = kind ≡ annotated.Hyps
  Annotates Concl kind = kind ≡ annotated.Concl
  Annotates (Pattern terms) kind = (schemes : List Scheme) × StandForEach terms schemes × (kind ≡ annotated.Written schemes)

  -- the annotation gives these patterns of a theorem with variables of these sorts and this body
  abbrev pub GivesPatterns : List ℕ → Scheme → Annotation → List Scheme → Type 0
  GivesPatterns vars body annotation patterns = (kind : Kind) × Annotates annotation kind × PatternsOf vars body kind patterns

  -- the annotations give these lists of patterns, one each and in order
  abbrev pub GivePatterns : List ℕ → Scheme → List Annotation → List (List Scheme) → Type 0
  GivePatterns vars body [] [] = Unit {0}
  GivePatterns vars body [] (patterns ∷ lists) = ⊥
  GivePatterns vars body (annotation ∷ annotations) [] = ⊥
  GivePatterns vars body (annotation ∷ annotations) (patterns ∷ lists) =
      GivesPatterns vars body annotation patterns × GivePatterns vars body annotations lists
