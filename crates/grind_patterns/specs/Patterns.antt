-- Which terms an annotation takes as patterns.
use Rattle.std.specs.Prelude.{◌≡◌, ◌≢◌, ◌⊎◌, ℕ, List, [], ◌∷◌, ◌++◌, Option, Some, None, All, Any, ⊤}
use Rattle.grind_term_graph.specs.declared.head.Head.{Head}
use Rattle.grind_term_graph.specs.declared.head.Head.TheVariants.{Implies, Eq, Int, Fun}
use Rattle.grind_schemes.specs.declared.scheme.Scheme.{Scheme, Var, Apply', Row_of-Scheme, end_of-Scheme, more_of-Scheme, items-the_row-Scheme}
use Rattle.grind_schemes.specs.Schemes.{IsScheme, HasVar, IsHeadedByFunction}
use Rattle.grind_schemes.specs.Theorems.{HoldsEach}
use Rattle.grind_patterns.specs.declared.kind.Kind.{Kind}
use Rattle.grind_patterns.specs.declared.kind.Kind.TheVariants.{Left, Right, Hyps, Concl, Written}
use Rattle.grind_patterns.specs.Copies.{AreCopies}

-- a declared function or a number
abbrev pub IsTermHead : Head → Type 0
IsTermHead (Fun _) = ⊤
IsTermHead (Int _) = ⊤
IsTermHead _ = ⊥

-- built from declared functions, numbers and variables alone
abbrev mutual
  pub IsTerm : Scheme → Type 0
  IsTerm (Var number) = ⊤
  IsTerm (Apply' head sort shape args) = IsTermHead head × AreTerms args

  pub AreTerms : {m : _} → Row_of-Scheme m → Type 0
  AreTerms end_of-Scheme = ⊤
  AreTerms (more_of-Scheme first rest) = IsTerm first × AreTerms rest

-- a variable stands in the scheme that stands in none of the terms
abbrev pub HasUncovered : List Scheme → Scheme → Type 0
HasUncovered terms scheme = (variable : ℕ) × HasVar variable scheme × ¬ Any (HasVar variable) terms

-- headed by a declared function, built from declared functions, numbers and variables alone, and with a variable
pub record IsPatternTerm (scheme : Scheme) : Type 0 where
  pub headed : IsHeadedByFunction scheme
  pub built : IsTerm scheme
  pub open_to : (variable : ℕ) × HasVar variable scheme

-- at a pattern term the walk takes it exactly where it has a variable that no term taken before has
abbrev pub TakesAt : List Scheme → Scheme → List Scheme → Type 0
TakesAt before term after =
    IsPatternTerm term ×
    ((HasUncovered before term × (after ≡ before ++ term ∷ [])) ⊎ (¬ HasUncovered before term × (after ≡ before)))

-- what a walk has taken after a scheme, from the outside to the inside and from the left; it goes not inside a
-- pattern term
abbrev mutual
  pub Walks : List Scheme → Scheme → List Scheme → Type 0
  Walks before (Var number) after = after ≡ before
  Walks before (Apply' head sort shape args) after =
      TakesAt before (Apply' head sort shape args) after
      ⊎ (¬ IsPatternTerm (Apply' head sort shape args) × WalksRow before args after)

  pub WalksRow : {m : _} → List Scheme → Row_of-Scheme m → List Scheme → Type 0
  WalksRow before end_of-Scheme after = after ≡ before
  WalksRow before (more_of-Scheme first rest) after =
      (middle : List Scheme) × Walks before first middle × WalksRow middle rest after

-- and after several schemes
abbrev pub WalksEach : List Scheme → List Scheme → List Scheme → Type 0
WalksEach before [] after = after ≡ before
WalksEach before (first ∷ rest) after =
    (middle : List Scheme) × Walks before first middle × WalksEach middle rest after

-- of an implication these, and of another formula none
abbrev pub if_implication : Head → List Scheme → List Scheme
if_implication Implies hyps = hyps
if_implication _ hyps = []

-- the hypotheses of a formula h1 -> h2 -> .. -> c
abbrev mutual
  pub hypotheses_of : Scheme → List Scheme
  hypotheses_of (Var number) = []
  hypotheses_of (Apply' head sort shape args) = if_implication head (hypotheses_of_row args)

  pub hypotheses_of_row : {m : _} → Row_of-Scheme m → List Scheme
  hypotheses_of_row (more_of-Scheme hyp (more_of-Scheme rest end_of-Scheme)) = hyp ∷ hypotheses_of rest
  hypotheses_of_row _ = []

-- of an implication the conclusion after it, and of another formula the formula
abbrev pub conclusion_or : Head → Option Scheme → Scheme → Scheme
conclusion_or Implies (Some behind) formula = behind
conclusion_or _ _ formula = formula

-- and its conclusion c
abbrev mutual
  pub conclusion_of : Scheme → Scheme
  conclusion_of (Var number) = Var number
  conclusion_of (Apply' head sort shape args) =
      conclusion_or head (conclusion_of_row args) (Apply' head sort shape args)

  pub conclusion_of_row : {m : _} → Row_of-Scheme m → Option Scheme
  conclusion_of_row (more_of-Scheme hyp (more_of-Scheme rest end_of-Scheme)) = Some (conclusion_of rest)
  conclusion_of_row _ = None

-- the formula is an equation of these sides
abbrev pub IsEquation : Scheme → Scheme → Scheme → Type 0
IsEquation left right (Var number) = ⊥
IsEquation left right (Apply' head sort shape args) =
    (head ≡ Eq) × (items-the_row-Scheme _ args ≡ left ∷ right ∷ [])

-- the terms that a kind of annotation chooses; none where the formula has no such part
abbrev pub Chooses : Scheme → Kind → List Scheme → Type 0
Chooses body Left chosen =
    (left : Scheme) × (right : Scheme) × IsEquation left right (conclusion_of body) × (chosen ≡ left ∷ [])
Chooses body Right chosen =
    (left : Scheme) × (right : Scheme) × IsEquation left right (conclusion_of body) × (chosen ≡ right ∷ [])
Chooses body Hyps chosen = (hypotheses_of body ≢ []) × WalksEach [] (hypotheses_of body) chosen
Chooses body Concl chosen = Walks [] (conclusion_of body) chosen
Chooses body (Written terms) chosen = chosen ≡ terms

-- the terms that are written out are well formed over these variables
abbrev pub IsFormedKind : List ℕ → Kind → Type 0
IsFormedKind vars (Written terms) = All (IsScheme vars) terms
IsFormedKind vars _ = ⊤

-- the kind chooses these, they are pattern terms, and each variable stands in one of them
pub record AreChosen (vars : List ℕ) (body : Scheme) (kind : Kind) (chosen : List Scheme) : Type 0 where
  pub chooses : Chooses body kind chosen
  pub patterns : All IsPatternTerm chosen
  pub variables : HoldsEach vars chosen

-- the patterns are copies of the terms that the kind chooses
abbrev pub PatternsOf : List ℕ → Scheme → Kind → List Scheme → Type 0
PatternsOf vars body kind patterns = (chosen : List Scheme) × AreChosen vars body kind chosen × AreCopies patterns chosen

-- these are the patterns, or there are none
abbrev pub PatternsOrNone : List ℕ → Scheme → Kind → Option (List Scheme) → Type 0
PatternsOrNone vars body kind (Some patterns) = PatternsOf vars body kind patterns
PatternsOrNone vars body kind None = (chosen : List Scheme) → ¬ AreChosen vars body kind chosen
