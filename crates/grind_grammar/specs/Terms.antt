-- Declarations and terms, apart from where they stand in a file.
use Rattle.std.specs.Prelude.{ℕ, ℤ, ◌+◌, ◌≤◌, max, List, All}
use Rattle.grind_grammar.specs.declared.syntax.Unary.{Unary}
use Rattle.grind_grammar.specs.declared.syntax.Binary.{Binary}

mutual
  -- a formula or a term: a leaf, a name with its parts (none for a constant), or an operator with one part or two
  pub data Term : Type 0 where
    True : Term
    False : Term
    Number : ℤ → Term
    Apply : List ℕ → Row → Term
    One : Unary → Term → Term
    Two : Binary → Term → Term → Term

  -- the parts of a name, in order
  pub data Row : Type 0 where
    none : Row
    more : Term → Row → Row

abbrev mutual
  -- a leaf has depth 1, another term is one deeper than its deepest part
  pub depth : Term → ℕ
  depth True = 1
  depth False = 1
  depth (Number value) = 1
  depth (Apply name row) = row_depth row + 1
  depth (One op a) = depth a + 1
  depth (Two op a b) = max (depth a) (depth b) + 1

  pub row_depth : Row → ℕ
  row_depth none = 0
  row_depth (more t row) = max (depth t) (row_depth row)

-- a variable of a theorem or a constant of a goal, and its sort
pub record Bound : Type 0 where
  pub name : List ℕ
  pub sort : List ℕ

-- how the patterns of a theorem are found
pub data Annotation : Type 0 where
  Left : Annotation
  Right : Annotation
  Hyps : Annotation
  Concl : Annotation
  Pattern : List Term → Annotation

-- a declaration
pub data Declaration : Type 0 where
  Sort : List ℕ → Declaration
  Fun : List ℕ → List (List ℕ) → List ℕ → Declaration
  Theorem : List ℕ → List Bound → List Annotation → Term → Declaration
  Goal : List ℕ → List Bound → List Term → Term → Declaration
  Limit : List ℕ → ℤ → Declaration

-- the term is no deeper than the limit
abbrev pub Fits : ℕ → Term → Type 0
Fits limit t = depth t ≤ limit

-- no term of the annotation is deeper
abbrev pub AnnotationFits : ℕ → Annotation → Type 0
AnnotationFits limit Left = Unit {0}
AnnotationFits limit Right = Unit {0}
AnnotationFits limit Hyps = Unit {0}
AnnotationFits limit Concl = Unit {0}
AnnotationFits limit (Pattern terms) = All (Fits limit) terms

-- no term of the declaration is deeper
abbrev pub DeclarationFits : ℕ → Declaration → Type 0
DeclarationFits limit (Sort name) = Unit {0}
DeclarationFits limit (Fun name sorts result) = Unit {0}
DeclarationFits limit (Theorem name bounds annotations body) = All (AnnotationFits limit) annotations × Fits limit body
DeclarationFits limit (Goal name bounds hyps show) = All (Fits limit) hyps × Fits limit show
DeclarationFits limit (Limit name value) = Unit {0}
