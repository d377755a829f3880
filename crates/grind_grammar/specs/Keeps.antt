-- Which declaration the code keeps: names as places in the text.
use Rattle.std.specs.Prelude.{◌≡◌, ℕ, ◌≤◌, List, [], ◌∷◌, length, slice_range}
use Rattle.grind_grammar.specs.declared.syntax.Name.{Name}
use Rattle.grind_grammar.specs.declared.syntax.Binder.{Binder}
use Rattle.grind_grammar.specs.declared.syntax.Annot.{Annot}
use Rattle.grind_grammar.specs.declared.syntax.Annot.TheVariants as annots
use Rattle.grind_grammar.specs.declared.syntax.Tree.{Tree, True, False, Number, Apply', One', Two', Row_of-Tree, end_of-Tree, more_of-Tree}
use Rattle.grind_grammar.specs.declared.syntax.Decl.{Decl}
use Rattle.grind_grammar.specs.declared.syntax.Decl.TheVariants as decls
use Rattle.grind_grammar.specs.Terms as terms
use Rattle.grind_grammar.specs.Terms.{Term, Row, Bound, Annotation, Left, Right, Hyps, Concl, Pattern, Declaration, Sort, Fun, Theorem, Goal, Limit}

-- the name stands in the text
abbrev pub IsPlaced : List ℕ → Name → Type 0
IsPlaced text name = (name.start ≤ name.end) × (name.end ≤ length text)

-- the bytes of a name
abbrev pub name_of : List ℕ → Name → List ℕ
name_of text name = slice_range text name.start name.end

abbrev mutual
  -- the term of a tree
  pub term_of : List ℕ → Tree → Term
  term_of text True = terms.True
  term_of text False = terms.False
  term_of text (Number value) = terms.Number value
  term_of text (Apply' name shape args) = terms.Apply (name_of text name) (row_of text args)
  term_of text (One' op p a) = terms.One op (term_of text a)
  term_of text (Two' op p a q b) = terms.Two op (term_of text a) (term_of text b)

  pub row_of : {m : _} → List ℕ → Row_of-Tree m → Row
  row_of text end_of-Tree = terms.none
  row_of text (more_of-Tree first rest) = terms.more (term_of text first) (row_of text rest)

abbrev mutual
  -- each name of a tree stands in the text
  pub IsPlacedTree : List ℕ → Tree → Type 0
  IsPlacedTree text True = Unit {0}
  IsPlacedTree text False = Unit {0}
  IsPlacedTree text (Number value) = Unit {0}
  IsPlacedTree text (Apply' name shape args) = IsPlaced text name × IsPlacedRow text args
  IsPlacedTree text (One' op p a) = IsPlacedTree text a
  IsPlacedTree text (Two' op p a q b) = IsPlacedTree text a × IsPlacedTree text b

  pub IsPlacedRow : {m : _} → List ℕ → Row_of-Tree m → Type 0
  IsPlacedRow text end_of-Tree = Unit {0}
  IsPlacedRow text (more_of-Tree first rest) = IsPlacedTree text first × IsPlacedRow text rest

-- a name, as the place where it stands
abbrev pub KeepsName : List ℕ → Name → List ℕ → Type 0
KeepsName text kept name = IsPlaced text kept × (name_of text kept ≡ name)

-- a term, with its names as places
abbrev pub KeepsTree : List ℕ → Tree → Term → Type 0
KeepsTree text kept t = IsPlacedTree text kept × (term_of text kept ≡ t)

-- each item of the one list keeps the item of the other at its place, and there are as many
abbrev pub KeepsEach : {A B : Type 0} → (A → B → Type 0) → List A → List B → Type 0
KeepsEach keeps [] [] = Unit {0}
KeepsEach keeps (k ∷ kept) (x ∷ items) = keeps k x × KeepsEach keeps kept items
KeepsEach keeps _ _ = ⊥

abbrev pub KeepsBound : List ℕ → Binder → Bound → Type 0
KeepsBound text kept bound = KeepsName text kept.name bound.name × KeepsName text kept.sort bound.sort

abbrev pub KeepsAnnotation : List ℕ → Annot → Annotation → Type 0
KeepsAnnotation text annots.Left Left = Unit {0}
KeepsAnnotation text annots.Right Right = Unit {0}
KeepsAnnotation text annots.Hyps Hyps = Unit {0}
KeepsAnnotation text annots.Concl Concl = Unit {0}
KeepsAnnotation text (annots.Pattern kept) (Pattern patterns) = KeepsEach (KeepsTree text) kept patterns
KeepsAnnotation text _ _ = ⊥

-- the code keeps this declaration
abbrev pub KeepsDecl : List ℕ → Decl → Declaration → Type 0
KeepsDecl text (decls.Sort name) (Sort n) = KeepsName text name n
KeepsDecl text (decls.Fun name args result) (Fun n sorts r) =
    KeepsName text name n × KeepsEach (KeepsName text) args sorts × KeepsName text result r
KeepsDecl text (decls.Theorem name binders annots body) (Theorem n bounds annotations b) =
    KeepsName text name n × KeepsEach (KeepsBound text) binders bounds
    × KeepsEach (KeepsAnnotation text) annots annotations × KeepsTree text body b
KeepsDecl text (decls.Goal name binders hyps show) (Goal n bounds hs s) =
    KeepsName text name n × KeepsEach (KeepsBound text) binders bounds
    × KeepsEach (KeepsTree text) hyps hs × KeepsTree text show s
KeepsDecl text (decls.Limit name value) (Limit n v) = KeepsName text name n × (value ≡ v)
KeepsDecl text _ _ = ⊥

-- the code keeps these declarations
abbrev pub KeepsDecls : List ℕ → List Decl → List Declaration → Type 0
KeepsDecls text = KeepsEach (KeepsDecl text)
