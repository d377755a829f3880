-- The declarations that the code keeps, as they stand in the text.
use Rattle.std.specs.Prelude.{ℕ, List, map}
use Rattle.std.specs.List.{AllByRecursion}
use Rattle.grind_schemes.specs.Labels.{IsLabel}
use Rattle.grind_grammar.specs.declared.syntax.Name.{Name}
use Rattle.grind_grammar.specs.declared.syntax.Binder.{Binder}
use Rattle.grind_grammar.specs.declared.syntax.Decl.{Decl}
use Rattle.grind_grammar.specs.declared.syntax.Decl.TheVariants as decls
use Rattle.grind_grammar.specs.Terms.{Bound, Declaration, Sort, Fun, Theorem, Goal, Limit}
use Rattle.grind_grammar.specs.Keeps.{IsPlaced, name_of, IsPlacedTree, term_of, KeepsDecls}
use Rattle.grind_annotations.specs.Written.{terms_of, annotations_of, IsPlacedAnnot}
use Rattle.grind_theory.specs.States.{bound_names}

-- the names that a declaration declares and that reports print are labels
abbrev pub HasLabels : Declaration → Type 0
HasLabels (Sort name) = IsLabel name
HasLabels (Fun name sorts result) = IsLabel name
HasLabels (Theorem name bounds annotations body) = IsLabel name
HasLabels (Goal name bounds hyps show) = IsLabel name × AllByRecursion IsLabel (bound_names bounds)
HasLabels (Limit name value) = Unit {0}

-- the code keeps some declarations, whose names are labels
abbrev pub AreKept : List ℕ → List Decl → Type 0
AreKept text kept = (ds : List Declaration) × KeepsDecls text kept ds × AllByRecursion HasLabels ds

-- names of the text
abbrev pub names_of : List ℕ → List Name → List (List ℕ)
names_of text names = map (name_of text) names

-- binders
abbrev pub bound_of : List ℕ → Binder → Bound
bound_of text binder = record { name = name_of text binder.name; sort = name_of text binder.sort }

abbrev pub bounds_of : List ℕ → List Binder → List Bound
bounds_of text binders = map (bound_of text) binders

abbrev pub IsPlacedBinder : List ℕ → Binder → Type 0
IsPlacedBinder text binder = IsPlaced text binder.name × IsPlaced text binder.sort

-- a declaration
abbrev pub declaration_of : List ℕ → Decl → Declaration
declaration_of text (decls.Sort name) = Sort (name_of text name)
declaration_of text (decls.Fun name args result) = Fun (name_of text name) (names_of text args) (name_of text result)
declaration_of text (decls.Theorem name binders annots body) =
    Theorem (name_of text name) (bounds_of text binders) (annotations_of text annots) (term_of text body)
declaration_of text (decls.Goal name binders hyps show) =
    Goal (name_of text name) (bounds_of text binders) (terms_of text hyps) (term_of text show)
declaration_of text (decls.Limit name value) = Limit (name_of text name) value

-- each name of it stands in the text
abbrev pub IsPlacedDecl : List ℕ → Decl → Type 0
IsPlacedDecl text (decls.Sort name) = IsPlaced text name
IsPlacedDecl text (decls.Fun name args result) =
    IsPlaced text name × AllByRecursion (IsPlaced text) args × IsPlaced text result
IsPlacedDecl text (decls.Theorem name binders annots body) =
    IsPlaced text name × AllByRecursion (IsPlacedBinder text) binders × AllByRecursion (IsPlacedAnnot text) annots
    × IsPlacedTree text body
IsPlacedDecl text (decls.Goal name binders hyps show) =
    IsPlaced text name × AllByRecursion (IsPlacedBinder text) binders × AllByRecursion (IsPlacedTree text) hyps
    × IsPlacedTree text show
IsPlacedDecl text (decls.Limit name value) = IsPlaced text name

-- it is that of a sort, a function or a limit, and so has no heading of a name and binders
abbrev pub HasNoHeading : Decl → Type 0
HasNoHeading (decls.Sort name) = Unit {0}
HasNoHeading (decls.Fun name args result) = Unit {0}
HasNoHeading (decls.Theorem name binders annots body) = ⊥
HasNoHeading (decls.Goal name binders hyps show) = ⊥
HasNoHeading (decls.Limit name value) = Unit {0}
