-- What the code keeps of declarations.
use Rattle.std.specs.Prelude.{ℕ, List, Option, Some, None, map, All}
use Rattle.grind_grammar.specs.declared.syntax.Decl.{Decl}
use Rattle.grind_grammar.specs.declared.syntax.Decl.TheVariants as decls
use Rattle.grind_grammar.specs.Terms.{Declaration, Sort, Fun, Theorem, Goal, Limit}
use Rattle.grind_grammar.specs.Keeps.{name_of, term_of, IsPlaced, IsPlacedTree}
use Rattle.grind_syntax.specs.Places.{bound_of, IsPlacedBound}
use Rattle.grind_syntax.specs.Annotated.{annotation_of, IsPlacedAnnotation}

-- the declaration that is kept
abbrev pub declaration_kept : List ℕ → Decl → Declaration
declaration_kept text (decls.Sort name) = Sort (name_of text name)
declaration_kept text (decls.Fun name args result) = Fun (name_of text name) (map (name_of text) args) (name_of text result)
declaration_kept text (decls.Theorem name binders annots body) =
    Theorem (name_of text name) (map (bound_of text) binders) (map (annotation_of text) annots) (term_of text body)
declaration_kept text (decls.Goal name binders hyps show) =
    Goal (name_of text name) (map (bound_of text) binders) (map (term_of text) hyps) (term_of text show)
declaration_kept text (decls.Limit name value) = Limit (name_of text name) value

-- its names stand in the text
abbrev pub IsPlacedDeclaration : List ℕ → Decl → Type 0
IsPlacedDeclaration text (decls.Sort name) = IsPlaced text name
IsPlacedDeclaration text (decls.Fun name args result) = IsPlaced text name × All (IsPlaced text) args × IsPlaced text result
IsPlacedDeclaration text (decls.Theorem name binders annots body) =
    IsPlaced text name × All (IsPlacedBound text) binders × All (IsPlacedAnnotation text) annots × IsPlacedTree text body
IsPlacedDeclaration text (decls.Goal name binders hyps show) =
    IsPlaced text name × All (IsPlacedBound text) binders × All (IsPlacedTree text) hyps × IsPlacedTree text show
IsPlacedDeclaration text (decls.Limit name value) = IsPlaced text name

-- the same, where the declaration was kept
abbrev pub declaration_given : List ℕ → Option Decl → Option Declaration
declaration_given text None = None
declaration_given text (Some d) = Some (declaration_kept text d)

abbrev pub IsPlacedGiven : List ℕ → Option Decl → Type 0
IsPlacedGiven text None = Unit {0}
IsPlacedGiven text (Some d) = IsPlacedDeclaration text d
