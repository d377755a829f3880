-- The annotations that the code keeps, as they stand in the text, and the terms that they write.
use Rattle.std.specs.Prelude.{ℕ, ◌+◌, List, [], ◌∷◌, map}
use Rattle.std.specs.List.{AllByRecursion}
use Rattle.grind_grammar.specs.declared.syntax.Annot.{Annot}
use Rattle.grind_grammar.specs.declared.syntax.Annot.TheVariants as annots
use Rattle.grind_grammar.specs.declared.syntax.Tree.{Tree}
use Rattle.grind_grammar.specs.Terms.{Term, Annotation, Left, Right, Hyps, Concl, Pattern}
use Rattle.grind_grammar.specs.Keeps.{IsPlacedTree, term_of}
use Rattle.grind_resolution.specs.Sizes.{size}

-- terms of the text
abbrev pub terms_of : List ℕ → List Tree → List Term
terms_of text trees = map (term_of text) trees

-- annotations
abbrev pub annotation_of : List ℕ → Annot → Annotation
annotation_of text annots.Left = Left
annotation_of text annots.Right = Right
annotation_of text annots.Hyps = Hyps
annotation_of text annots.Concl = Concl
annotation_of text (annots.Pattern trees) = Pattern (terms_of text trees)

abbrev pub annotations_of : List ℕ → List Annot → List Annotation
annotations_of text annots = map (annotation_of text) annots

abbrev pub IsPlacedAnnot : List ℕ → Annot → Type 0
IsPlacedAnnot text annots.Left = Unit {0}
IsPlacedAnnot text annots.Right = Unit {0}
IsPlacedAnnot text annots.Hyps = Unit {0}
IsPlacedAnnot text annots.Concl = Unit {0}
IsPlacedAnnot text (annots.Pattern trees) = AllByRecursion (IsPlacedTree text) trees

-- the terms that an annotation writes
abbrev pub written : Annotation → List Term
written Left = []
written Right = []
written Hyps = []
written Concl = []
written (Pattern terms) = terms

-- this holds of each term that the annotations write
abbrev pub AllWritten : (Term → Type 0) → List Annotation → Type 0
AllWritten P annotations = AllByRecursion (λ annotation. AllByRecursion P (written annotation)) annotations

-- the nodes of the terms as they are written
abbrev pub sizes : List Term → ℕ
sizes [] = 0
sizes (t ∷ terms) = size t + sizes terms

abbrev pub written_sizes : List Annotation → ℕ
written_sizes [] = 0
written_sizes (annotation ∷ annotations) = sizes (written annotation) + written_sizes annotations
