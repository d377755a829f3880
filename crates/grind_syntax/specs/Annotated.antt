-- What the code keeps of annotations.
use Rattle.std.specs.Prelude.{◌≡◌, ℕ, ◌<◌, List, [], ◌∷◌, ◌++◌, Option, Some, None, map, All}
use Rattle.std.specs.Option.{option_map}
use Rattle.grind_grammar.specs.declared.syntax.Annot.{Annot}
use Rattle.grind_grammar.specs.declared.syntax.Annot.TheVariants as kinds
use Rattle.grind_grammar.specs.Terms.{Term, Annotation, Left, Right, Hyps, Concl, Pattern}
use Rattle.grind_grammar.specs.Lexemes.{Lexeme}
use Rattle.grind_grammar.specs.Keeps.{term_of, IsPlacedTree}
use Rattle.grind_grammar.specs.Reading.{Reader, read_map, all_of, annots, annots_up_to}

-- the annotation that is kept
abbrev pub annotation_of : List ℕ → Annot → Annotation
annotation_of text kinds.Left = Left
annotation_of text kinds.Right = Right
annotation_of text kinds.Hyps = Hyps
annotation_of text kinds.Concl = Concl
annotation_of text (kinds.Pattern trees) = Pattern (map (term_of text) trees)

-- its names stand in the text
abbrev pub IsPlacedAnnotation : List ℕ → Annot → Type 0
IsPlacedAnnotation text kinds.Left = Unit {0}
IsPlacedAnnotation text kinds.Right = Unit {0}
IsPlacedAnnotation text kinds.Hyps = Unit {0}
IsPlacedAnnotation text kinds.Concl = Unit {0}
IsPlacedAnnotation text (kinds.Pattern trees) = All (IsPlacedTree text) trees

-- the same, where the annotation was kept
abbrev pub annotation_given : List ℕ → Option Annot → Option Annotation
annotation_given text None = None
annotation_given text (Some annot) = Some (annotation_of text annot)

abbrev pub IsPlacedAnnot : List ℕ → Option Annot → Type 0
IsPlacedAnnot text None = Unit {0}
IsPlacedAnnot text (Some annot) = IsPlacedAnnotation text annot

-- the same of all annotations
abbrev pub annotations_given : List ℕ → Option (List Annot) → Option (List Annotation)
annotations_given text None = None
annotations_given text (Some annots) = Some (map (annotation_of text) annots)

abbrev pub ArePlacedAnnots : List ℕ → Option (List Annot) → Type 0
ArePlacedAnnots text None = Unit {0}
ArePlacedAnnots text (Some annots) = All (IsPlacedAnnotation text) annots

-- one more after those that are there
abbrev pub with_annotation : Option (List Annotation) → Option Annotation → Option (List Annotation)
with_annotation None x = None
with_annotation (Some xs) None = None
with_annotation (Some xs) (Some x) = Some (xs ++ x ∷ [])

-- the patterns of these terms, where each was built
abbrev pub patterns_of : List (Option Term) → Option Annotation
patterns_of ts = option_map Pattern (all_of ts)

-- the annotations that are read before the rest, and what the rest gives, make the whole
pub record AnnotsSoFar (item : Reader (Option Term)) (all : List Lexeme) (done : List (Option Annotation)) (rest : List Lexeme) (count : ℕ) : Type 0 where
  pub fuel : ℕ
  pub enough : count < fuel
  pub same : annots item all ≡ read_map (λ xs. done ++ xs) (annots_up_to item fuel rest)
