-- The theorem of a body and its lists of patterns.
use Rattle.std.specs.Prelude.{◌≡◌, ◌↔◌, ℕ, ◌<◌, List, [], ◌∷◌, length, All, Some, None, refl}
use Rattle.std.proofs.Common.{arith, sym, subst}
use Rattle.std.proofs.lemmas.List.{length-map}
use Rattle.grind_term_graph.specs.Terms.{prop}
use Rattle.grind_schemes.specs.declared.scheme.Scheme.{Scheme}
use Rattle.grind_schemes.specs.Schemes.{IsScheme, scheme_sort, IsHeadedByFunction}
use Rattle.grind_schemes.specs.Theorems.{TheoremData, HoldsEach, IsTheorem, theorem_data}
use Rattle.grind_grammar.specs.declared.syntax.Annot.{Annot}
use Rattle.grind_grammar.specs.Terms.{Term, Annotation}
use Rattle.grind_resolution.specs.Scopes.{Given}
use Rattle.grind_resolution.specs.Resolved.{StandsFor}
use Rattle.grind_resolution.specs.Same.{AreSame}
use Rattle.grind_annotations.specs.Giving.{GivePatterns}
use Rattle.grind_annotations.specs.Written.{annotation_of, annotations_of}
use Rattle.grind_annotations.specs.Annotating.{ListsOrNone}
use Rattle.grind_theory.specs.Theorems.{IsAnnotated, IsSmallTheorem, HasPatterns, IsTheoremIn}

-- there are as many annotations as the code keeps
pub annotated-kept : (text vars : List ℕ) (annots : List Annot) → (0 < length vars) ↔ (0 < length annots) → IsAnnotated vars (annotations_of text annots)
annotated-kept text vars annots h =
    let count = length-map annots (annotation_of text) in (λ l. subst (λ n. 0 < n) (sym count) (h.0 l), λ l. h.1 (subst (λ n. 0 < n) count l))

pub kept-annotated : (text vars : List ℕ) (annots : List Annot) → IsAnnotated vars (annotations_of text annots) → (0 < length vars) ↔ (0 < length annots)
kept-annotated text vars annots h =
    let count = length-map annots (annotation_of text) in (λ l. subst (λ n. 0 < n) count (h.0 l), λ l. h.1 (subst (λ n. 0 < n) (sym count) l))

module _ (gives : List ℕ → Given → Type 0) (vars : List ℕ) (scheme : Scheme) where
  -- there is a list for each annotation
  pub given-count : (annotations : List Annotation) (lists : List (List Scheme)) → GivePatterns gives vars scheme annotations lists → length lists ≡ length annotations
  given-count [] [] h = refl
  given-count [] (patterns ∷ lists) h = absurd h
  given-count (annotation ∷ annotations) [] h = absurd h
  given-count (annotation ∷ annotations) (patterns ∷ lists) h = let e = given-count annotations lists h.1 in omega arith

  -- what a theorem keeps
  pub theorem-kept : (name : List ℕ) (annotations : List Annotation) (lists : List (List Scheme)) → IsScheme vars scheme → scheme_sort vars scheme ≡ Some prop → IsAnnotated vars annotations
      → GivePatterns gives vars scheme annotations lists → All (All (IsScheme vars)) lists → All (All IsHeadedByFunction) lists → All (HoldsEach vars) lists
      → IsTheorem (theorem_data name vars scheme lists)
  theorem-kept name annotations lists formed sort wanted given schemes headed held = record {
    body = formed;
    formula = sort;
    patterns = schemes;
    functions = headed;
    variables = held;
    wanted =
        let count = given-count annotations lists given in
        (λ l. subst (λ n. 0 < n) (sym count) (wanted.0 l), λ l. wanted.1 (subst (λ n. 0 < n) count l));
  }

  -- no lists: no scheme of the body has any
  pub no_lists : (one : (t : Term) (a b : Scheme) → StandsFor gives t a → StandsFor gives t b → AreSame a b) (annotations : List Annotation) (body : Term) → StandsFor gives body scheme
      → ListsOrNone gives vars scheme annotations None → (other : Scheme) (lists : List (List Scheme)) → ¬ HasPatterns gives vars annotations body other lists
  no_lists one annotations body stands none other lists h = none other (one body other scheme h.stands stands) lists h.given

-- the theorem of these parts
pub theorem-is : (gives : List ℕ → Given → Type 0) (name vars sorts : List ℕ) (annotations : List Annotation) (body : Term) (scheme : Scheme) (lists : List (List Scheme)) (bytes : List ℕ) (theorem : TheoremData)
    → sorts ≡ vars → bytes ≡ name → theorem ≡ theorem_data bytes vars scheme lists → HasPatterns gives sorts annotations body scheme lists → IsSmallTheorem sorts annotations body
    → IsTheoremIn gives name vars annotations body theorem
theorem-is gives name vars sorts annotations body scheme lists bytes theorem e b is found small =
    subst (IsTheoremIn gives name vars annotations body) (sym is) (record {
      name_is = b;
      variables_are = refl;
      found = subst (λ v. HasPatterns gives v annotations body scheme lists) e found;
      small = subst (λ v. IsSmallTheorem v annotations body) e small;
    })
