use Rattle.std.proofs.Common.{sym, ap, subst, ◌∙◌, ◌≡◌, refl}
use Rattle.std.specs.List.{AllByRecursion}
use Rattle.grind_grammar.specs.Terms.{Annotation, Pattern}
use Rattle.grind_grammar.specs.Keeps.{term_of}
use Rattle.grind_resolution.specs.Contexts.{gives_in}
use Rattle.grind_resolution.specs.Sorting.{IsSorted}
use Rattle.grind_patterns.specs.declared.kind.Kind.TheVariants.{Written}
use Rattle.grind_annotations.specs.Giving.{Annotates}
use Rattle.grind_annotations.specs.Written.{written, terms_of, annotation_of}
use Rattle.grind_annotations.proofs.ItemLemmas.{map-All}
use Rattle.grind_annotations.proofs.patterns.kind_of.Goals as goal

pub written_schemes-requires-clause-sorted : goal.written_schemes-requires-clause-sorted
written_schemes-requires-clause-sorted c =
    let text = c.args.context.now.text.now in
    let gives = gives_in c.args.context.now in
    let made : annotation_of text c.args.annot.now ≡ Pattern (terms_of text c.as_slice-terms.result.now) =
    ap (annotation_of text) c.in-Pattern.is ∙ ap (λ trees. Pattern (terms_of text trees)) (sym c.as_slice-terms.ensures.value) in
    map-All (term_of text) (IsSorted gives) c.as_slice-terms.result.now
    (subst (λ (a : Annotation). AllByRecursion (IsSorted gives) (written a)) made c.requires.sorted)

pub returns-in_ok-schemes-in-Pattern : goal.returns-in_ok-schemes-in-Pattern
returns-in_ok-schemes-in-Pattern c =
    let text = c.args.context.now.text.now in
    let gives = gives_in c.args.context.now in
    let made : annotation_of text c.args.annot.now ≡ Pattern (terms_of text c.as_slice-terms.result.now) =
    ap (annotation_of text) c.in-Pattern.is ∙ ap (λ trees. Pattern (terms_of text trees)) (sym c.as_slice-terms.ensures.value) in
    subst (λ (a : Annotation). Annotates gives a (Written c.in_ok-schemes-in-Pattern.schemes)) (sym made) (c.in_ok-schemes-in-Pattern.schemes, c.in_ok-schemes-in-Pattern.ensures, refl)
