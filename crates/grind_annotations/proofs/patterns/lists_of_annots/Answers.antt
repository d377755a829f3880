use Rattle.std.proofs.Common.{sym, ap, subst, ◌≡◌, ◌∷◌, ℕ, List, All}
use Rattle.std.proofs.lemmas.List.Elements.{All-rest}
use Rattle.grind_schemes.specs.Schemes.{IsScheme}
use Rattle.grind_resolution.specs.Scopes.{Gives, variable_sorts}
use Rattle.grind_resolution.specs.Contexts.{gives_in}
use Rattle.grind_resolution.specs.Sorting.{IsSorted}
use Rattle.grind_annotations.specs.Giving.{GivePatterns}
use Rattle.grind_annotations.specs.Written.{AllWritten, annotation_of, annotations_of, IsPlacedAnnot}
use Rattle.grind_annotations.specs.Annotating.{GivesOrNone}
use Rattle.grind_annotations.proofs.ItemLemmas.{no_items}
use Rattle.grind_annotations.proofs.AnnotationLaws.{annotating-next, annotating-none, annotating-end, lists-formed, lists-headed, lists-held}
use Rattle.grind_annotations.proofs.patterns.lists_of_annots.Goals as goal

pub loop-annot-preserved : goal.loop-annot-preserved
loop-annot-preserved c =
    let text = c.args.context.now.text.now in
    let gives = gives_in c.args.context.now in
    let p : c.loop-annot.rest.now ≡ c.in-Some.annot.now ∷ c.in-Some.later.now = cc ((c.in-Some.ensures.cases).0) in
    let sorted = subst (AllWritten (IsSorted gives)) (ap (annotations_of text) p) c.loop-annot.invariant.sorted in
    record {
      placed = All-rest (IsPlacedAnnot text) c.in-Some.annot.now c.in-Some.later.now c.loop-annot.rest.now p c.loop-annot.invariant.placed;
      sorted = sorted.1;
      annotating = annotating-next gives c.args.vars.now c.args.body.now (annotations_of text c.args.annots.now) (annotations_of text c.loop-annot.rest.now)
          (annotations_of text c.in-Some.later.now) (annotation_of text c.in-Some.annot.now) c.loop-annot.lists (ap (annotations_of text) p) c.loop-annot.invariant.annotating
          c.push.new.self c.in-Some-found.patterns
          (subst (GivesOrNone gives c.args.vars.now c.args.body.now (annotation_of text c.in-Some.annot.now)) c.in-Some-found.is c.in_ok-found.ensures) c.in_ok-push.ensures.ok;
    }

pub returns-in_default-found-clause-found : goal.returns-in_default-found-clause-found
returns-in_default-found-clause-found c =
    let text = c.args.context.now.text.now in
    let gives = gives_in c.args.context.now in
    let p : c.loop-annot.rest.now ≡ c.in-Some.annot.now ∷ c.in-Some.later.now = cc ((c.in-Some.ensures.cases).0) in
    annotating-none gives c.args.vars.now c.args.body.now (annotations_of text c.args.annots.now) (annotations_of text c.loop-annot.rest.now)
    (annotations_of text c.in-Some.later.now) (annotation_of text c.in-Some.annot.now) c.loop-annot.lists (ap (annotations_of text) p) c.loop-annot.invariant.annotating
    (subst (GivesOrNone gives c.args.vars.now c.args.body.now (annotation_of text c.in-Some.annot.now)) c.in_default-found.is c.in_ok-found.ensures)

pub returns-clause-found : goal.returns-clause-found
returns-clause-found c =
    let text = c.args.context.now.text.now in
    annotating-end (gives_in c.args.context.now) c.args.vars.now c.args.body.now (annotations_of text c.args.annots.now) (annotations_of text c.loop-annot.rest.now)
    c.loop-annot.lists (ap (annotations_of text) (no_items c.loop-annot.rest.now c.in_default.ensures.cases)) c.loop-annot.invariant.annotating

pub returns-clause-formed : goal.returns-clause-formed
returns-clause-formed c =
    let text = c.args.context.now.text.now in
    let s = c.args.context.now.signature.now in
    let scope = c.args.context.now.scope.now in
    let gives = Gives s scope in
    let body = c.args.body.now in
    let all = annotations_of text c.args.annots.now in
    let lists = c.loop-annot.lists in
    let back = sym c.requires.variables in
    let single = c.one_meaning.ensures s scope c.args.context.now.keeps c.args.context.now.distinct c.args.context.now.apart in
    let found = annotating-end gives c.args.vars.now body all (annotations_of text c.loop-annot.rest.now) lists
    (ap (annotations_of text) (no_items c.loop-annot.rest.now c.in_default.ensures.cases)) c.loop-annot.invariant.annotating in
    subst (λ (v : List ℕ). All (All (IsScheme v)) lists) c.requires.variables
    (lists-formed gives (variable_sorts scope) (c.schemes_are_formed.ensures s scope c.args.context.now.keeps single) body
    (subst (λ (v : List ℕ). IsScheme v body) back c.requires.formed) all lists c.requires.sorted
    (subst (λ (v : List ℕ). GivePatterns gives v body all lists) back found))

pub returns-clause-headed : goal.returns-clause-headed
returns-clause-headed c =
    let text = c.args.context.now.text.now in
    let gives = gives_in c.args.context.now in
    let all = annotations_of text c.args.annots.now in
    let found = annotating-end gives c.args.vars.now c.args.body.now all (annotations_of text c.loop-annot.rest.now) c.loop-annot.lists
    (ap (annotations_of text) (no_items c.loop-annot.rest.now c.in_default.ensures.cases)) c.loop-annot.invariant.annotating in
    lists-headed gives c.args.vars.now c.args.body.now all c.loop-annot.lists found

pub returns-clause-held : goal.returns-clause-held
returns-clause-held c =
    let text = c.args.context.now.text.now in
    let gives = gives_in c.args.context.now in
    let all = annotations_of text c.args.annots.now in
    let found = annotating-end gives c.args.vars.now c.args.body.now all (annotations_of text c.loop-annot.rest.now) c.loop-annot.lists
    (ap (annotations_of text) (no_items c.loop-annot.rest.now c.in_default.ensures.cases)) c.loop-annot.invariant.annotating in
    lists-held gives c.args.vars.now c.args.body.now all c.loop-annot.lists found
