use Rattle.std.proofs.Common.{◌≡◌, sym, subst, ◌∙◌, true≢false, All, IfSome, Some, Option, List}
use Rattle.grind_term_graph.specs.Terms.{prop}
use Rattle.grind_schemes.specs.declared.scheme.Scheme.{Scheme}
use Rattle.grind_schemes.specs.Schemes.{scheme_sort, IsScheme, IsHeadedByFunction}
use Rattle.grind_schemes.specs.Theorems.{HoldsEach, IsTheorem, theorem_data}
use Rattle.grind_grammar.specs.Keeps.{term_of, name_of}
use Rattle.grind_resolution.specs.Scopes.{Gives}
use Rattle.grind_resolution.specs.Contexts.{gives_in}
use Rattle.grind_annotations.specs.Written.{annotations_of}
use Rattle.grind_annotations.specs.Annotating.{ListsOrNone}
use Rattle.grind_theory.specs.Theorems.{IsAnnotated, HasPatterns, FaultOfTheorem}
use Rattle.grind_theory.proofs.FunTaking.{same_Err, same_Faulty}
use Rattle.grind_theory.proofs.TheoremMaking.{annotated-kept, kept-annotated, theorem-kept, no_lists, theorem-is}
use Rattle.grind_theory.proofs.theorems.theorem_in.Goals as goal

pub returns-then-not-is_annotated-clause-faulty : goal.returns-then-not-is_annotated-clause-faulty
returns-then-not-is_annotated-clause-faulty c = λ fault e.
    let text = c.args.context.now.text.now in
    let gives = gives_in c.args.context.now in
    let annotations = annotations_of text c.args.annots.now in
    let body = term_of text c.args.body.now in
    subst (FaultOfTheorem gives c.args.vars annotations body) (same_Faulty _ _ (same_Err _ _ e))
    (λ scheme lists h.
    let wanted = subst (λ v. IsAnnotated v annotations) (sym c.as_slice-sorts.ensures.value) h.wanted in
    true≢false (sym (c.is_annotated.ensures.1 (kept-annotated text c.as_slice-sorts.result.now c.args.annots.now wanted)) ∙ c.if-not-is_annotated.true))

pub lists_of_annots-requires-clause-formed : goal.lists_of_annots-requires-clause-formed
lists_of_annots-requires-clause-formed c =
    let s = c.args.context.now.signature.now in
    let scope = c.args.context.now.scope.now in
    let single = c.one_meaning.ensures s scope c.args.context.now.keeps c.args.context.now.distinct c.args.context.now.apart in
    let formed = c.schemes_are_formed.ensures s scope c.args.context.now.keeps single (term_of c.args.context.now.text.now c.args.body.now) prop c.in-Ok.scheme
    c.requires.formula c.in-Ok.ensures in
    subst (λ v. IsScheme v c.in-Ok.scheme) (c.requires.variables ∙ sym c.as_slice-sorts.ensures.value) formed.0

pub returns-in_default-clause-faulty : goal.returns-in_default-clause-faulty
returns-in_default-clause-faulty c = λ fault e.
    let text = c.args.context.now.text.now in
    let s = c.args.context.now.signature.now in
    let scope = c.args.context.now.scope.now in
    let single = c.one_meaning.ensures s scope c.args.context.now.keeps c.args.context.now.distinct c.args.context.now.apart in
    let gives = Gives s scope in
    let annotations = annotations_of text c.args.annots.now in
    let body = term_of text c.args.body.now in
    let none = subst (ListsOrNone gives c.as_slice-sorts.result.now c.in-Ok.scheme annotations) c.in_default.is c.in-Ok-lists_of_annots.ensures.found in
    subst (λ v. FaultOfTheorem gives v annotations body fault) c.as_slice-sorts.ensures.value
    (subst (FaultOfTheorem gives c.as_slice-sorts.result.now annotations body) (same_Faulty _ _ (same_Err _ _ e))
    (no_lists gives c.as_slice-sorts.result.now c.in-Ok.scheme (c.one_scheme.ensures s scope single) annotations body c.in-Ok.ensures none))

pub returns-then-not-is_small-clause-faulty : goal.returns-then-not-is_small-clause-faulty
returns-then-not-is_small-clause-faulty c = λ fault e.
    let text = c.args.context.now.text.now in
    let gives = gives_in c.args.context.now in
    let annotations = annotations_of text c.args.annots.now in
    let body = term_of text c.args.body.now in
    let given = subst (ListsOrNone gives c.as_slice-sorts.result.now c.in-Ok.scheme annotations) c.in-Some.is c.in-Ok-lists_of_annots.ensures.found in
    subst (λ v. FaultOfTheorem gives v annotations body fault) c.as_slice-sorts.ensures.value
    (subst (FaultOfTheorem gives c.as_slice-sorts.result.now annotations body) (same_Faulty _ _ (same_Err _ _ e)) (
      (
        c.in-Ok.scheme,
        c.in-Some.lists,
        record {
          stands = c.in-Ok.ensures;
          given = given;
          wanted = annotated-kept text c.as_slice-sorts.result.now c.args.annots.now (c.is_annotated.ensures.0 c.if-not-is_annotated.false);
        },
      ),
      λ small. true≢false (sym ((c.is_small.ensures text).1 small) ∙ c.if-not-is_small.true),
    ))

pub name_theorem-requires : goal.name_theorem-requires
name_theorem-requires c =
    let text = c.args.context.now.text.now in
    let s = c.args.context.now.signature.now in
    let scope = c.args.context.now.scope.now in
    let sorts = c.as_slice-sorts.result.now in
    let single = c.one_meaning.ensures s scope c.args.context.now.keeps c.args.context.now.distinct c.args.context.now.apart in
    let formed = c.schemes_are_formed.ensures s scope c.args.context.now.keeps single (term_of text c.args.body.now) prop c.in-Ok.scheme
    c.requires.formula c.in-Ok.ensures in
    let annotations = annotations_of text c.args.annots.now in
    let given = subst (ListsOrNone (Gives s scope) sorts c.in-Ok.scheme annotations) c.in-Some.is c.in-Ok-lists_of_annots.ensures.found in
    let schemes = subst (λ (found : Option (List (List Scheme))). IfSome found (λ lists. All (All (IsScheme sorts)) lists)) c.in-Some.is c.in-Ok-lists_of_annots.ensures.formed in
    let headed = subst (λ (found : Option (List (List Scheme))). IfSome found (λ lists. All (All IsHeadedByFunction) lists)) c.in-Some.is c.in-Ok-lists_of_annots.ensures.headed in
    let held = subst (λ (found : Option (List (List Scheme))). IfSome found (λ lists. All (HoldsEach sorts) lists)) c.in-Some.is c.in-Ok-lists_of_annots.ensures.held in
    let same = c.requires.variables ∙ sym c.as_slice-sorts.ensures.value in
    subst (λ v. IsTheorem (theorem_data c.bytes_of.result.now v c.in-Ok.scheme c.in-Some.lists)) c.as_slice-sorts.ensures.value
    (theorem-kept (Gives s scope) sorts c.in-Ok.scheme c.bytes_of.result.now annotations c.in-Some.lists (subst (λ v. IsScheme v c.in-Ok.scheme) same formed.0)
    (subst (λ v. scheme_sort v c.in-Ok.scheme ≡ Some prop) same formed.1)
    (annotated-kept text sorts c.args.annots.now (c.is_annotated.ensures.0 c.if-not-is_annotated.false)) given schemes headed held)

pub returns-in-Ok-name_theorem-clause-ok : goal.returns-in-Ok-name_theorem-clause-ok
returns-in-Ok-name_theorem-clause-ok c =
    let text = c.args.context.now.text.now in
    let gives = gives_in c.args.context.now in
    let sorts = c.as_slice-sorts.result.now in
    let annotations = annotations_of text c.args.annots.now in
    let body = term_of text c.args.body.now in
    let given = subst (ListsOrNone gives sorts c.in-Ok.scheme annotations) c.in-Some.is c.in-Ok-lists_of_annots.ensures.found in
    let found : HasPatterns gives sorts annotations body c.in-Ok.scheme c.in-Some.lists = record {
      stands = c.in-Ok.ensures;
      given = given;
      wanted = annotated-kept text sorts c.args.annots.now (c.is_annotated.ensures.0 c.if-not-is_annotated.false);
    } in
    let small = (c.is_small.ensures text).0 c.if-not-is_small.false in
    theorem-is gives (name_of text c.args.name) c.args.vars sorts annotations body c.in-Ok.scheme c.in-Some.lists c.bytes_of.result.now c.in-Ok-name_theorem.theorem
    c.as_slice-sorts.ensures.value c.bytes_of.ensures c.in-Ok-name_theorem.ensures found small
