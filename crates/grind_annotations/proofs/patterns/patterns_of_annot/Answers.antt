use Rattle.grind_resolution.specs.Scopes.{Gives}
use Rattle.grind_annotations.specs.Written.{annotation_of}
use Rattle.grind_annotations.proofs.AnnotationLaws.{gives_or_none}
use Rattle.grind_annotations.proofs.patterns.patterns_of_annot.Goals as goal

pub returns : goal.returns
returns c =
    let s = c.args.context.now.signature.now in
    let scope = c.args.context.now.scope.now in
    let single = c.one_meaning.ensures s scope c.args.context.now.keeps c.args.context.now.distinct c.args.context.now.apart in
    gives_or_none (Gives s scope) (c.one_scheme.ensures s scope single) c.args.vars.now c.args.body.now (annotation_of c.args.context.now.text.now c.args.annot.now)
    c.in_ok-kind.kind c.in_ok-kind.ensures c.in_ok-found.found c.in_ok-found.ensures.patterns
