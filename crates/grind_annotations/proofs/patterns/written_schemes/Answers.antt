use Rattle.std.proofs.Common.{ap, ◌≡◌, ◌∷◌}
use Rattle.std.proofs.lemmas.List.Elements.{All-rest}
use Rattle.grind_grammar.specs.Keeps.{IsPlacedTree, term_of}
use Rattle.grind_resolution.specs.Contexts.{gives_in}
use Rattle.grind_resolution.specs.Sorting.{IsSorted}
use Rattle.grind_annotations.specs.Written.{terms_of}
use Rattle.grind_annotations.proofs.ItemLemmas.{no_items}
use Rattle.grind_annotations.proofs.AnnotationLaws.{resolving-next, resolving-end}
use Rattle.grind_annotations.proofs.patterns.written_schemes.Goals as goal

pub loop-tree-preserved : goal.loop-tree-preserved
loop-tree-preserved c =
    let text = c.args.context.now.text.now in
    let gives = gives_in c.args.context.now in
    let p : c.loop-tree.rest.now ≡ c.in-Some.tree.now ∷ c.in-Some.later.now = cc ((c.in-Some.ensures.cases).0) in
    record {
      placed = All-rest (IsPlacedTree text) c.in-Some.tree.now c.in-Some.later.now c.loop-tree.rest.now p c.loop-tree.invariant.placed;
      sorted = All-rest (λ tree. IsSorted gives (term_of text tree)) c.in-Some.tree.now c.in-Some.later.now c.loop-tree.rest.now p c.loop-tree.invariant.sorted;
      resolving = resolving-next gives (terms_of text c.args.trees.now) (terms_of text c.loop-tree.rest.now) (terms_of text c.in-Some.later.now) (term_of text c.in-Some.tree.now)
          c.loop-tree.schemes c.push.new.self c.in_ok-scheme.scheme (ap (terms_of text) p) c.loop-tree.invariant.resolving c.in_ok-scheme.ensures c.in_ok-push.ensures.ok;
    }

pub returns : goal.returns
returns c =
    let text = c.args.context.now.text.now in
    resolving-end (gives_in c.args.context.now) (terms_of text c.args.trees.now) (terms_of text c.loop-tree.rest.now) c.loop-tree.schemes
    (ap (terms_of text) (no_items c.loop-tree.rest.now c.in_default.ensures.cases)) c.loop-tree.invariant.resolving
