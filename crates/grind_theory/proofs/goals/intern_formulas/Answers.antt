use Rattle.std.proofs.Common.{ap, subst, ◌∙◌, ◌≡◌, ◌∷◌, ◌<◌, length, Err}
use Rattle.std.proofs.lemmas.List.Elements.{All-rest}
use Rattle.grind_term_graph.specs.Terms.{prop}
use Rattle.grind_grammar.specs.Keeps.{IsPlacedTree, term_of}
use Rattle.grind_resolution.specs.Scopes.{Gives}
use Rattle.grind_resolution.specs.Sorting.{HasSort}
use Rattle.grind_theory.specs.Faults.{interned_each}
use Rattle.grind_annotations.specs.Written.{terms_of}
use Rattle.grind_annotations.proofs.ItemLemmas.{no_items}
use Rattle.grind_theory.proofs.FunTaking.{same_Err}
use Rattle.grind_theory.proofs.Interning.{putting-next, putting-full, putting-end}
use Rattle.grind_theory.proofs.goals.intern_formulas.Goals as goal

pub returns-in-Err-clause-over : goal.returns-in-Err-clause-over
returns-in-Err-clause-over c = λ fault e whole g.
    let s = c.args.context.now.signature.now in
    let scope = c.args.context.now.scope.now in
    let text = c.args.context.now.text.now in
    let single = c.one_meaning.ensures s scope c.args.context.now.keeps c.args.context.now.distinct c.args.context.now.apart in
    let p : c.loop-tree.rest.now ≡ c.in-Some.tree.now ∷ c.in-Some.later.now = cc ((c.in-Some.ensures.cases).0) in
    subst (λ limit. limit < length (interned_each c.args.table.now.nodes whole).0) c.loop-tree.invariant.limit
    (putting-full (Gives s scope) (c.one_scheme.ensures s scope single) c.args.table.now.nodes (terms_of text c.args.trees.now) (terms_of text c.loop-tree.rest.now)
    (terms_of text c.in-Some.later.now) (term_of text c.in-Some.tree.now) c.loop-tree.table.nodes c.loop-tree.ids (ap (terms_of text) p) c.loop-tree.invariant.putting
    c.loop-tree.table.limit (c.in-Err.ensures.over fault (ap Err (same_Err _ _ e))) whole g)

pub loop-tree-preserved : goal.loop-tree-preserved
loop-tree-preserved c =
    let s = c.args.context.now.signature.now in
    let scope = c.args.context.now.scope.now in
    let text = c.args.context.now.text.now in
    let single = c.one_meaning.ensures s scope c.args.context.now.keeps c.args.context.now.distinct c.args.context.now.apart in
    let p : c.loop-tree.rest.now ≡ c.in-Some.tree.now ∷ c.in-Some.later.now = cc ((c.in-Some.ensures.cases).0) in
    let put = c.in-Ok.ensures.ok in
    record {
      placed = All-rest (IsPlacedTree text) c.in-Some.tree.now c.in-Some.later.now c.loop-tree.rest.now p c.loop-tree.invariant.placed;
      formulas = All-rest (λ tree. HasSort (Gives s scope) (term_of text tree) prop) c.in-Some.tree.now c.in-Some.later.now c.loop-tree.rest.now p c.loop-tree.invariant.formulas;
      limit = c.in-Ok.ensures.limit ∙ c.loop-tree.invariant.limit;
      putting = putting-next (Gives s scope) (c.one_scheme.ensures s scope single) c.args.table.now.nodes (terms_of text c.args.trees.now) (terms_of text c.loop-tree.rest.now)
          (terms_of text c.in-Some.later.now) (term_of text c.in-Some.tree.now) c.loop-tree.table.nodes c.loop-tree.ids (ap (terms_of text) p) c.loop-tree.invariant.putting
          c.intern_formula.new.table.nodes c.in-Ok.id c.push.new.self put.0 put.1 put.2 c.in-Ok-push.ensures.ok;
    }

pub returns-clause-ok : goal.returns-clause-ok
returns-clause-ok c =
    let s = c.args.context.now.signature.now in
    let scope = c.args.context.now.scope.now in
    let text = c.args.context.now.text.now in
    let single = c.one_meaning.ensures s scope c.args.context.now.keeps c.args.context.now.distinct c.args.context.now.apart in
    putting-end (Gives s scope) (c.one_scheme.ensures s scope single) c.args.table.now.nodes (terms_of text c.args.trees.now) (terms_of text c.loop-tree.rest.now)
    c.loop-tree.table.nodes c.loop-tree.ids (ap (terms_of text) (no_items c.loop-tree.rest.now c.in_default.ensures.cases)) c.loop-tree.invariant.putting
