use Rattle.std.proofs.Common.{◌≡◌, List, ℕ, ap, sym, subst}
use Rattle.grind_classes.specs.Classes.{IsActive}
use Rattle.grind_ematch.specs.Partials.{QueryData}
use Rattle.grind_ematch.proofs.SceneLemmas.{got_below, args_active}
use Rattle.grind_ematch.proofs.query.Query.node.Goals as goal

pub node-requires : goal.node-requires
node-requires c =
    let classes_are : c.self.inside.classes.now.lists ≡ c.args.self.now.scene.classes = ap (λ (q : QueryData). q.scene.classes) c.self.view_is in
    let active = subst (λ (lists : List (List ℕ)). IsActive lists c.args.n) (sym classes_are) c.requires in
    let found = c.self.invariant.scene.active c.args.n active in
    got_below c.self.inside.terms.now.nodes c.args.n found.0 found.1

pub returns-clause-args : goal.returns-clause-args
returns-clause-args c =
    let classes_are : c.self.inside.classes.now.lists ≡ c.args.self.now.scene.classes = ap (λ (q : QueryData). q.scene.classes) c.self.view_is in
    let active = subst (λ (lists : List (List ℕ)). IsActive lists c.args.n) (sym classes_are) c.requires in
    let found = c.self.invariant.scene.active c.args.n active in
    args_active c.self.inside.terms.now.nodes c.self.inside.classes.now.lists c.args.self.now.scene.classes c.args.n found.0
    c.node.result.now classes_are found.1 c.node.ensures.value found.2
