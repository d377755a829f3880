use Rattle.std.specs.Prelude.{◌≡◌, ℕ, List, IfOk}
use Rattle.std.proofs.Common.{ap, subst}
use Rattle.grind_term_graph.specs.declared.node.Node.{Node}
use Rattle.grind_schemes.specs.declared.scheme.Scheme.{Scheme}
use Rattle.grind_schemes.specs.Theorems.{TheoremData}
use Rattle.grind_schemes.specs.Instances.{interned}
use Rattle.grind_schemes.proofs.InstanceLemmas.{IsUnderway-stays, interned-grows}
use Rattle.grind_schemes.proofs.InstanceNodeLemmas.{adds_when_ok, only_for}
use Rattle.grind_schemes.proofs.instance.instantiate.Goals as goal

pub returns-in_err-count-clause-underway : goal.returns-in_err-count-clause-underway
returns-in_err-count-clause-underway c =
    IsUnderway-stays c.args.table.now (interned c.args.table.now.nodes c.args.subst.now c.args.theorem.now.body).0
    (interned-grows c.args.subst.now c.args.theorem.now.body c.args.table.now.nodes)

pub returns-in_err-count-clause-only : goal.returns-in_err-count-clause-only
returns-in_err-count-clause-only c =
    only_for c.args.table.now.nodes c.args.theorem.now.vars c.args.subst.now c.args.theorem.now.body c.requires c.name-name.ensures.keeps.body

pub returns-then-count-limit-clause-underway : goal.returns-then-count-limit-clause-underway
returns-then-count-limit-clause-underway c =
    IsUnderway-stays c.args.table.now (interned c.args.table.now.nodes c.args.subst.now c.args.theorem.now.body).0
    (interned-grows c.args.subst.now c.args.theorem.now.body c.args.table.now.nodes)

pub returns-then-count-limit-clause-only : goal.returns-then-count-limit-clause-only
returns-then-count-limit-clause-only c =
    only_for c.args.table.now.nodes c.args.theorem.now.vars c.args.subst.now c.args.theorem.now.body c.requires c.name-name.ensures.keeps.body

pub returns-clause-adds : goal.returns-clause-adds
returns-clause-adds c =
    let nodes = c.args.table.now.nodes in
    let after = c.intern_scheme.new.table.nodes in
    let body_is : c.theorem.inside.body ≡ c.args.theorem.now.body = ap (λ (theorem : TheoremData). theorem.body) c.theorem.view_is in
    let made = subst (λ (body : Scheme). IfOk c.intern_scheme.result (λ id. ◌≡◌ {A = List Node × ℕ} (after, id) (interned nodes c.args.subst.now body)))
    body_is c.intern_scheme.ensures.ok in
    adds_when_ok nodes after c.args.theorem.now.vars c.args.subst.now c.args.theorem.now.body c.intern_scheme.result c.requires
    c.name-name.ensures.keeps.body made

pub returns-clause-only : goal.returns-clause-only
returns-clause-only c =
    only_for c.args.table.now.nodes c.args.theorem.now.vars c.args.subst.now c.args.theorem.now.body c.requires c.name-name.ensures.keeps.body
