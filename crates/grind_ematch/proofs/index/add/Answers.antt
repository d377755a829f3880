use Rattle.std.proofs.Common.{Option, List, ℕ, refl, ◌∙◌, subst}
use Rattle.std.specs.Prelude.{IsSome}
use Rattle.grind_ematch.proofs.IndexLemmas.{adds_by, nodes_found, nodes_absent}
use Rattle.grind_ematch.proofs.index.add.Goals as goal

pub returns-in-Some-get_mut : goal.returns-in-Some-get_mut
returns-in-Some-get_mut c =
    let more = c.push.new.self in
    let old = c.args.index.now.entries in
    let some = subst (λ (o : Option (List ℕ)). IsSome o) c.in-Some-get_mut.ensures.value refl in
    adds_by c.args.query.now.scene c.args.n old c.node.result.now c.in-Some.function c.in-Some-get_mut.nodes.now more
    (c.get_mut.follows.lender more).entries (c.is_active.ensures.0 c.if-not-is_active.false) c.node.ensures.value c.in-Some.ensures
    (nodes_found old c.in-Some.function c.in-Some-get_mut.nodes.now c.in-Some-get_mut.ensures.value) c.in_ok-push.ensures.ok
    ((c.get_mut.follows.holds more).3 some).0

pub returns : goal.returns
returns c =
    let old = c.args.index.now.entries in
    let puts = c.in_ok-insert.ensures.updates.0 in
    adds_by c.args.query.now.scene c.args.n old c.node.result.now c.in-Some.function c.new-nodes.result c.push-2.new.self
    c.insert.new.self.entries (c.is_active.ensures.0 c.if-not-is_active.false) c.node.ensures.value c.in-Some.ensures
    (c.new-nodes.ensures ∙ nodes_absent old c.in-Some.function c.in_default-get_mut.ensures.value) c.in_ok-push-2.ensures.ok
    (rw c.get_mut.follows.holds-at-none at puts)
