use Rattle.std.specs.Prelude.{◌≡◌, All}
use Rattle.std.proofs.Common.{sym, ◌∙◌, subst}
use Rattle.std.proofs.lemmas.Option.{same_Some}
use Rattle.grind_term_graph.specs.declared.node.Node.{Node}
use Rattle.grind_classes.specs.Classes.{IsActive}
use Rattle.grind_closure_rows.proofs.closure_tests.activated.Goals as goal

pub activate-requires-clause-args : goal.activate-requires-clause-args
activate-requires-clause-args c = λ node stands.
    let same : c.node.result.now ≡ node = same_Some c.node.result.now node (sym c.node.ensures.value ∙ stands) in
    let all : All (IsActive c.args.closure.now.lists) c.node.result.now.args =
    rw (c.classes-2.ensures.value, c.as_slice.ensures.value) at (c.are_active.ensures c.if-not-are_active.false) in
    subst (λ (n : Node). All (IsActive c.args.closure.now.lists) n.args) same all
