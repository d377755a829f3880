use Rattle.std.proofs.Common.{◌≡◌, ◌+◌, ◌++◌, ℕ, List, IfOk, rules, subst, sym, drop}
use Rattle.grind_term_graph.specs.declared.node.Node.{Node}
use Rattle.grind_term_graph.specs.Placed.{placed}
use Rattle.grind_schemes.specs.declared.scheme.Scheme.{the_lemmas}
use Rattle.grind_schemes.proofs.InstanceLemmas.{IsLeft, IsLeft-first, IsLeft-next, IsLeft-last, drop_at, drop_all, SuitsEach-Apply, SuitsEach-item, fits_behind, built, BeginsWith-refl, BeginsWith-trans, BeginsWith-made}
use Rattle.grind_schemes.proofs.counting.+finding.Goals as goal

pub find_args-loop-arg-init : goal.find_args-loop-arg-init
find_args-loop-arg-init t c =
    let nodes = c.args.table.now.nodes ++ c.args.fresh.now in
    let all = c.args.args.now in
    record {
      left = subst (λ (ids : List ℕ). IsLeft nodes c.args.subst.now all nodes ids all) (sym c.new-ids.ensures)
          (IsLeft-first nodes c.args.subst.now all);
      grows = BeginsWith-refl nodes;
    }

pub find_args-find_scheme-requires : goal.find_args-find_scheme-requires
find_args-find_scheme-requires t c = (
  search (rules, the_lemmas, c.decreases, c.arg-item.is, c.loop-arg-test.true),
  SuitsEach-item (c.args.table.now.nodes ++ c.args.fresh.now) (c.args.table.now.nodes ++ c.loop-arg.fresh)
      c.args.subst.now c.args.args.now c.loop-arg.arg-index c.arg-item.result c.loop-arg-test.true c.arg-item.is
      c.loop-arg.invariant.grows c.requires,
)

pub find_args-loop-arg-preserved : goal.find_args-loop-arg-preserved
find_args-loop-arg-preserved t c =
    let nodes = c.args.table.now.nodes ++ c.args.fresh.now in
    let now = c.args.table.now.nodes ++ c.loop-arg.fresh in
    let next = c.args.table.now.nodes ++ c.find_scheme.new.fresh in
    let all = c.args.args.now in
    let item = c.arg-item.result in
    let k = c.loop-arg.arg-index in
    let left = IsLeft-next nodes c.args.subst.now all now c.loop-arg.ids (drop k all) (drop (k + 1) all) item next
    c.in-Ok.id (drop_at all k item c.loop-arg-test.true c.arg-item.is) c.in-Ok.ensures c.loop-arg.invariant.left in
    record {
      left = subst (λ (ids : List ℕ). IsLeft nodes c.args.subst.now all next ids (drop (k + 1) all))
          (sym c.in_ok-push.ensures.ok) left;
      grows = BeginsWith-trans nodes now next c.loop-arg.invariant.grows
          (BeginsWith-made now next c.args.subst.now item c.in-Ok.id c.in-Ok.ensures);
    }

pub find_args-returns : goal.find_args-returns
find_args-returns t c =
    let all = c.args.args.now in
    let k = c.loop-arg.arg-index in
    IsLeft-last (c.args.table.now.nodes ++ c.args.fresh.now) c.args.subst.now all
    (c.args.table.now.nodes ++ c.loop-arg.fresh) c.loop-arg.ids (drop k all) (drop_all all k c.loop-arg-test.false)
    c.loop-arg.invariant.left

pub find_scheme-find_args-requires : goal.find_scheme-find_args-requires
find_scheme-find_args-requires t c = (
  search (rules, the_lemmas, c.decreases, c.in-Apply.is, c.deref.ensures.value),
  SuitsEach-Apply (c.args.table.now.nodes ++ c.args.fresh.now) c.args.subst.now c.in-Apply.head c.in-Apply.sort
      c.in-Apply.args c.args.scheme.now c.deref.result.now c.in-Apply.is c.deref.ensures.value c.requires,
)

pub find_scheme-node_at-requires : goal.find_scheme-node_at-requires
find_scheme-node_at-requires t c =
    (fits_behind (c.args.table.now.nodes ++ c.args.fresh.now) (c.args.table.now.nodes ++ c.find_args.new.fresh)
    c.args.subst.now c.in-Ok.ids c.as_slice.result.now c.in-Apply.head c.in-Apply.sort c.in-Apply.args
    c.args.scheme.now c.deref.result.now c.in-Apply.is c.deref.ensures.value c.in-Ok.ensures
    c.as_slice.ensures.value c.requires).1

pub find_scheme-returns-in-Ok-node_at : goal.find_scheme-returns-in-Ok-node_at
find_scheme-returns-in-Ok-node_at t c =
    let whole = built (c.args.table.now.nodes ++ c.args.fresh.now) (c.args.table.now.nodes ++ c.find_args.new.fresh)
    c.args.subst.now c.in-Ok.ids c.as_slice.result.now c.in-Apply.head c.in-Apply.sort c.in-Apply.args
    c.args.scheme.now c.deref.result.now c.in-Apply.is c.deref.ensures.value c.in-Ok.ensures c.as_slice.ensures.value in
    let found = subst (λ (node : Node). IfOk c.find_node.result (λ id. (c.args.table.now.nodes ++ c.find_node.new.fresh, id) ≡ placed (c.args.table.now.nodes ++ c.find_args.new.fresh) node)) c.in-Ok-node_at.ensures c.find_node.ensures in
    rw whole at found
