use Rattle.std.specs.Prelude.{◌+◌, ℕ, List}
use Rattle.std.proofs.Common.{rules, arith, subst, sym, ap, ◌∙◌, drop}
use Rattle.grind_term_graph.specs.declared.node.Node.{Node}
use Rattle.grind_term_graph.specs.Placed.{placed}
use Rattle.grind_schemes.specs.declared.scheme.Scheme.{the_lemmas}
use Rattle.grind_schemes.specs.Instances.{node_of, interned, IsUnderway}
use Rattle.grind_schemes.specs.InstanceRows.{interned_list}
use Rattle.grind_schemes.proofs.InstanceLemmas.{IsLeft, IsLeft-first, IsLeft-next, IsLeft-last, IsLeft-within, drop_at, drop_all, SuitsEach-Apply, SuitsEach-item, fits_behind, built, args_within, BeginsWith-length, BeginsWith-refl, BeginsWith-trans, IsUnderway-more, IsUnderway-then, IsUnderway-on, IsUnderway-done}
use Rattle.grind_schemes.proofs.instance.+interning.Goals as goal

pub intern_args-loop-arg-init : goal.intern_args-loop-arg-init
intern_args-loop-arg-init t c =
    let nodes = c.args.table.now.nodes in
    let all = c.args.args.now in
    record {
      left = subst (λ (ids : List ℕ). IsLeft nodes c.args.subst.now all nodes ids all) (sym c.new-ids.ensures)
          (IsLeft-first nodes c.args.subst.now all);
      grows = BeginsWith-refl nodes;
      limit = search rules;
    }

pub intern_args-intern_scheme-requires : goal.intern_args-intern_scheme-requires
intern_args-intern_scheme-requires t c = (
  search (rules, the_lemmas, c.decreases, c.arg-item.is, c.loop-arg-test.true),
  SuitsEach-item c.args.table.now.nodes c.loop-arg.table.nodes c.args.subst.now c.args.args.now c.loop-arg.arg-index
      c.arg-item.result c.loop-arg-test.true c.arg-item.is c.loop-arg.invariant.grows c.requires,
)

pub intern_args-returns-in-Err-clause-full : goal.intern_args-returns-in-Err-clause-full
intern_args-returns-in-Err-clause-full t c = λ full.
    let nodes = c.args.table.now.nodes in
    let now = c.loop-arg.table.nodes in
    let all = c.args.args.now in
    let item = c.arg-item.result in
    let k = c.loop-arg.arg-index in
    let longer = IsLeft-within nodes c.args.subst.now all now c.loop-arg.ids (drop k all) (drop (k + 1) all) item
    (drop_at all k item c.loop-arg-test.true c.arg-item.is) c.loop-arg.invariant.left in
    let counts = BeginsWith-length (interned now c.args.subst.now item).0 (interned_list nodes c.args.subst.now all).0 longer in
    let over = c.in-Err.ensures.full cc in
    omega (arith, counts, over, c.loop-arg.invariant.limit)

pub intern_args-returns-in-Err-clause-underway : goal.intern_args-returns-in-Err-clause-underway
intern_args-returns-in-Err-clause-underway t c =
    let nodes = c.args.table.now.nodes in
    let now = c.loop-arg.table.nodes in
    let all = c.args.args.now in
    let item = c.arg-item.result in
    let k = c.loop-arg.arg-index in
    let longer = IsLeft-within nodes c.args.subst.now all now c.loop-arg.ids (drop k all) (drop (k + 1) all) item
    (drop_at all k item c.loop-arg-test.true c.arg-item.is) c.loop-arg.invariant.left in
    IsUnderway-on c.args.table.now c.loop-arg.table c.intern_scheme.new.table (interned now c.args.subst.now item).0
    (interned_list nodes c.args.subst.now all).0 c.loop-arg.invariant.grows c.loop-arg.invariant.limit
    c.in-Err.ensures.underway longer

pub intern_args-returns-in_err-push-clause-underway :
    goal.intern_args-returns-in_err-push-clause-underway
intern_args-returns-in_err-push-clause-underway t c =
    let nodes = c.args.table.now.nodes in
    let now = c.loop-arg.table.nodes in
    let all = c.args.args.now in
    let item = c.arg-item.result in
    let k = c.loop-arg.arg-index in
    let longer = IsLeft-within nodes c.args.subst.now all now c.loop-arg.ids (drop k all) (drop (k + 1) all) item
    (drop_at all k item c.loop-arg-test.true c.arg-item.is) c.loop-arg.invariant.left in
    IsUnderway-on c.args.table.now c.loop-arg.table c.intern_scheme.new.table (interned now c.args.subst.now item).0
    (interned_list nodes c.args.subst.now all).0 c.loop-arg.invariant.grows c.loop-arg.invariant.limit
    c.in-Ok.ensures.underway longer

pub intern_args-loop-arg-preserved : goal.intern_args-loop-arg-preserved
intern_args-loop-arg-preserved t c =
    let nodes = c.args.table.now.nodes in
    let now = c.loop-arg.table.nodes in
    let next = c.intern_scheme.new.table.nodes in
    let all = c.args.args.now in
    let item = c.arg-item.result in
    let k = c.loop-arg.arg-index in
    let left = IsLeft-next nodes c.args.subst.now all now c.loop-arg.ids (drop k all) (drop (k + 1) all) item next
    c.in-Ok.id (drop_at all k item c.loop-arg-test.true c.arg-item.is) c.in-Ok.ensures.ok c.loop-arg.invariant.left in
    record {
      left = subst (λ (ids : List ℕ). IsLeft nodes c.args.subst.now all next ids (drop (k + 1) all))
          (sym c.in_ok-push.ensures.ok) left;
      grows = BeginsWith-trans nodes now next c.loop-arg.invariant.grows c.in-Ok.ensures.underway.grows;
      limit = c.in-Ok.ensures.underway.limit ∙ c.loop-arg.invariant.limit;
    }

pub intern_args-returns-clause-ok : goal.intern_args-returns-clause-ok
intern_args-returns-clause-ok t c =
    let all = c.args.args.now in
    let k = c.loop-arg.arg-index in
    IsLeft-last c.args.table.now.nodes c.args.subst.now all c.loop-arg.table.nodes c.loop-arg.ids (drop k all)
    (drop_all all k c.loop-arg-test.false) c.loop-arg.invariant.left

pub intern_args-returns-clause-underway : goal.intern_args-returns-clause-underway
intern_args-returns-clause-underway t c =
    let nodes = c.args.table.now.nodes in
    let all = c.args.args.now in
    let k = c.loop-arg.arg-index in
    let made = IsLeft-last nodes c.args.subst.now all c.loop-arg.table.nodes c.loop-arg.ids (drop k all)
    (drop_all all k c.loop-arg-test.false) c.loop-arg.invariant.left in
    IsUnderway-done c.args.table.now c.loop-arg.table (interned_list nodes c.args.subst.now all).0
    c.loop-arg.invariant.grows c.loop-arg.invariant.limit (ap (λ (d : List Node × List ℕ). d.0) made)

pub intern_scheme-intern_args-requires : goal.intern_scheme-intern_args-requires
intern_scheme-intern_args-requires t c = (
  search (rules, the_lemmas, c.decreases, c.in-Apply.is, c.deref.ensures.value),
  SuitsEach-Apply c.args.table.now.nodes c.args.subst.now c.in-Apply.head c.in-Apply.sort c.in-Apply.args
      c.args.scheme.now c.deref.result.now c.in-Apply.is c.deref.ensures.value c.requires,
)

pub intern_scheme-returns-in-Err-clause-full : goal.intern_scheme-returns-in-Err-clause-full
intern_scheme-returns-in-Err-clause-full t c = λ full.
    let nodes = c.args.table.now.nodes in
    let items = c.deref.result.now in
    let longer = args_within nodes c.args.subst.now c.in-Apply.head c.in-Apply.sort c.in-Apply.args c.args.scheme.now
    items c.in-Apply.is c.deref.ensures.value in
    let counts = BeginsWith-length (interned_list nodes c.args.subst.now items).0
    (interned nodes c.args.subst.now c.args.scheme.now).0 longer in
    let over = c.in-Err.ensures.full cc in
    omega (arith, counts, over)

pub intern_scheme-returns-in-Err-clause-underway :
    goal.intern_scheme-returns-in-Err-clause-underway
intern_scheme-returns-in-Err-clause-underway t c =
    let nodes = c.args.table.now.nodes in
    let items = c.deref.result.now in
    let longer = args_within nodes c.args.subst.now c.in-Apply.head c.in-Apply.sort c.in-Apply.args c.args.scheme.now
    items c.in-Apply.is c.deref.ensures.value in
    IsUnderway-more c.args.table.now c.intern_args.new.table (interned_list nodes c.args.subst.now items).0
    (interned nodes c.args.subst.now c.args.scheme.now).0 c.in-Err.ensures.underway longer

pub intern_scheme-intern_node-requires-clause-fits :
    goal.intern_scheme-intern_node-requires-clause-fits
intern_scheme-intern_node-requires-clause-fits t c =
    (fits_behind c.args.table.now.nodes c.intern_args.new.table.nodes c.args.subst.now c.in-Ok.ids c.as_slice.result.now
    c.in-Apply.head c.in-Apply.sort c.in-Apply.args c.args.scheme.now c.deref.result.now c.in-Apply.is
    c.deref.ensures.value c.in-Ok.ensures.ok c.as_slice.ensures.value c.requires).0

pub intern_scheme-intern_node-requires-clause-few :
    goal.intern_scheme-intern_node-requires-clause-few
intern_scheme-intern_node-requires-clause-few t c =
    (fits_behind c.args.table.now.nodes c.intern_args.new.table.nodes c.args.subst.now c.in-Ok.ids c.as_slice.result.now
    c.in-Apply.head c.in-Apply.sort c.in-Apply.args c.args.scheme.now c.deref.result.now c.in-Apply.is
    c.deref.ensures.value c.in-Ok.ensures.ok c.as_slice.ensures.value c.requires).1

pub intern_scheme-returns-in-Ok-clause-ok : goal.intern_scheme-returns-in-Ok-clause-ok
intern_scheme-returns-in-Ok-clause-ok t c =
    let whole = built c.args.table.now.nodes c.intern_args.new.table.nodes c.args.subst.now c.in-Ok.ids
    c.as_slice.result.now c.in-Apply.head c.in-Apply.sort c.in-Apply.args c.args.scheme.now c.deref.result.now
    c.in-Apply.is c.deref.ensures.value c.in-Ok.ensures.ok c.as_slice.ensures.value in
    rw whole at c.intern_node.ensures.ok

pub intern_scheme-returns-in-Ok-clause-full : goal.intern_scheme-returns-in-Ok-clause-full
intern_scheme-returns-in-Ok-clause-full t c =
    let whole = built c.args.table.now.nodes c.intern_args.new.table.nodes c.args.subst.now c.in-Ok.ids
    c.as_slice.result.now c.in-Apply.head c.in-Apply.sort c.in-Apply.args c.args.scheme.now c.deref.result.now
    c.in-Apply.is c.deref.ensures.value c.in-Ok.ensures.ok c.as_slice.ensures.value in
    rw (← whole, ← c.in-Ok.ensures.underway.limit) c.intern_node.ensures.full

pub intern_scheme-returns-in-Ok-clause-underway : goal.intern_scheme-returns-in-Ok-clause-underway
intern_scheme-returns-in-Ok-clause-underway t c =
    let nodes = c.args.table.now.nodes in
    let whole = built nodes c.intern_args.new.table.nodes c.args.subst.now c.in-Ok.ids
    c.as_slice.result.now c.in-Apply.head c.in-Apply.sort c.in-Apply.args c.args.scheme.now c.deref.result.now
    c.in-Apply.is c.deref.ensures.value c.in-Ok.ensures.ok c.as_slice.ensures.value in
    subst (λ (d : List Node × ℕ). IsUnderway c.args.table.now c.intern_node.new.table d.0) whole
    (IsUnderway-then c.args.table.now c.intern_args.new.table c.intern_node.new.table
    (interned_list nodes c.args.subst.now c.deref.result.now).0
    (placed c.intern_args.new.table.nodes (node_of c.in-Apply.head c.in-Apply.sort c.as_slice.result.now)).0
    c.in-Ok.ensures.underway c.intern_node.ensures.underway)
