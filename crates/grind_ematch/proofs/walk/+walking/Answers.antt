use Rattle.std.proofs.Common.{rules, arith, ◌<◌, ℕ, ◌+◌, [], ◌∷◌, ◌++◌, List, All, take, length, ap, sym, subst, ◌∙◌, true≢false}
use Rattle.grind_classes.specs.Classes.{IsActive}
use Rattle.grind_schemes.specs.declared.scheme.Scheme.{Scheme, the_lemmas}
use Rattle.grind_schemes.specs.Schemes.{IsScheme}
use Rattle.grind_ematch.specs.declared.partial.Partial.{Partial}
use Rattle.grind_ematch.specs.Matches.{Meets}
use Rattle.grind_ematch.specs.Partials.{Represents, MeetsOneOf, IsVarIn, ListsOneOf, ListsClasses, Joins}
use Rattle.grind_ematch.proofs.Along.{at_item, take_next, take_whole, same_long}
use Rattle.grind_ematch.proofs.Algebra.{Represents-thin}
use Rattle.grind_ematch.proofs.NodeLemmas.{nodes_first, nodes_skip, nodes_more, other_node, late_node, node_by_args, node_is, formed_args, active_targets, args_next}
use Rattle.grind_ematch.proofs.walk.+walking.Goals as goal

pub at_args-targets-nodes-requires : goal.at_args-targets-nodes-requires
at_args-targets-nodes-requires t c =
    let pairs = c.requires.pairs in
    let test = c.loop-k-test.true in
    let less : c.loop-k.k < length c.args.ids.now = omega (arith, pairs, test) in
    at_item (IsActive c.args.query.now.scene.classes) c.args.ids.now c.loop-k.k c.index-ids-k.result c.requires.active less
    c.index-ids-k.is

pub at_args-at_nodes-requires : goal.at_args-at_nodes-requires
at_args-at_nodes-requires t c = (
  search (rules, the_lemmas, c.decreases, c.index-args-k.is, c.loop-k-test.true),
  (
    active_targets c.args.query.now.scene c.index-args-k.result c.index-ids-k.result c.targets-nodes.result.now
        c.targets-nodes.ensures.targets,
    at_item (IsScheme c.args.query.now.vars) c.args.args.now c.loop-k.k c.index-args-k.result c.requires.schemes
        c.loop-k-test.true c.index-args-k.is,
  ),
)

pub at_args-loop-k-preserved : goal.at_args-loop-k-preserved
at_args-loop-k-preserved t c =
    let query = c.args.query.now in
    let from = c.args.from in
    let k = c.loop-k.k in
    let args = c.args.args.now in
    let ids = c.args.ids.now in
    let arg = c.index-args-k.result in
    let id = c.index-ids-k.result in
    let new = c.in_ok-found-2.found in
    let pairs = c.requires.pairs in
    let test = c.loop-k-test.true in
    let less : k < length ids = omega (arith, pairs, test) in
    let joins : Joins c.loop-k.found c.in-Ok.list new =
    rw (← c.as_slice.ensures.value) c.in_ok-found-2.ensures in
    let next = args_next query c.targets-nodes.ensures.keeps.partition from (take k args) (take k ids) arg id
    c.targets-nodes.result.now c.loop-k.found c.in-Ok.list new (same_long args ids k pairs) c.targets-nodes.ensures.targets
    c.in-Ok.ensures joins c.loop-k.invariant in
    subst (λ (xs : List Scheme). ListsClasses query from xs (take (k + 1) ids) new)
    (sym (take_next args k arg test c.index-args-k.is))
    (subst (λ (xs : List ℕ). ListsClasses query from (take k args ++ arg ∷ []) xs new)
    (sym (take_next ids k id less c.index-ids-k.is)) next)

pub at_nodes-loop-n-init : goal.at_nodes-loop-n-init
at_nodes-loop-n-init t c =
    subst (λ (list : List Partial). ListsOneOf c.args.query.now c.args.pattern.now [] list) (sym c.new-found.ensures)
    (nodes_first c.args.query.now c.args.pattern.now)

pub at_nodes-node-node-requires : goal.at_nodes-node-node-requires
at_nodes-node-node-requires t c =
    at_item (IsActive c.args.query.now.scene.classes) c.args.nodes.now c.loop-n.n-index c.n-item.result c.requires.active
    c.loop-n-test.true c.n-item.is

pub at_nodes-generation-from-requires : goal.at_nodes-generation-from-requires
at_nodes-generation-from-requires t c =
    at_item (IsActive c.args.query.now.scene.classes) c.args.nodes.now c.loop-n.n-index c.n-item.result c.requires.active
    c.loop-n-test.true c.n-item.is

pub at_nodes-loop-n-preserved-then-not-is_headed : goal.at_nodes-loop-n-preserved-then-not-is_headed
at_nodes-loop-n-preserved-then-not-is_headed t c =
    let query = c.args.query.now in
    let pattern = c.args.pattern.now in
    let k = c.loop-n.n-index in
    let n = c.n-item.result in
    subst (λ (xs : List ℕ). ListsOneOf query pattern xs c.loop-n.found)
    (sym (take_next c.args.nodes.now k n c.loop-n-test.true c.n-item.is))
    (nodes_skip query pattern (take k c.args.nodes.now) n c.loop-n.found
    (λ subst' g fits meets within. other_node query c.in-Apply.head c.in-Apply.sort c.in-Apply.args n
    (length c.as_slice-items.result.now) c.node-node.result.now (ap length c.as_slice-items.ensures.value)
    c.node-node.ensures.value
    (λ h. true≢false (sym (c.is_headed.ensures.1 h) ∙ c.if-not-is_headed.true)) subst' g
    (subst (λ (scheme : Scheme). Meets query.scene subst' scheme n g) c.in-Apply.is meets))
    c.loop-n.invariant)

pub at_nodes-loop-n-preserved-then-from-most : goal.at_nodes-loop-n-preserved-then-from-most
at_nodes-loop-n-preserved-then-from-most t c =
    let query = c.args.query.now in
    let pattern = c.args.pattern.now in
    let k = c.loop-n.n-index in
    let n = c.n-item.result in
    let is = c.most.ensures in
    let test = c.if-from-most.true in
    let late : query.most < c.generation-from.result = omega (arith, is, test) in
    subst (λ (xs : List ℕ). ListsOneOf query pattern xs c.loop-n.found)
    (sym (take_next c.args.nodes.now k n c.loop-n-test.true c.n-item.is))
    (nodes_skip query pattern (take k c.args.nodes.now) n c.loop-n.found
    (λ subst' g fits meets within. late_node query c.in-Apply.head c.in-Apply.sort c.in-Apply.args n
    c.generation-from.result c.generation-from.ensures late subst' g
    (subst (λ (scheme : Scheme). Meets query.scene subst' scheme n g) c.in-Apply.is meets) within)
    c.loop-n.invariant)

pub at_nodes-at_args-requires : goal.at_nodes-at_args-requires
at_nodes-at_args-requires t c =
    let headed = c.is_headed.ensures.0 c.if-not-is_headed.false in
    let most_is = c.most.ensures in
    let test = c.if-from-most.false in (
      search (rules, the_lemmas, c.decreases, c.in-Apply.is, c.as_slice-items.ensures.value),
      (
        subst (λ (list : List ℕ). All (IsActive c.args.query.now.scene.classes) list) (sym c.as_slice.ensures.value)
            c.node-node.ensures.args,
        (
          formed_args c.args.query.now.vars c.in-Apply.head c.in-Apply.sort c.in-Apply.args c.args.pattern.now
              c.as_slice-items.result.now c.in-Apply.is c.as_slice-items.ensures.value c.requires.scheme,
          (
            sym headed.2 ∙ ap length (sym c.as_slice.ensures.value),
            omega (arith, most_is, test),
          ),
        ),
      ),
    )

pub at_nodes-loop-n-preserved : goal.at_nodes-loop-n-preserved
at_nodes-loop-n-preserved t c =
    let query = c.args.query.now in
    let pattern = c.args.pattern.now in
    let k = c.loop-n.n-index in
    let n = c.n-item.result in
    let list = c.in-Ok.list in
    let headed = c.is_headed.ensures.0 c.if-not-is_headed.false in
    let is = node_is c.node-node.result.now c.in-Apply.head c.in-Apply.sort c.as_slice.result.now headed.0 headed.1
    c.as_slice.ensures.value in
    let active = at_item (IsActive query.scene.classes) c.args.nodes.now k n c.requires.active c.loop-n-test.true c.n-item.is in
    let own = node_by_args query c.in-Apply.head c.in-Apply.sort c.in-Apply.args c.as_slice-items.result.now n
    c.generation-from.result c.node-node.result.now c.as_slice.result.now list c.as_slice-items.ensures.value
    c.node-node.ensures.value is c.generation-from.ensures active c.in-Ok.ensures in
    let mine = subst (λ (scheme : Scheme). Represents query (λ subst' g. Meets query.scene subst' scheme n g) (IsVarIn scheme) list)
    (sym c.in-Apply.is) own in
    subst (λ (xs : List ℕ). ListsOneOf query pattern xs c.append.new.found)
    (sym (take_next c.args.nodes.now k n c.loop-n-test.true c.n-item.is))
    (nodes_more query pattern (take k c.args.nodes.now) n c.loop-n.found list c.append.new.found
    c.in_ok-append-in-Apply.ensures mine c.loop-n.invariant)

pub at_nodes-returns-in_ok-list-in-Apply : goal.at_nodes-returns-in_ok-list-in-Apply
at_nodes-returns-in_ok-list-in-Apply t c =
    let query = c.args.query.now in
    let pattern = c.args.pattern.now in
    let whole = subst (λ (xs : List ℕ). ListsOneOf query pattern xs c.loop-n.found)
    (take_whole c.args.nodes.now c.loop-n.n-index c.loop-n-test.false) c.loop-n.invariant in
    Represents-thin query (MeetsOneOf query.scene pattern c.args.nodes.now) (IsVarIn pattern) c.loop-n.found
    c.in_ok-list-in-Apply.list c.in_ok-list-in-Apply.ensures whole
