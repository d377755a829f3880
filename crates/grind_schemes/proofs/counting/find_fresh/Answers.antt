use Rattle.std.proofs.Common.{◌≡◌, ◌++◌, List, arith, sym, subst}
use Rattle.std.specs.List.{position_or_len}
use Rattle.grind_term_graph.specs.declared.node.Node.{Node}
use Rattle.grind_term_graph.specs.Same.{is_same_node}
use Rattle.grind_term_graph.specs.Placed.{placed}
use Rattle.grind_schemes.proofs.InstanceLemmas.{nodes_with}
use Rattle.grind_schemes.proofs.FreshLemmas.{placed_behind, placed_last}
use Rattle.grind_schemes.proofs.counting.find_fresh.Goals as goal

pub returns-then-place-len : goal.returns-then-place-len
returns-then-place-len c =
    let fresh = c.args.fresh.now in
    let place_is : c.place_among-place.result ≡ position_or_len (is_same_node c.args.node) fresh =
    rw (← c.as_slice.ensures.value) c.place_among-place.ensures.value in
    placed_behind c.args.table.now.nodes fresh c.args.node c.new.result c.requires
    (omega (arith, place_is, c.if-place-len.true, c.len-2.ensures.value))
    (omega (arith, place_is, c.new.ensures, c.len.ensures.value))

pub returns : goal.returns
returns c =
    let fresh = c.args.fresh.now in
    let nodes = c.args.table.now.nodes in
    let place_is : c.place_among-place.result ≡ position_or_len (is_same_node c.args.node) fresh =
    rw (← c.as_slice.ensures.value) c.place_among-place.ensures.value in
    let here = placed_last nodes fresh c.args.node c.new-2.result c.requires
    (omega (arith, place_is, c.if-place-len.false, c.len-2.ensures.value))
    (omega (arith, place_is, c.new-2.ensures, c.len.ensures.value)) in
    subst (λ (after : List Node). nodes_with (nodes ++ after) c.new-2.result ≡ placed (nodes ++ fresh) c.args.node)
    (sym c.in_ok-push.ensures.ok) here
