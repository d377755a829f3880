use Rattle.std.specs.Prelude.{◌≡◌, ◌<◌, length, slice_index_or}
use Rattle.std.proofs.Common.{ap}
use Rattle.grind_term_graph.specs.Terms.{Terms}
use Rattle.grind_term_graph.proofs.Tables.{WellShaped-index, args_before}
use Rattle.grind_term_graph.proofs.table.TermTable.node.Goals as goal

pub returns-clause-shape : goal.returns-clause-shape
returns-clause-shape c =
    let nodes_are : c.self.inside.nodes.keys ≡ c.args.self.now.nodes = ap (λ (t : Terms). t.nodes) c.self.view_is in
    let below : c.args.id < length c.self.inside.nodes.keys = rw nodes_are c.requires in
    let is : c.index-as_slice-number.result
    ≡ slice_index_or c.self.inside.nodes.keys c.args.id c.index-as_slice-number.result =
    rw (← c.as_slice.ensures.keys, ← c.number.ensures) c.index-as_slice-number.is in
    rw (← nodes_are)
    (WellShaped-index c.self.inside.nodes.keys c.self.inside.limit c.args.id c.index-as_slice-number.result
    c.self.invariant below is)

pub returns-clause-lower : goal.returns-clause-lower
returns-clause-lower c =
    let nodes_are : c.self.inside.nodes.keys ≡ c.args.self.now.nodes = ap (λ (t : Terms). t.nodes) c.self.view_is in
    let below : c.args.id < length c.self.inside.nodes.keys = rw nodes_are c.requires in
    let is : c.index-as_slice-number.result
    ≡ slice_index_or c.self.inside.nodes.keys c.args.id c.index-as_slice-number.result =
    rw (← c.as_slice.ensures.keys, ← c.number.ensures) c.index-as_slice-number.is in
    args_before c.self.inside.nodes.keys c.self.inside.limit c.args.id c.index-as_slice-number.result
    c.self.invariant below is
