use Rattle.std.proofs.Common.{◌≡◌, ◌+◌, length}
use Rattle.std.specs.List.{position_or_len}
use Rattle.grind_term_graph.specs.Same.{is_same_node}
use Rattle.grind_schemes.proofs.counting.place_among.Given as goal

abbrev pub invariant-loop-other : goal.invariant-loop-other
invariant-loop-other l = record {
  left : position_or_len (is_same_node l.fn.node) l.fn.nodes ≡ l.place + position_or_len (is_same_node l.fn.node) l.rest;
  count : length l.fn.nodes ≡ l.place + length l.rest;
}

abbrev pub decreases-loop-other : goal.decreases-loop-other
decreases-loop-other l = length l.rest
