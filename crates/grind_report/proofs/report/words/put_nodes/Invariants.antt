use Rattle.std.proofs.Common.{◌≡◌, ◌++◌, map, take, decimal, All}
use Rattle.grind_report.specs.Report.{spaced, IsShort}
use Rattle.grind_report.proofs.report.words.put_nodes.Given as goal

abbrev pub invariant-loop-node : goal.invariant-loop-node
invariant-loop-node l = (l.out ≡ l.initial.out ++ spaced (map decimal (take l.node-index l.nodes))) × All IsShort (take l.node-index l.nodes)
