use Rattle.std.proofs.Common.{take}
use Rattle.std.specs.List.{AllZip}
use Rattle.grind_truth_prop.specs.Pairs.{AreRoots}
use Rattle.grind_truth_prop.proofs.pairs.roots_of.Given as goal

abbrev pub invariant-loop-pair : goal.invariant-loop-pair
invariant-loop-pair l = AllZip (AreRoots l.classes.lists) (take l.pair-index l.known.apart) l.roots
