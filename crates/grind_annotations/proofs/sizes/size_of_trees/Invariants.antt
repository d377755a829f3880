use Rattle.std.proofs.Common.{◌≡◌, ◌+◌, ◌≤◌, ℕ, List, min, length}
use Rattle.grind_annotations.specs.Written.{sizes, terms_of}
use Rattle.grind_annotations.proofs.sizes.size_of_trees.Given as goal

-- what is counted so far, and the sizes of the rest, make the sizes of all
abbrev pub invariant-loop-tree : goal.invariant-loop-tree
invariant-loop-tree l = record {
  value : (text : List ℕ) → min (l.total + sizes (terms_of text l.rest)) l.limit ≡ min (sizes (terms_of text l.fn.trees)) l.limit;
  within : l.total ≤ l.limit;
}

abbrev pub decreases-loop-tree : goal.decreases-loop-tree
decreases-loop-tree l = length l.rest
