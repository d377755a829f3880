use Rattle.std.proofs.Common.{◌≡◌, ◌+◌, ◌≤◌, ℕ, List, min, length}
use Rattle.grind_annotations.specs.Written.{written_sizes, annotations_of}
use Rattle.grind_annotations.proofs.sizes.size_of_annots.Given as goal

-- what is counted so far, and the sizes of the rest, make the sizes of all
abbrev pub invariant-loop-annot : goal.invariant-loop-annot
invariant-loop-annot l = record {
  value : (text : List ℕ) → min (l.total + written_sizes (annotations_of text l.rest)) l.limit ≡ min (written_sizes (annotations_of text l.fn.annots)) l.limit;
  within : l.total ≤ l.limit;
}

abbrev pub decreases-loop-annot : goal.decreases-loop-annot
decreases-loop-annot l = length l.rest
