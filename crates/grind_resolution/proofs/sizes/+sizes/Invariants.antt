use Rattle.std.proofs.Common.{◌≡◌, ◌+◌, ◌≤◌, ℕ, List, min, drop}
use Rattle.grind_resolution.specs.Sizes.{row_size}
use Rattle.grind_resolution.specs.Rows.{row_of_trees}
use Rattle.grind_resolution.proofs.sizes.+sizes.Given as goal

-- what is counted so far, and the size of the rest, make the size of all
abbrev pub invariant-size_of_all-loop-part : goal.invariant-size_of_all-loop-part
invariant-size_of_all-loop-part l = record {
  value : (text : List ℕ) → min (l.total + row_size (row_of_trees text (drop l.part-index l.parts))) l.limit ≡ min (row_size (row_of_trees text l.parts)) l.limit;
  within : l.total ≤ l.limit;
}
