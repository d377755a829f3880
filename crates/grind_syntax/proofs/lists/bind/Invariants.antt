use Rattle.std.proofs.Common.{◌≡◌, ◌++◌, ℕ, List, length, All}
use Rattle.std.specs.Prelude.{map}
use Rattle.grind_grammar.specs.Keeps.{IsPlaced, name_of}
use Rattle.grind_grammar.specs.Reading.{bounds_of}
use Rattle.grind_syntax.specs.Places.{bound_of, IsPlacedBound}
use Rattle.grind_syntax.proofs.lists.bind.Given as goal

abbrev pub invariant-loop-name : goal.invariant-loop-name
invariant-loop-name l = record {
  so_far : (text : List ℕ) → map (bound_of text) l.binders ++ bounds_of (map (name_of text) l.rest) (name_of text l.sort)
      ≡ bounds_of (map (name_of text) l.names) (name_of text l.sort);
  kept : (text : List ℕ) → IsPlaced text l.sort → All (IsPlaced text) l.names → All (IsPlacedBound text) l.binders × All (IsPlaced text) l.rest;
}

abbrev pub decreases-loop-name : goal.decreases-loop-name
decreases-loop-name l = length l.rest
