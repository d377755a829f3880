use Rattle.std.proofs.Common.{◌≡◌, length, ℕ, List}
use Rattle.grind_grammar.specs.Files.{depth_limit}
use Rattle.grind_syntax.specs.Built.{term_given, IsPlacedBuilt, AreSidesPlaced, sides_joined}
use Rattle.grind_syntax.proofs.trees.joined.Given as goal

abbrev pub invariant-loop-side : goal.invariant-loop-side
invariant-loop-side l = record {
  so_far : (text : List ℕ) → sides_joined depth_limit text l.fn.sides (term_given text l.fn.last)
      ≡ sides_joined depth_limit text l.before (term_given text l.whole);
  placed : (text : List ℕ) → AreSidesPlaced text l.fn.sides → IsPlacedBuilt text l.fn.last →
      AreSidesPlaced text l.before × IsPlacedBuilt text l.whole;
}

abbrev pub decreases-loop-side : goal.decreases-loop-side
decreases-loop-side l = length l.before
