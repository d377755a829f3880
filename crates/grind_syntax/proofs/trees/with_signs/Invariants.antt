use Rattle.std.proofs.Common.{◌≡◌, ◌≤◌, ◌-◌, ℕ, List}
use Rattle.grind_grammar.specs.Files.{depth_limit}
use Rattle.grind_syntax.specs.Built.{term_given, IsPlacedBuilt, one_times}
use Rattle.grind_syntax.proofs.trees.with_signs.Given as goal

abbrev pub invariant-loop-done : goal.invariant-loop-done
invariant-loop-done l = record {
  so_far : (text : List ℕ) → term_given text l.whole ≡ one_times depth_limit l.op l.done (term_given text l.fn.part);
  placed : (text : List ℕ) → IsPlacedBuilt text l.fn.part → IsPlacedBuilt text l.whole;
  within : l.done ≤ l.count;
}

abbrev pub decreases-loop-done : goal.decreases-loop-done
decreases-loop-done l = l.count - l.done
