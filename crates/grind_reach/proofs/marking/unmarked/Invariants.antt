use Rattle.std.specs.Prelude.{◌≡◌, ℕ, length}
use Rattle.grind_reach.specs.Marks.{IsMarked}
use Rattle.grind_reach.proofs.marking.unmarked.Given as goal

abbrev pub invariant-loop-number : goal.invariant-loop-number
invariant-loop-number l = record {
  size : length l.marks ≡ l._number;
  unmarked : (n : ℕ) → IsMarked l.marks n → ⊥;
}
