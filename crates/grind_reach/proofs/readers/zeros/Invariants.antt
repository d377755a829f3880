use Rattle.std.specs.Prelude.{◌≡◌, ℕ, length}
use Rattle.grind_reach.specs.Marks.{reader_at}
use Rattle.grind_reach.proofs.readers.zeros.Given as goal

abbrev pub invariant-loop-number : goal.invariant-loop-number
invariant-loop-number l = record {
  size : length l.zeros ≡ l._number;
  zeros : (n : ℕ) → reader_at l.zeros n ≡ 0;
}
