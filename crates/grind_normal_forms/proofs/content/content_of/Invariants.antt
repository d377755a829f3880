use Rattle.std.specs.Prelude.{ℕ, ◌<◌, ◌↔◌, unsigned_abs, length}
use Rattle.std.specs.Int.{◌∣◌}
use Rattle.grind_normal_forms.specs.Reduction.{DividesEach}
use Rattle.grind_normal_forms.proofs.content.content_of.Given as goal

abbrev pub invariant-loop-term : goal.invariant-loop-term
invariant-loop-term l = record {
  divides : (d : ℕ) → ((d ∣ l.all) × DividesEach d l.rest) ↔ ((d ∣ unsigned_abs l.made.factor) × DividesEach d l.made.rest);
  positive : 0 < l.all;
}

abbrev pub decreases-loop-term : goal.decreases-loop-term
decreases-loop-term l = length l.rest
