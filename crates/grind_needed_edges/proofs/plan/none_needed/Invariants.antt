use Rattle.std.specs.Prelude.{◌≡◌, ℕ, length}
use Rattle.grind_needed_edges.specs.Plans.{IsNeeded}
use Rattle.grind_needed_edges.proofs.plan.none_needed.Given as goal

abbrev pub invariant-loop : goal.invariant-loop
invariant-loop l = record {
  long : length l.needed ≡ l.counter;
  idle : (place : ℕ) → ¬ IsNeeded l.needed place;
}
