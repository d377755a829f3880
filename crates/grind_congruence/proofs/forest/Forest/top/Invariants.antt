use Rattle.std.specs.Prelude.{◌≡◌, ◌-◌, ◌≤◌, length, take}
use Rattle.grind_congruence.specs.Forest.{climbed}
use Rattle.grind_congruence.proofs.forest.Forest.top.Given as goal

abbrev pub invariant-loop-place : goal.invariant-loop-place
invariant-loop-place l = record {
  root : climbed l.fn.n (take l.count l.self) ≡ l.top;
  within : l.count ≤ length l.self;
}

abbrev pub decreases-loop-place : goal.decreases-loop-place
decreases-loop-place l = length l.self - l.count
