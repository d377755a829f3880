use Rattle.std.specs.Prelude.{◌≡◌, ◌-◌, ◌≤◌, length, take}
use Rattle.grind_congruence.specs.Forest.{climbed, IsSplit}
use Rattle.grind_congruence.proofs.legs.split_of.Given as goal

abbrev pub invariant-loop-x : goal.invariant-loop-x
invariant-loop-x l = record {
  left : climbed l.fn.a (take l.count l.forest) ≡ l.x;
  right : climbed l.fn.b (take l.count l.forest) ≡ l.y;
  within : l.count ≤ length l.forest;
  last : l.x ≡ l.y → IsSplit l.forest l.fn.a l.fn.b l.split.place l.split.near l.split.far;
}

abbrev pub decreases-loop-x : goal.decreases-loop-x
decreases-loop-x l = length l.forest - l.count
