use Rattle.std.specs.Prelude.{◌≡◌, ◌≤◌, length, take, drop}
use Rattle.grind_classes.specs.Trail.{rewound, IsTrail}
use Rattle.grind_classes.proofs.trail.rewind.Given as goal

abbrev pub invariant-loop-parts : goal.invariant-loop-parts
invariant-loop-parts l = record {
  left : take l.len l.trail ≡ take l.fn.len l.fn.trail;
  lists : rewound l.parts (drop l.len l.trail) ≡ rewound l.fn.parts (drop l.fn.len l.fn.trail);
  still : IsTrail l.parts l.trail;
  within : l.len ≤ length l.trail;
  same : l.len ≡ l.fn.len;
}

abbrev pub decreases-loop-parts : goal.decreases-loop-parts
decreases-loop-parts l = length l.trail
