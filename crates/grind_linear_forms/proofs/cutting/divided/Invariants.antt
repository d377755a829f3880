use Rattle.std.specs.Prelude.{◌≡◌, ◌++◌, length}
use Rattle.grind_linear_forms.specs.Cuts.{times, DividesAll}
use Rattle.grind_linear_forms.proofs.cutting.divided.Given as goal

abbrev pub invariant-loop-part : goal.invariant-loop-part
invariant-loop-part l = record {
  whole : times l.g l.quotients ++ l.rest ≡ l.fn.parts;
  divides : DividesAll l.g l.rest;
}

abbrev pub decreases-loop-part : goal.decreases-loop-part
decreases-loop-part l = length l.rest
