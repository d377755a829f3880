use Rattle.std.specs.Prelude.{◌≡◌, length}
use Rattle.grind_polynomials.specs.Polynomials.{IsPoly}
use Rattle.grind_normal_forms.specs.Reduction.{target}
use Rattle.grind_normal_forms.proofs.reduction.target.Given as goal

abbrev pub invariant-loop-term : goal.invariant-loop-term
invariant-loop-term l = record {
  same : target l.fn.basis l.rest ≡ target l.fn.basis l.fn.terms;
  poly : IsPoly l.rest;
}

abbrev pub decreases-loop-term : goal.decreases-loop-term
decreases-loop-term l = length l.rest
