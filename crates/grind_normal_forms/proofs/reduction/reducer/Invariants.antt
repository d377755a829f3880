use Rattle.std.specs.Prelude.{◌≡◌, ◌≢◌, [], All, length}
use Rattle.grind_normal_forms.specs.Reduction.{reducer}
use Rattle.grind_normal_forms.proofs.reduction.reducer.Given as goal

abbrev pub invariant-loop-b : goal.invariant-loop-b
invariant-loop-b l = record {
  same : reducer l.rest l.fn.monomial ≡ reducer l.fn.basis l.fn.monomial;
  nonzero : All (λ b. b ≢ []) l.rest;
}

abbrev pub decreases-loop-b : goal.decreases-loop-b
decreases-loop-b l = length l.rest
