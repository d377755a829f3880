use Rattle.std.specs.Prelude.{◌≢◌, ◌+◌, pos, Result}
use Rattle.grind_normal_forms.specs.declared.reduction.Reduced.{Reduced}
use Rattle.grind_polynomials.specs.declared.poly.PolyRefusal.{PolyRefusal}
use Rattle.grind_normal_forms.specs.Reduction.{Reduces, reduced_of}
use Rattle.grind_normal_forms.specs.Ranks.{AreLow, above_terms, above_basis, left_to_do}
use Rattle.grind_normal_forms.proofs.reduction.reduce.Given as goal

abbrev pub invariant-loop-state : goal.invariant-loop-state
invariant-loop-state l = record {
  leads : (answer : Result Reduced PolyRefusal) → Reduces l.fn.basis l.state answer → Reduces l.fn.basis (reduced_of (pos 1) l.fn.p) answer;
  nonzero : l.state.factor ≢ pos 0;
  low : AreLow (above_terms l.fn.p + above_basis l.fn.basis) l.state.rest;
}

abbrev pub decreases-loop-state : goal.decreases-loop-state
decreases-loop-state l = left_to_do (above_terms l.fn.p + above_basis l.fn.basis) l.fn.basis l.state.rest
