use Rattle.std.specs.Prelude.{◌+◌, pos, List, Result}
use Rattle.grind_polynomials.specs.declared.poly.Term.{Term}
use Rattle.grind_normal_forms.specs.declared.reduction.Reduced.{Reduced}
use Rattle.grind_polynomials.specs.declared.poly.PolyRefusal.{PolyRefusal}
use Rattle.grind_normal_forms.specs.Reduction.{Reduces, reduced_of}
use Rattle.grind_normal_forms.specs.Gathering.{Gathers, no_factors}
use Rattle.grind_normal_forms.specs.Ranks.{AreLow, above_terms, above_basis, left_to_do}
use Rattle.grind_normal_forms.proofs.factors.gather.Given as goal

abbrev pub invariant-loop-now : goal.invariant-loop-now
invariant-loop-now l = record {
  leads : (answer : Result Reduced PolyRefusal) → Reduces l.fn.basis l.now.state answer → Reduces l.fn.basis (reduced_of (pos 1) l.fn.p) answer;
  gathers : (answer : Result (List (List Term)) PolyRefusal) → Gathers l.fn.basis l.fn.minus l.now.state l.now.list answer
      → Gathers l.fn.basis l.fn.minus (reduced_of (pos 1) l.fn.p) (no_factors l.fn.basis) answer;
  low : AreLow (above_terms l.fn.p + above_basis l.fn.basis) l.now.state.rest;
}

abbrev pub decreases-loop-now : goal.decreases-loop-now
decreases-loop-now l = left_to_do (above_terms l.fn.p + above_basis l.fn.basis) l.fn.basis l.now.state.rest
