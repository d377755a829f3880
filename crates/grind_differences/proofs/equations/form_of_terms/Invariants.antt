use Rattle.std.proofs.Common.{length}
use Rattle.grind_polynomials.specs.Polynomials.{IsPoly}
use Rattle.grind_differences.proofs.FormLemmas.{IsSoFar}
use Rattle.grind_differences.proofs.equations.form_of_terms.Given as goal

-- the parts so far, before what the rest gives, are what the whole gives
abbrev pub invariant-loop-term : goal.invariant-loop-term
invariant-loop-term l = IsSoFar l.fn.terms l.parts l.rest × IsPoly l.rest

abbrev pub decreases-loop-term : goal.decreases-loop-term
decreases-loop-term l = length l.rest
