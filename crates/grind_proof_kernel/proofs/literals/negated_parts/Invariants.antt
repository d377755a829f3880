use Rattle.std.specs.Prelude.{◌≡◌, ◌++◌, All, map, length, neg_ℤ, FitsSigned}
use Rattle.std.specs.Int.{w128}
use Rattle.grind_linear_forms.specs.declared.form.Part.{Part}
use Rattle.grind_differences.specs.Bounds.{negated_part}
use Rattle.grind_proof_kernel.proofs.literals.negated_parts.Given as goal

-- what is negated and what is left are the whole
abbrev pub invariant-loop-part : goal.invariant-loop-part
invariant-loop-part l = record {
  whole : l.others ++ map negated_part l.rest ≡ map negated_part l.fn.parts;
  fit : All (λ (part : Part). FitsSigned w128 (neg_ℤ part.coefficient)) l.rest;
}

abbrev pub decreases-loop-part : goal.decreases-loop-part
decreases-loop-part l = length l.rest
