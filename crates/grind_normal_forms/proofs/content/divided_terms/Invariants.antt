use Rattle.std.specs.Prelude.{◌≡◌, ◌++◌, length}
use Rattle.grind_normal_forms.specs.Reduction.{terms_by}
use Rattle.grind_normal_forms.proofs.content.divided_terms.Given as goal

abbrev pub invariant-loop-term : goal.invariant-loop-term
invariant-loop-term l = l.all ++ terms_by l.fn.content l.rest ≡ terms_by l.fn.content l.fn.terms

abbrev pub decreases-loop-term : goal.decreases-loop-term
decreases-loop-term l = length l.rest
