-- Worked cases: assumptions that are opposite, and one that is not.
use Rattle.std.specs.Prelude.{◌≡◌, ℤ, pos, ◌≤ℤ◌, refl}
use Rattle.std.proofs.Common.{sym, ap, subst}
use Rattle.grind_linear_forms.specs.Forms.{number_form}
use Rattle.grind_claims.specs.declared.claim.Claim.{Claim}
use Rattle.grind_claims.specs.declared.claim.Claim.TheVariants.{AtMost}
use Rattle.grind_proof_kernel.specs.Literals.{AreOpposite}

-- the constant of the bound that a claim is
constant_of_claim : Claim → ℤ
constant_of_claim (AtMost form) = form.constant
constant_of_claim _ = pos 0

-- a branch that bounds 0 and one that bounds 1 less 0 are a pair, and a branch is no pair with itself
pub opposite_bounds : AreOpposite (AtMost (number_form (pos 0))) (AtMost (number_form (pos 1)))
opposite_bounds = refl

pub no_opposite_of_itself : AreOpposite (AtMost (number_form (pos 0))) (AtMost (number_form (pos 0))) → ⊥
unfolding constant_of_claim
no_opposite_of_itself e =
    let given : pos 0 ≡ pos 1 = ap constant_of_claim e in
    (subst (λ (z : ℤ). pos 1 ≤ℤ z) (sym given) (record { le = tt })).le
