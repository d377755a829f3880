-- Worked cases of covering.
use Rattle.std.specs.Prelude.{[], ◌∷◌, ℤ, pos, negsuc, refl}
use Rattle.grind_linear_forms.specs.Forms.{FormData, form_data, part_of, number_form}
use Rattle.grind_claims.specs.declared.claim.Claim.TheVariants.{AtMost}
use Rattle.grind_cutsat_facts.specs.Covering.{Covers, SaysNothing}

-- the node 2, so often, and a number
abbrev of_x : ℤ → ℤ → FormData
of_x coefficient constant = form_data (part_of 2 coefficient ∷ []) constant

-- `x + 3` at most 0 covers `x + 1` at most 0, and not `x + 4` at most 0, nor `2x + 1` at most 0
pub stricter_covers : Covers (AtMost (of_x (pos 1) (pos 3))) (of_x (pos 1) (pos 1))
stricter_covers = (of_x (pos 1) (pos 3), refl, (refl, record { le = tt }))

-- a number of at most 0 is covered by nothing at all, and one over 0 is not
pub minus_two_says_nothing : SaysNothing (number_form (negsuc 1))
minus_two_says_nothing = (refl, record { le = tt })

pub one_says_something : SaysNothing (number_form (pos 1)) → ⊥
one_says_something h = h.1.le
