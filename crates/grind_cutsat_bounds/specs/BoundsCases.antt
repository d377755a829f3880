-- Worked cases of bounds and of the number nearest to 0.
use Rattle.std.specs.Prelude.{◌≡◌, ℕ, ◌^◌, nat_eq, if◌then◌else◌, [], ◌∷◌, Some, None, ℤ, pos, negsuc, refl}
use Rattle.grind_linear_forms.specs.Forms.{part_of, fit}
use Rattle.grind_cutsat_bounds.specs.Evaluations.{evaluated}
use Rattle.grind_cutsat_bounds.specs.Nearest.{distance}

-- the nodes 2 and 3 have the values 5 and -2, every other 0
abbrev values : ℕ → ℤ
values n = if nat_eq n 2 then pos 5 else if nat_eq n 3 then negsuc 1 else pos 0

-- `2x + 3y + 1` comes to 5
pub comes_to_five : evaluated values (pos 1) (part_of 2 (pos 2) ∷ part_of 3 (pos 3) ∷ []) ≡ Some (pos 5)
unfolding fit
comes_to_five = refl

-- `2^126 * x` does not fit where x is 5
pub does_not_fit : evaluated values (pos 0) (part_of 2 (pos (2 ^ 126)) ∷ []) ≡ None
unfolding fit
does_not_fit = refl

-- -3 is as far from 0 as 3
pub as_far : distance (negsuc 2) ≡ distance (pos 3)
as_far = refl
