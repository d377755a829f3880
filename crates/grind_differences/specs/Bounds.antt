-- What linear forms say of each other as bounds.
use Rattle.std.specs.Prelude.{◌≡◌, All, map, ℤ, pos, ◌+ℤ◌, neg_ℤ, ◌≤ℤ◌, ◌<ℤ◌, FitsSigned}
use Rattle.std.specs.Int.{w128}
use Rattle.grind_linear_forms.specs.declared.form.Part.{Part}
use Rattle.grind_linear_forms.specs.Forms.{FormData, form_data, part_of}
use Rattle.grind_linear_forms.specs.Cuts.{IsCut}

-- the part with its coefficient negated
abbrev pub negated_part : Part → Part
negated_part part = part_of part.node (neg_ℤ part.coefficient)

-- 1 less the form. Of whole numbers, this is at most 0 exactly where the form is not
abbrev pub opposite_form : FormData → FormData
opposite_form form = form_data (map negated_part form.parts) (pos 1 +ℤ neg_ℤ form.constant)

-- the form has an opposite: each number of 1 less the form fits in 128 bits
abbrev pub HasOpposite : FormData → Type 0
HasOpposite form =
    All (λ (part : Part). FitsSigned w128 (neg_ℤ part.coefficient)) form.parts × FitsSigned w128 (pos 1 +ℤ neg_ℤ form.constant)

-- the form with a number added
abbrev pub plus : FormData → ℤ → FormData
plus form number = form_data form.parts (form.constant +ℤ number)

-- the form is the other with a number added that is at least this one
abbrev pub IsOver : FormData → ℤ → FormData → Type 0
IsOver base least form = (form.parts ≡ base.parts) × ((base.constant +ℤ least) ≤ℤ form.constant)

-- a positive number divides the coefficients of the sum; the form has the quotients, and a constant that is at most that of
-- the sum divided by the number, rounded up
abbrev pub IsWithinCut : FormData → ℤ → FormData → Type 0
IsWithinCut sum divisor form = (cut : FormData) × (pos 0 <ℤ divisor) × IsCut sum divisor cut
    × (form.parts ≡ cut.parts) × (form.constant ≤ℤ cut.constant)
