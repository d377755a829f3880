-- A linear form divided by a number that divides its coefficients.
use Rattle.std.specs.Prelude.{◌≡◌, List, All, map, ℤ, ◌*ℤ◌}
use Rattle.grind_lemmas.specs.Division.{IsMultiple}
use Rattle.grind_lemmas.specs.Rounding.{IsCeil}
use Rattle.grind_linear_forms.specs.declared.form.Part.{Part}
use Rattle.grind_linear_forms.specs.Forms.{FormData, part_of}

-- the number divides the coefficient of the part
abbrev pub Divides : ℤ → Part → Type 0
Divides g part = IsMultiple part.coefficient g

-- the number divides each coefficient
abbrev pub DividesAll : ℤ → List Part → Type 0
DividesAll g parts = All (Divides g) parts

-- the parts with each coefficient taken g times
abbrev pub times : ℤ → List Part → List Part
times g parts = map (λ (part : Part). part_of part.node (g *ℤ part.coefficient)) parts

-- the parts of the form are g times those of the cut, whose constant is that of the form divided by g, rounded up
pub record IsCut (form : FormData) (g : ℤ) (cut : FormData) : Type 0 where
  pub parts_of : form.parts ≡ times g cut.parts
  pub constant_of : IsCeil form.constant g cut.constant
