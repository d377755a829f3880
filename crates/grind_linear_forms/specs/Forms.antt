-- Linear forms: sums of nodes with coefficients, and a constant.
use Rattle.std.specs.Prelude.{◌≢◌, ℕ, suc, ◌≤◌, ◌^◌, List, [], ◌∷◌, Option, Some, None, nat_lt, if◌then◌else◌, ⊤, ℤ, pos, negsuc}
use Rattle.grind_linear_forms.specs.declared.form.Part.{Part}

-- a linear form: the nodes with their coefficients, and what is added to them
pub record FormData : Type 0 where
  pub parts : List Part
  pub constant : ℤ

-- the form of these parts
abbrev pub form_data : List Part → ℤ → FormData
form_data parts constant = record { parts = parts; constant = constant }

-- the node with this coefficient
abbrev pub part_of : ℕ → ℤ → Part
part_of node coefficient = record { coefficient = coefficient; node = node }

-- no coefficient is 0, and the nodes rise strictly, from this one on
abbrev pub RisesFrom : ℕ → List Part → Type 0
RisesFrom least [] = ⊤
RisesFrom least (part ∷ rest) = (least ≤ part.node) × (part.coefficient ≢ pos 0) × RisesFrom (suc part.node) rest

-- what every linear form keeps
abbrev pub IsForm : FormData → Type 0
IsForm form = RisesFrom 0 form.parts

-- the number as a form
abbrev pub number_form : ℤ → FormData
number_form number = form_data [] number

-- the node as a form, once and with nothing added
abbrev pub node_form : ℕ → FormData
node_form node = form_data (part_of node (pos 1) ∷ []) (pos 0)

-- the number, where it fits in 128 bits
unfoldable pub fit : ℤ → Option ℤ
fit (pos n) = if nat_lt n (2 ^ 127) then Some (pos n) else None
fit (negsuc n) = if nat_lt n (2 ^ 127) then Some (negsuc n) else None
