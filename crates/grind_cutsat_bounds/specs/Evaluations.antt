-- What linear forms come to at values of their nodes, worked out from left to right in numbers of 128 bits.
use Rattle.std.specs.Prelude.{ℕ, List, [], ◌∷◌, Option, Some, slice_index_or, ℤ, pos, ◌+ℤ◌, ◌*ℤ◌}
use Rattle.std.specs.Option.{option_and_then}
use Rattle.grind_linear_forms.specs.declared.form.Part.{Part}
use Rattle.grind_linear_forms.specs.Forms.{fit}

-- the value of a node, where the values are listed in the order of the nodes; 0 past the end
abbrev pub value_of : List ℤ → ℕ → ℤ
value_of values n = slice_index_or values n (pos 0)

-- a sum and the part's coefficient times the value of its node: the product fits, and then the sum does
abbrev pub with_part : (ℕ → ℤ) → ℤ → Part → Option ℤ
with_part v sum part = option_and_then (λ product. fit (sum +ℤ product)) (fit (part.coefficient *ℤ v part.node))

-- a number and then parts, one after the other
abbrev pub evaluated : (ℕ → ℤ) → ℤ → List Part → Option ℤ
evaluated v sum [] = Some sum
evaluated v sum (part ∷ parts) = option_and_then (λ next. evaluated v next parts) (with_part v sum part)
