-- Multiples and sums of linear forms, where each number on the way fits in 128 bits.
use Rattle.std.specs.Prelude.{ℕ, zero, suc, List, [], ◌∷◌, ◌++◌, Option, Some, None, nat_lt, if◌then◌else◌, ℤ, pos, negsuc, ◌+ℤ◌, ◌*ℤ◌}
use Rattle.std.specs.Option.{option_map, option_and_then}
use Rattle.grind_linear_forms.specs.declared.form.Part.{Part}
use Rattle.grind_linear_forms.specs.Forms.{FormData, form_data, part_of, fit}

-- m times x, where that fits
unfoldable pub multiple : ℤ → ℤ → Option ℤ
multiple m x = fit (m *ℤ x)

-- m times x and k times y, added: both products fit, and their sum does
unfoldable pub combination : ℤ → ℤ → ℤ → ℤ → Option ℤ
combination m x k y = option_and_then (λ p. option_and_then (λ q. fit (p +ℤ q)) (multiple k y)) (multiple m x)

-- a node with its coefficient before other parts; a coefficient of 0 is left out
abbrev pub in_front : ℕ → ℤ → List Part → List Part
in_front node (pos zero) rest = rest
in_front node (pos (suc n)) rest = part_of node (pos (suc n)) ∷ rest
in_front node (negsuc n) rest = part_of node (negsuc n) ∷ rest

-- the same, where coefficient and parts are defined
abbrev pub front : ℕ → Option ℤ → Option (List Part) → Option (List Part)
front node None rest = None
front node (Some coefficient) rest = option_map (in_front node coefficient) rest

-- the parts taken m times
unfoldable pub multiplied : ℤ → List Part → Option (List Part)
multiplied m [] = Some []
multiplied m (x ∷ xs) = front x.node (multiple m x.coefficient) (multiplied m xs)

-- the part x taken m times, merged with the parts ys taken k times, where others of either kind are merged by `next`
unfoldable pub merged_from : ℤ → Part → ℤ → (List Part → Option (List Part)) → List Part → Option (List Part)
merged_from m x k next [] = front x.node (multiple m x.coefficient) (next [])
merged_from m x k next (y ∷ ys) =
    if nat_lt x.node y.node then front x.node (multiple m x.coefficient) (next (y ∷ ys))
    else if nat_lt y.node x.node then front y.node (multiple k y.coefficient) (merged_from m x k next ys)
    else front x.node (combination m x.coefficient k y.coefficient) (next ys)

-- the parts xs taken m times and the parts ys taken k times, merged by node
unfoldable pub merged : ℤ → List Part → ℤ → List Part → Option (List Part)
merged m [] k ys = multiplied k ys
merged m (x ∷ xs) k ys = merged_from m x k (merged m xs k) ys

-- the parts after those that are done
unfoldable pub behind : List Part → Option (List Part) → Option (List Part)
behind done rest = option_map (λ parts. done ++ parts) rest

-- the form of these parts, where parts and constant are defined
abbrev pub both : Option (List Part) → Option ℤ → Option FormData
both None constant = None
both (Some parts) constant = option_map (form_data parts) constant

-- the form a taken m times
abbrev pub scaled_form : ℤ → FormData → Option FormData
scaled_form m a = both (multiplied m a.parts) (multiple m a.constant)

-- the form a taken m times and the form b taken k times, added
abbrev pub scaled_sum : FormData → ℤ → FormData → ℤ → Option FormData
scaled_sum a m b k = both (merged m a.parts k b.parts) (combination m a.constant k b.constant)
