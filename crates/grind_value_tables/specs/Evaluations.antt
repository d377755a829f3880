-- What a form and a polynomial come to at a table of values, worked out from left to right in numbers of 128 bits.
use Rattle.std.specs.Prelude.{ℕ, List, [], ◌∷◌, Option, Some, ℤ, pos, ◌+ℤ◌, ◌*ℤ◌}
use Rattle.std.specs.Option.{option_and_then}
use Rattle.grind_linear_forms.specs.declared.form.Part.{Part}
use Rattle.grind_linear_forms.specs.Forms.{FormData, fit}
use Rattle.grind_polynomials.specs.declared.poly.Term.{Term}

-- what the steps along a list make of a number, where each step is defined
abbrev pub along : {X : Type 0} → (ℤ → X → Option ℤ) → ℤ → List X → Option ℤ
along step number [] = Some number
along step number (x ∷ xs) = option_and_then (λ next. along step next xs) (step number x)

-- a number times the value of a node, where that fits
abbrev pub times_node : (ℕ → ℤ) → ℤ → ℕ → Option ℤ
times_node v number n = fit (number *ℤ v n)

-- a sum and the part's coefficient times the value of its node: the product fits, and then the sum does
abbrev pub with_part : (ℕ → ℤ) → ℤ → Part → Option ℤ
with_part v sum part = option_and_then (λ product. fit (sum +ℤ product)) (times_node v part.coefficient part.node)

-- a form from its constant on, part by part
abbrev pub form_sum : (ℕ → ℤ) → FormData → Option ℤ
form_sum v form = along (with_part v) form.constant form.parts

-- a term from its coefficient on, node by node
abbrev pub term_product : (ℕ → ℤ) → Term → Option ℤ
term_product v term = along (times_node v) term.coefficient term.monomial

-- a sum and a term: the product fits at each node, and then the sum does
abbrev pub with_term : (ℕ → ℤ) → ℤ → Term → Option ℤ
with_term v sum term = option_and_then (λ product. fit (sum +ℤ product)) (term_product v term)

-- a polynomial from 0 on, term by term
abbrev pub poly_sum : (ℕ → ℤ) → List Term → Option ℤ
poly_sum v poly = along (with_term v) (pos 0) poly
