-- Linear forms by the coefficients of nodes.
use Rattle.std.specs.Prelude.{◌≡◌, ◌⊎◌, ℕ, List, [], ◌∷◌, Some, None, nat_eq, if◌then◌else◌, ℤ, pos}
use Rattle.grind_linear_forms.specs.declared.form.Part.{Part}
use Rattle.grind_linear_forms.specs.Forms.{FormData, IsForm}
use Rattle.grind_linear_forms.specs.Sums.{combination, scaled_sum}

-- the coefficient of the node, which is 0 where no part has it
abbrev pub coefficient_at : ℕ → List Part → ℤ
coefficient_at n [] = pos 0
coefficient_at n (part ∷ rest) = if nat_eq part.node n then part.coefficient else coefficient_at n rest

-- a sum of multiples has at each node the combination of the coefficients there, and that of the constants
abbrev pub SumsByNode : Type 0
SumsByNode =
    (a b sum : FormData) (m k : ℤ) → IsForm a → IsForm b → scaled_sum a m b k ≡ Some sum →
    ((n : ℕ) → combination m (coefficient_at n a.parts) k (coefficient_at n b.parts) ≡ Some (coefficient_at n sum.parts))
    × (combination m a.constant k b.constant ≡ Some sum.constant)

-- where there is none, at some node or for the constants there is no such combination
abbrev pub RefusalsByNode : Type 0
RefusalsByNode =
    (a b : FormData) (m k : ℤ) → IsForm a → IsForm b → scaled_sum a m b k ≡ None →
    ((n : ℕ) × (combination m (coefficient_at n a.parts) k (coefficient_at n b.parts) ≡ None))
    ⊎ (combination m a.constant k b.constant ≡ None)

-- two forms with the same coefficients and the same constant are one
abbrev pub FormsByNode : Type 0
FormsByNode =
    (a b : FormData) → IsForm a → IsForm b → ((n : ℕ) → coefficient_at n a.parts ≡ coefficient_at n b.parts) →
    a.constant ≡ b.constant → a ≡ b
