-- The bound by which a comparison is read. No public clause cites these words.
use Rattle.std.specs.Prelude.{◌≡◌, ℕ, List, Some, pos, FitsSigned}
use Rattle.std.specs.Int.{w128}
use Rattle.grind_term_graph.specs.declared.node.Node.{Node}
use Rattle.grind_linear_forms.specs.Forms.{FormData}
use Rattle.grind_differences.specs.Differences.{difference, IsDifferencePlus}
use Rattle.grind_arithmetic_rules.specs.LinearRules.{Compares}

-- the node is a comparison, and the form the difference of its sides
abbrev pub IsHeldBound : List Node → ℕ → FormData → Type 0
IsHeldBound nodes n form = Compares nodes n (λ a b. difference nodes a b ≡ Some form)

-- the node is a comparison, and the form the opposite difference and 1, which fits
abbrev pub IsFailedBound : List Node → ℕ → FormData → Type 0
IsFailedBound nodes n form = Compares nodes n (λ a b. IsDifferencePlus nodes b a (pos 1) form) × FitsSigned w128 form.constant
