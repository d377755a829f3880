-- Claims whose readings do not fit, one by one. No public clause cites these words.
use Rattle.std.specs.Prelude.{◌≡◌, ◌⊎◌, ℕ, List, [], ◌∷◌, Some, None, ℤ, pos, ◌+ℤ◌, FitsSigned}
use Rattle.std.specs.Int.{w128}
use Rattle.grind_term_graph.specs.declared.node.Node.{Node}
use Rattle.grind_term_graph.specs.Terms.{int, sort_at}
use Rattle.grind_linear_forms.specs.declared.form.Part.{Part}
use Rattle.grind_linear_forms.specs.Forms.{FormData, number_form}
use Rattle.grind_polynomials.specs.declared.poly.Term.{Term}
use Rattle.grind_differences.specs.Differences.{difference}
use Rattle.grind_differences.specs.Equations.{form_of}
use Rattle.grind_arithmetic_rules.specs.LinearRules.{IsComparison, combined}
use Rattle.grind_claims.specs.declared.claim.Claim.{Claim}
use Rattle.grind_claims.specs.declared.claim.Claim.TheVariants.{Holds, Fails, Same, Differ, AtMost, Zero, Absurd}
use Rattle.grind_cutsat_units.specs.Equations.{IsSign}
use Rattle.grind_cutsat_units.specs.Cuts.{IsDivisor, FailToCombine}

-- the difference of the two and 1 does not fit
abbrev pub HasNoNext : List Node → ℕ → ℕ → Type 0
HasNoNext nodes a b = (difference nodes a b ≡ None)
    ⊎ ((base : FormData) × (difference nodes a b ≡ Some base) × (FitsSigned w128 (base.constant +ℤ pos 1) → ⊥))

-- the node compares two, and the difference of the two does not fit
abbrev pub IsUnreadHeld : List Node → ℕ → Type 0
IsUnreadHeld nodes n = (a : ℕ) × (b : ℕ) × IsComparison nodes n a b × (difference nodes a b ≡ None)

-- the node compares two, and the opposite difference of the two and 1 does not fit
abbrev pub IsUnreadFailed : List Node → ℕ → Type 0
IsUnreadFailed nodes n = (a : ℕ) × (b : ℕ) × IsComparison nodes n a b × HasNoNext nodes b a

-- the two are whole numbers, and a difference of them does not fit
abbrev pub IsUnreadSame : List Node → ℕ → ℕ → Type 0
IsUnreadSame nodes a b = (sort_at nodes a ≡ Some int) × ((difference nodes a b ≡ None) ⊎ (difference nodes b a ≡ None))

-- the equation, taken with this factor, does not fit
abbrev pub IsUnreadSigned : List Term → ℤ → Type 0
IsUnreadSigned poly factor = combined (number_form (pos 0)) (factor ∷ []) (Zero poly ∷ []) ≡ None

-- the equation is of degree at most 1, and with one of the factors it does not fit
abbrev pub IsUnreadZero : List Term → Type 0
IsUnreadZero poly = (base : FormData) × (factor : ℤ) × (form_of poly ≡ Some base) × IsSign factor × IsUnreadSigned poly factor

-- the reading of the claim, or its cut, does not fit
abbrev pub IsUnread : List Node → Claim → Type 0
IsUnread nodes (Holds n) = IsUnreadHeld nodes n
IsUnread nodes (Fails n) = IsUnreadFailed nodes n
IsUnread nodes (Same a b) = IsUnreadSame nodes a b
IsUnread nodes (Differ a b) = ⊥
IsUnread nodes (AtMost form) = FailToCombine (pos 1 ∷ []) (AtMost form ∷ [])
IsUnread nodes (Zero poly) = IsUnreadZero poly
IsUnread nodes Absurd = ⊥

-- the greatest common divisor of the coefficients does not fit
abbrev pub HasUnfitDivisor : List Part → Type 0
HasUnfitDivisor parts = (g : ℤ) × IsDivisor parts g × (FitsSigned w128 g → ⊥)
