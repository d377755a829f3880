-- What the rules over linear forms allow.
use Rattle.std.specs.Prelude.{◌≡◌, ℕ, List, [], ◌∷◌, ◌⊎◌, Option, Some, None, slice_get, ℤ, pos, negsuc, ◌+ℤ◌, ◌<ℤ◌, FitsSigned}
use Rattle.std.specs.Int.{w128}
use Rattle.std.specs.Option.{IsSomeAnd, option_and_then}
use Rattle.grind_term_graph.specs.declared.head.Head.TheVariants as head
use Rattle.grind_term_graph.specs.declared.node.Node.{Node}
use Rattle.grind_linear_forms.specs.Forms.{FormData, number_form}
use Rattle.grind_linear_forms.specs.Sums.{scaled_sum}
use Rattle.grind_claims.specs.declared.claim.Claim.{Claim}
use Rattle.grind_claims.specs.declared.claim.Claim.TheVariants.{Holds, Fails, Same, Differ, AtMost, Zero, Absurd}
use Rattle.grind_differences.specs.Bounds.{plus, IsWithinCut}
use Rattle.grind_differences.specs.Differences.{difference, IsDifferencePlus, IsDifferenceOver, AreApartByReading}
use Rattle.grind_differences.specs.Equations.{form_of}

-- the node says that the first is at most the second
abbrev pub IsComparison : List Node → ℕ → ℕ → ℕ → Type 0
IsComparison nodes node left right =
    IsSomeAnd (slice_get nodes node) (λ (it : Node). (it.head ≡ head.Le) × (it.args ≡ left ∷ right ∷ []))

-- where the node says that a is at most b, this holds of a and b
abbrev pub Compares : List Node → ℕ → (ℕ → ℕ → Type 0) → Type 0
Compares nodes n P = (a : ℕ) × (b : ℕ) × IsComparison nodes n a b × P a b

-- read: a comparison that holds bounds the difference of its sides, and one that fails the opposite difference and 1, which
-- fits
abbrev pub IsRead : List Node → List Claim → Claim → Type 0
IsRead nodes premises claim = (n : ℕ) × (form : FormData) × (claim ≡ AtMost form)
    × (((premises ≡ Holds n ∷ []) × Compares nodes n (λ a b. difference nodes a b ≡ Some form))
    ⊎ ((premises ≡ Fails n ∷ []) × Compares nodes n (λ a b. IsDifferencePlus nodes b a (pos 1) form)
    × FitsSigned w128 form.constant))

-- write: a comparison holds where the difference of its sides, or that and more, is at most 0; and it fails where the
-- opposite difference and 1 or more is
abbrev pub IsWrite : List Node → List Claim → Claim → Type 0
IsWrite nodes premises claim = (n : ℕ) × (form : FormData) × (premises ≡ AtMost form ∷ [])
    × (((claim ≡ Holds n) × Compares nodes n (λ a b. IsDifferenceOver nodes a b (pos 0) form))
    ⊎ ((claim ≡ Fails n) × Compares nodes n (λ a b. IsDifferenceOver nodes b a (pos 1) form)))

-- line: the difference of two whole numbers that are equal is at most 0
abbrev pub IsLine : List Node → List Claim → Claim → Type 0
IsLine nodes premises claim = (a : ℕ) × (b : ℕ) × (form : FormData)
    × (premises ≡ Same a b ∷ []) × (claim ≡ AtMost form) × (difference nodes a b ≡ Some form)

-- what a premise gives a combination that takes it so often: a bound is taken a number of times that is not negative, and
-- an equation of degree at most 1 any number of times
abbrev pub taken : ℤ → Claim → Option FormData
taken (pos times) (AtMost form) = Some form
taken (negsuc times) (AtMost form) = None
taken times (Zero poly) = form_of poly
taken times (Holds n) = None
taken times (Fails n) = None
taken times (Same a b) = None
taken times (Differ a b) = None
taken times Absurd = None

-- a form, and the premises after it, each so often, added from left to right
abbrev pub combined : FormData → List ℤ → List Claim → Option FormData
combined sum [] [] = Some sum
combined sum [] (premise ∷ premises) = None
combined sum (factor ∷ factors) [] = None
combined sum (factor ∷ factors) (premise ∷ premises) =
    option_and_then (λ next. combined next factors premises)
    (option_and_then (λ form. scaled_sum sum (pos 1) form factor) (taken factor premise))

-- combine: the sum of the premises, each so often, divided
abbrev pub IsCombine : ℤ → List ℤ → List Claim → Claim → Type 0
IsCombine divisor factors premises claim = (sum : FormData) × (form : FormData)
    × (combined (number_form (pos 0)) factors premises ≡ Some sum) × IsWithinCut sum divisor form × (claim ≡ AtMost form)

-- pinch: two whole numbers are equal where both differences are at most 0
abbrev pub IsPinch : List Node → List Claim → Claim → Type 0
IsPinch nodes premises claim = (a : ℕ) × (b : ℕ) × (form : FormData) × (opposite : FormData)
    × (premises ≡ AtMost form ∷ AtMost opposite ∷ []) × (claim ≡ Same a b)
    × (difference nodes a b ≡ Some form) × (difference nodes b a ≡ Some opposite)

-- strict: where two whole numbers are different and their difference is at most 0, so is the difference and 1, which fits
abbrev pub IsStrict : List Node → List Claim → Claim → Type 0
IsStrict nodes premises claim = (a : ℕ) × (b : ℕ) × (form : FormData)
    × (premises ≡ Differ a b ∷ AtMost form ∷ []) × (claim ≡ AtMost (plus form (pos 1)))
    × ((difference nodes a b ≡ Some form) ⊎ (difference nodes b a ≡ Some form)) × FitsSigned w128 (form.constant +ℤ pos 1)

-- the difference of the two, and 1 or more, is at most 0
abbrev pub IsBoundOver : List Node → Claim → ℕ → ℕ → Type 0
IsBoundOver nodes one a b = (form : FormData) × (one ≡ AtMost form) × IsDifferenceOver nodes a b (pos 1) form

-- the two are equal to two different terms
abbrev pub AreApartAlong : List Claim → ℕ → ℕ → Type 0
AreApartAlong premises a b = (c : ℕ) × (d : ℕ) × (premises ≡ Differ c d ∷ Same a c ∷ Same b d ∷ [])

-- the premises keep the two apart: their readings, where there are no premises; a bound; or two different terms
abbrev pub KeepApart : List Node → List Claim → ℕ → ℕ → Type 0
KeepApart nodes premises a b =
    ((premises ≡ []) × AreApartByReading nodes a b)
    ⊎ (((one : Claim) × (premises ≡ one ∷ []) × IsBoundOver nodes one a b) ⊎ AreApartAlong premises a b)

-- apart: two terms that the premises keep apart are different, in either order
abbrev pub IsApart : List Node → List Claim → Claim → Type 0
IsApart nodes premises claim = (a : ℕ) × (b : ℕ) × (claim ≡ Differ a b)
    × (KeepApart nodes premises a b ⊎ KeepApart nodes premises b a)

-- a number over 0 that is at most 0
abbrev pub IsTooGreat : Claim → Type 0
IsTooGreat one = (form : FormData) × (one ≡ AtMost form) × (form.parts ≡ []) × (pos 0 <ℤ form.constant)
