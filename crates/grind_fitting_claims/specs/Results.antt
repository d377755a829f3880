-- Which claim a rule would allow over whole numbers without bounds, and where that claim fits in 128 bits. Each product and each sum
-- on the way has to fit too: the number -1 less the number -2^127 is 2^127 - 1, which fits, but -1 times the second does not.
use Rattle.std.specs.Prelude.{◌≡◌, ◌↔◌, ◌⊎◌, ℕ, List, [], ◌∷◌, Option, Some, All, ⊤, ℤ, pos, negsuc, ◌+ℤ◌, ◌*ℤ◌, ◌≤ℤ◌, ◌<ℤ◌, FitsSigned}
use Rattle.std.specs.Int.{w128}
use Rattle.grind_term_graph.specs.declared.node.Node.{Node}
use Rattle.grind_schemes.specs.Goals.{GoalData}
use Rattle.grind_schemes.specs.declared.lemmas.Lemmas.{Lemmas}
use Rattle.grind_linear_forms.specs.Forms.{FormData, IsForm}
use Rattle.grind_linear_forms.specs.Coefficients.{coefficient_at}
use Rattle.grind_linear_forms.specs.Cuts.{IsCut}
use Rattle.grind_polynomials.specs.Polynomials.{IsPoly}
use Rattle.grind_differences.specs.Bounds.{plus}
use Rattle.grind_differences.specs.Differences.{reading, difference}
use Rattle.grind_claims.specs.declared.claim.Claim.{Claim}
use Rattle.grind_claims.specs.declared.claim.Claim.TheVariants.{Holds, Fails, Same, Differ, AtMost, Zero, Absurd}
use Rattle.grind_claims.specs.declared.proof.Rule.TheVariants as rules
use Rattle.grind_arithmetic_rules.specs.LinearRules.{Compares, taken}
use Rattle.grind_rules.specs.Rules.{RuleAllows}

-- ---- what a rule allows, and its result

-- a rule allows a claim exactly where there is a result that fits and says it, and there is at most one result
pub record AllowsResult {R : Type 0} (IsResult : R → Type 0) (Fits : R → Type 0) (Says : R → Claim → Type 0) (Allows : Claim → Type 0) : Type 0 where
  pub exact : (claim : Claim) → Allows claim ↔ ((it : R) × IsResult it × Fits it × Says it claim)
  pub one : (it other : R) → IsResult it → IsResult other → it ≡ other

-- ---- sums of forms

-- the form is m times the one and k times the other, added
pub record IsSumOf (m : ℤ) (a : FormData) (k : ℤ) (b : FormData) (form : FormData) : Type 0 where
  pub is_form : IsForm form
  pub nodes : (n : ℕ) → coefficient_at n form.parts ≡ m *ℤ coefficient_at n a.parts +ℤ k *ℤ coefficient_at n b.parts
  pub constants : form.constant ≡ m *ℤ a.constant +ℤ k *ℤ b.constant

-- m times x fits, k times y does, and so does their sum
abbrev pub CombinationFits : ℤ → ℤ → ℤ → ℤ → Type 0
CombinationFits m x k y = FitsSigned w128 (m *ℤ x) × FitsSigned w128 (k *ℤ y) × FitsSigned w128 (m *ℤ x +ℤ k *ℤ y)

-- so it is with the coefficients at each node, and with the constants
abbrev pub SumFits : ℤ → FormData → ℤ → FormData → Type 0
SumFits m a k b =
    ((n : ℕ) → CombinationFits m (coefficient_at n a.parts) k (coefficient_at n b.parts)) × CombinationFits m a.constant k b.constant

-- ---- differences: `line`, `read`, `strict`

-- two readings, the first less the second, and a number that is added
pub record Difference : Type 0 where
  pub left : FormData
  pub right : FormData
  pub form : FormData
  pub number : ℤ

-- those of two whole numbers of the table
pub record IsDifferenceOf (table : List Node) (a b : ℕ) (it : Difference) : Type 0 where
  pub left_is : reading table a ≡ Some it.left
  pub right_is : reading table b ≡ Some it.right
  pub form_is : IsSumOf (pos 1) it.left (negsuc 0) it.right it.form

-- each number on the way fits
abbrev pub DifferenceFits : Difference → Type 0
DifferenceFits it = SumFits (pos 1) it.left (negsuc 0) it.right × FitsSigned w128 (it.form.constant +ℤ it.number)

-- it is at most 0
abbrev pub SaysBound : Difference → Claim → Type 0
SaysBound it claim = claim ≡ AtMost (plus it.form it.number)

-- line: the difference of two whole numbers that are equal
abbrev pub IsLineResult : List Node → List Claim → Difference → Type 0
IsLineResult nodes premises it =
    (a : ℕ) × (b : ℕ) × (premises ≡ Same a b ∷ []) × IsDifferenceOf nodes a b it × (it.number ≡ pos 0)

-- read: where a comparison holds, the difference of its sides; where it fails, the opposite difference and 1
abbrev pub IsReadResult : List Node → List Claim → Difference → Type 0
IsReadResult nodes premises it =
    ((n : ℕ) × (premises ≡ Holds n ∷ []) × Compares nodes n (λ a b. IsDifferenceOf nodes a b it) × (it.number ≡ pos 0))
    ⊎ ((n : ℕ) × (premises ≡ Fails n ∷ []) × Compares nodes n (λ a b. IsDifferenceOf nodes b a it) × (it.number ≡ pos 1))

-- strict: the premise that bounds the difference of two whole numbers that are different
abbrev pub IsStrictResult : List Node → List Claim → FormData → Type 0
IsStrictResult nodes premises form = (a : ℕ) × (b : ℕ)
    × (premises ≡ Differ a b ∷ AtMost form ∷ []) × ((difference nodes a b ≡ Some form) ⊎ (difference nodes b a ≡ Some form))

-- that and 1 fits
abbrev pub StrictFits : FormData → Type 0
StrictFits form = FitsSigned w128 (form.constant +ℤ pos 1)

-- that and 1 is at most 0
abbrev pub SaysStrict : FormData → Claim → Type 0
SaysStrict form claim = claim ≡ AtMost (plus form (pos 1))

-- ---- combinations: `combine`

-- what the premises give, each taken so often
abbrev pub AreTaken : List ℤ → List Claim → List FormData → Type 0
AreTaken [] [] [] = ⊤
AreTaken [] [] (form ∷ forms) = ⊥
AreTaken [] (premise ∷ premises) forms = ⊥
AreTaken (factor ∷ factors) [] forms = ⊥
AreTaken (factor ∷ factors) (premise ∷ premises) [] = ⊥
AreTaken (factor ∷ factors) (premise ∷ premises) (form ∷ forms) =
    (taken factor premise ≡ Some form) × AreTaken factors premises forms

-- a number of each form, each taken so often, added
abbrev pub total : (FormData → ℤ) → List ℤ → List FormData → ℤ
total number [] forms = pos 0
total number (factor ∷ factors) [] = pos 0
total number (factor ∷ factors) (form ∷ forms) = factor *ℤ number form +ℤ total number factors forms

-- after a sum, each of these products fits, and each sum up to there
abbrev pub SumsFit : (FormData → ℤ) → ℤ → List ℤ → List FormData → Type 0
SumsFit number sum [] forms = ⊤
SumsFit number sum (factor ∷ factors) [] = ⊤
SumsFit number sum (factor ∷ factors) (form ∷ forms) =
    FitsSigned w128 (factor *ℤ number form) × FitsSigned w128 (sum +ℤ factor *ℤ number form)
    × SumsFit number (sum +ℤ factor *ℤ number form) factors forms

-- the coefficient of a node in a form
abbrev pub at_node : ℕ → FormData → ℤ
at_node n form = coefficient_at n form.parts

-- the constant of a form
abbrev pub constant_in : FormData → ℤ
constant_in form = form.constant

-- what the premises give, their sum, each taken so often, and that divided
pub record Combined : Type 0 where
  pub forms : List FormData
  pub sum : FormData
  pub cut : FormData

-- combine: the sum of the premises, each so often, divided by a positive number that divides its coefficients
pub record IsCombineResult (divisor : ℤ) (factors : List ℤ) (premises : List Claim) (it : Combined) : Type 0 where
  pub forms_are : AreTaken factors premises it.forms
  pub sum_is_form : IsForm it.sum
  pub nodes : (n : ℕ) → at_node n it.sum ≡ total (at_node n) factors it.forms
  pub constants : it.sum.constant ≡ total constant_in factors it.forms
  pub positive : pos 0 <ℤ divisor
  pub cut_is : IsCut it.sum divisor it.cut

-- each number on the way fits
abbrev pub CombineFits : List ℤ → Combined → Type 0
CombineFits factors it =
    ((n : ℕ) → SumsFit (at_node n) (pos 0) factors it.forms) × SumsFit constant_in (pos 0) factors it.forms

-- that, or a lower constant in its place, is at most 0
abbrev pub SaysAtMost : Combined → Claim → Type 0
SaysAtMost it claim =
    (form : FormData) × (claim ≡ AtMost form) × (form.parts ≡ it.cut.parts) × (form.constant ≤ℤ it.cut.constant)

-- a claim that lines can make: its form is one, and so is its polynomial
abbrev pub IsWellMade : Claim → Type 0
IsWellMade (AtMost form) = IsForm form
IsWellMade (Zero poly) = IsPoly poly
IsWellMade (Holds n) = ⊤
IsWellMade (Fails n) = ⊤
IsWellMade (Same a b) = ⊤
IsWellMade (Differ a b) = ⊤
IsWellMade Absurd = ⊤

-- ---- the laws

-- the difference of two terms is defined exactly where their readings are and each number on the way fits, and it is that difference
abbrev pub DifferencesAreExact : Type 0
DifferencesAreExact =
    (nodes : List Node) (a b : ℕ) (form : FormData) →
    (difference nodes a b ≡ Some form)
    ↔ ((it : Difference) × IsDifferenceOf nodes a b it × SumFits (pos 1) it.left (negsuc 0) it.right × (form ≡ it.form))

-- `line` allows exactly its result, where each number on the way fits
abbrev pub LineAllowsItsResult : Type 0
LineAllowsItsResult =
    (lemmas : Lemmas) (goal : GoalData) (nodes : List Node) (literal : Option Claim) (premises : List Claim) →
    AllowsResult (IsLineResult nodes premises) DifferenceFits SaysBound (RuleAllows lemmas goal nodes literal rules.Line premises)

-- `read` allows exactly its result, where each number on the way fits
abbrev pub ReadAllowsItsResult : Type 0
ReadAllowsItsResult =
    (lemmas : Lemmas) (goal : GoalData) (nodes : List Node) (literal : Option Claim) (premises : List Claim) →
    AllowsResult (IsReadResult nodes premises) DifferenceFits SaysBound (RuleAllows lemmas goal nodes literal rules.Read premises)

-- `strict` allows exactly its result, where the bound and 1 fits
abbrev pub StrictAllowsItsResult : Type 0
StrictAllowsItsResult =
    (lemmas : Lemmas) (goal : GoalData) (nodes : List Node) (literal : Option Claim) (premises : List Claim) →
    AllowsResult (IsStrictResult nodes premises) StrictFits SaysStrict (RuleAllows lemmas goal nodes literal rules.Strict premises)

-- `combine` allows exactly its result and each bound with a lower constant, where each number on the way fits
abbrev pub CombineAllowsItsResult : Type 0
CombineAllowsItsResult =
    (lemmas : Lemmas) (goal : GoalData) (nodes : List Node) (literal : Option Claim) (divisor : ℤ) (factors : List ℤ) (premises : List Claim) →
    All IsWellMade premises →
    AllowsResult (IsCombineResult divisor factors premises) (CombineFits factors) SaysAtMost
    (RuleAllows lemmas goal nodes literal (rules.Combine divisor factors) premises)
