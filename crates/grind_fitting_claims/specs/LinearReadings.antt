-- What a term is read as, as a linear form, where each number on the way keeps to a bound, or over whole numbers without bounds.
use Rattle.std.specs.Prelude.{◌≡◌, ◌≢◌, ◌⊎◌, ◌↔◌, ℕ, List, [], Some, ⊤, ℤ, pos, negsuc, ◌+ℤ◌, ◌*ℤ◌, FitsSigned}
use Rattle.std.specs.Int.{w128}
use Rattle.grind_term_graph.specs.declared.node.Node.{Node}
use Rattle.grind_term_graph.specs.Terms.{int, sort_at}
use Rattle.grind_reach.specs.Reached.{HaveEarlierArguments}
use Rattle.grind_linear_forms.specs.Forms.{FormData, number_form, node_form, IsForm}
use Rattle.grind_linear_forms.specs.Coefficients.{coefficient_at}
use Rattle.grind_differences.specs.Differences.{reading}
use Rattle.grind_fitting_claims.specs.Derivations.{IsRead}
use Rattle.grind_fitting_claims.specs.Results.{IsSumOf}

-- both numbers fit, and so does their sum
abbrev pub AdditionFits : (ℤ → Type 0) → ℤ → ℤ → Type 0
AdditionFits Fits x y = Fits x × Fits y × Fits (x +ℤ y)

-- so it is with the coefficients of two forms at each node, and with the constants
abbrev pub AdditionsFit : (ℤ → Type 0) → FormData → FormData → Type 0
AdditionsFit Fits a b =
    ((n : ℕ) → AdditionFits Fits (coefficient_at n a.parts) (coefficient_at n b.parts)) × AdditionFits Fits a.constant b.constant

-- the form is m times the other
pub record IsMultipleOf (m : ℤ) (a : FormData) (form : FormData) : Type 0 where
  pub is_form : IsForm form
  pub nodes : (n : ℕ) → coefficient_at n form.parts ≡ m *ℤ coefficient_at n a.parts
  pub constants : form.constant ≡ m *ℤ a.constant

-- m times each number of the form fits
abbrev pub MultipleFits : (ℤ → Type 0) → ℤ → FormData → Type 0
MultipleFits Fits m a = ((n : ℕ) → Fits (m *ℤ coefficient_at n a.parts)) × Fits (m *ℤ a.constant)

-- the form is that multiple, and it fits
abbrev pub IsFittingMultiple : (ℤ → Type 0) → ℤ → FormData → FormData → Type 0
IsFittingMultiple Fits m a form = MultipleFits Fits m a × IsMultipleOf m a form

-- the product of two forms, the node n: a multiple of the second where the first is a number, else a multiple of the first where the
-- second is one, else the node itself
abbrev pub IsProductOf : (ℤ → Type 0) → ℕ → FormData → FormData → FormData → Type 0
IsProductOf Fits n a b form =
    ((a.parts ≡ []) × IsFittingMultiple Fits a.constant b form)
    ⊎ (((a.parts ≢ []) × (b.parts ≡ []) × IsFittingMultiple Fits b.constant a form)
    ⊎ ((a.parts ≢ []) × (b.parts ≢ []) × (form ≡ node_form n)))

-- the term n is read as the form, and each number that is made on the way fits
abbrev pub IsReadAs : (ℤ → Type 0) → List Node → ℕ → FormData → Type 0
IsReadAs Fits nodes n form =
    IsRead (λ (number : ℤ) (made : FormData). made ≡ number_form number) (λ (m : ℕ) (made : FormData). made ≡ node_form m)
    (λ (left right made : FormData). AdditionsFit Fits left right × IsSumOf (pos 1) left (pos 1) right made)
    (λ (inner made : FormData). IsFittingMultiple Fits (negsuc 0) inner made) (IsProductOf Fits) nodes n form

-- any number fits
abbrev pub WithoutBounds : ℤ → Type 0
WithoutBounds number = ⊤

-- the reading of a term as a linear form is defined exactly where it is a whole number, is read so, and each number on the way fits in
-- 128 bits
abbrev pub LinearReadingsAreExact : Type 0
LinearReadingsAreExact =
    (nodes : List Node) → HaveEarlierArguments nodes → (n : ℕ) (form : FormData) →
    (reading nodes n ≡ Some form) ↔ ((sort_at nodes n ≡ Some int) × IsReadAs (FitsSigned w128) nodes n form)

-- over whole numbers without bounds a term is read as at most one form
abbrev pub LinearReadingsAreOne : Type 0
LinearReadingsAreOne =
    (nodes : List Node) (n : ℕ) (one other : FormData) → IsReadAs WithoutBounds nodes n one → IsReadAs WithoutBounds nodes n other → one ≡ other

-- what is read where each number on the way fits is so read without bounds
abbrev pub BoundsOnlyRefuse : Type 0
BoundsOnlyRefuse =
    (nodes : List Node) (n : ℕ) (form : FormData) → IsReadAs (FitsSigned w128) nodes n form → IsReadAs WithoutBounds nodes n form
