-- What the values of the atoms say of terms that are said to differ. No public clause cites these words.
use Rattle.std.specs.Prelude.{◌≡◌, ◌≢◌, ◌⊎◌, ℕ, List, Option, Some, None, ℤ}
use Rattle.grind_term_graph.specs.declared.node.Node.{Node}
use Rattle.grind_linear_forms.specs.Forms.{FormData}
use Rattle.grind_claims.specs.declared.claim.Claim.{Claim}
use Rattle.grind_claims.specs.declared.claim.Claim.TheVariants.{Differ}
use Rattle.grind_cutsat_facts.specs.declared.facts.Fact.{Fact}
use Rattle.grind_cutsat_assignment.specs.declared.differences.Judgement.{Judgement}
use Rattle.grind_cutsat_assignment.specs.declared.differences.Judgement.TheVariants as judgements
use Rattle.grind_cutsat_assignment.specs.Given.{SaysDiffer}
use Rattle.grind_cutsat_assignment.specs.Assignments.{read_value}
use Rattle.grind_cutsat_assignment.specs.Walks.{IsInt, IsReadAt}

-- the reading of one of the two does not fit
abbrev pub AreUnfit : List Node → (ℕ → ℤ) → ℕ → ℕ → Type 0
AreUnfit nodes v a b = (read_value nodes v a ≡ None) ⊎ (read_value nodes v b ≡ None)

-- the readings of the two come to one number
abbrev pub AreEqual : List Node → (ℕ → ℤ) → ℕ → ℕ → Type 0
AreEqual nodes v a b = (value : ℤ) × (read_value nodes v a ≡ Some value) × (read_value nodes v b ≡ Some value)

-- or to different numbers
abbrev pub AreApart : List Node → (ℕ → ℤ) → ℕ → ℕ → Type 0
AreApart nodes v a b = (p : ℤ) × (q : ℤ) × (read_value nodes v a ≡ Some p) × (read_value nodes v b ≡ Some q) × (p ≢ q)

-- the claim says of two whole numbers that they differ, and this holds of them
abbrev pub Parts : List Node → Claim → (ℕ → ℕ → Type 0) → Type 0
Parts nodes claim P = (a : ℕ) × (b : ℕ) × (claim ≡ Differ a b) × IsInt nodes a × P a b

-- what is said of the claim
abbrev pub IsJudged : List Node → (ℕ → ℤ) → Claim → Judgement → Type 0
IsJudged nodes v claim judgements.Silent = (a b : ℕ) → claim ≡ Differ a b → ¬ IsInt nodes a
IsJudged nodes v claim judgements.Unfit = Parts nodes claim (AreUnfit nodes v)
IsJudged nodes v claim judgements.Equal = Parts nodes claim (AreEqual nodes v)
IsJudged nodes v claim judgements.Apart = Parts nodes claim (AreApart nodes v)

-- the readings stand there of whole numbers that the claim says differ
abbrev pub IsReadFor : List Node → List (Option FormData) → Claim → Type 0
IsReadFor nodes forms claim = (a b : ℕ) → claim ≡ Differ a b → IsInt nodes a → IsReadAt nodes forms a × IsReadAt nodes forms b

-- so it is of each fact
abbrev pub AreReadFor : List Node → List (Option FormData) → List Fact → Type 0
AreReadFor nodes forms facts =
    (post a b : ℕ) → SaysDiffer facts nodes post a b → IsReadAt nodes forms a × IsReadAt nodes forms b

-- a post says that two whole numbers differ of which this holds
abbrev pub SaysOf : List Fact → List Node → (ℕ → ℕ → Type 0) → ℕ → Type 0
SaysOf facts nodes P post = (a : ℕ) × (b : ℕ) × SaysDiffer facts nodes post a b × P a b

-- no post does
abbrev pub NoneSaysOf : List Fact → List Node → (ℕ → ℕ → Type 0) → Type 0
NoneSaysOf facts nodes P = (post a b : ℕ) → SaysDiffer facts nodes post a b → ¬ P a b
