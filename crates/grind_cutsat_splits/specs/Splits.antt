-- Which split is wanted where the values fail, and which post does not fit.
use Rattle.std.specs.Prelude.{◌≡◌, ◌⊎◌, ℕ, List, None, Some, ℤ, neg_ℤ}
use Rattle.grind_term_graph.specs.declared.node.Node.{Node}
use Rattle.grind_linear_forms.specs.Forms.{FormData, node_form}
use Rattle.grind_differences.specs.Bounds.{plus, HasOpposite}
use Rattle.grind_differences.specs.Differences.{difference}
use Rattle.grind_cutsat_assignment.specs.Given.{Given}
use Rattle.grind_cutsat_assignment.specs.Assignments.{IsAssignment, NoAssignment, HasGap, IsUnfitBound, IsUnfitDiffer, MakesEqual}
use Rattle.grind_cutsat_splits.specs.declared.types.Verdict.{Verdict}
use Rattle.grind_cutsat_splits.specs.declared.types.Verdict.TheVariants as verdicts

-- the atom less the number
abbrev pub gap_form : ℕ → ℤ → FormData
gap_form n floor = plus (node_form n) (neg_ℤ floor)

-- the bounds of an atom enclose no whole number, and the form is the atom less the greatest number that its upper bounds allow
abbrev pub IsGapSplit : Given → FormData → Type 0
IsGapSplit it form = (n : ℕ) × (floor : ℤ) × HasGap it n floor × (form ≡ gap_form n floor) × HasOpposite form

-- the form is the difference of the two, and both it and its opposite fit
abbrev pub IsSplitOf : List Node → ℕ → ℕ → FormData → Type 0
IsSplitOf nodes a b form = (difference nodes a b ≡ Some form) × HasOpposite form

-- the difference of the two, or its opposite, does not fit
abbrev pub HasNoSplit : List Node → ℕ → ℕ → Type 0
HasNoSplit nodes a b = (difference nodes a b ≡ None)
    ⊎ ((form : FormData) × (difference nodes a b ≡ Some form) × (HasOpposite form → ⊥))

-- the values make equal two whole numbers that are said to differ, and the form is their difference
abbrev pub IsDifferSplit : Given → FormData → Type 0
IsDifferSplit it form = (post : ℕ) × (a : ℕ) × (b : ℕ) × MakesEqual it post a b × IsSplitOf it.nodes a b form

-- whether the form is at most 0 is wanted to be split on
abbrev pub IsWantedSplit : Given → FormData → Type 0
IsWantedSplit it form = IsGapSplit it form ⊎ IsDifferSplit it form

-- the values make equal two whole numbers that the post says differ, and the split that is wanted then does not fit
abbrev pub IsUnsplit : Given → ℕ → Type 0
IsUnsplit it post = (a : ℕ) × (b : ℕ) × MakesEqual it post a b × HasNoSplit it.nodes a b

-- the post does not fit: when it is evaluated, or as a split
abbrev pub IsUnfitPost : Given → ℕ → Type 0
IsUnfitPost it post = IsUnfitBound it post ⊎ (IsUnfitDiffer it post ⊎ IsUnsplit it post)

-- no post does not fit
abbrev pub NoneUnfit : Given → Type 0
NoneUnfit it = (post : ℕ) → ¬ IsUnfitPost it post

-- the assignment; or where there is none, the split that is wanted; or before either a post that does not fit
abbrev pub IsVerdict : Given → Verdict → Type 0
IsVerdict it (verdicts.Assigned list) = IsAssignment it list × NoneUnfit it
IsVerdict it (verdicts.Split form) = IsWantedSplit it form × NoAssignment it × NoneUnfit it
IsVerdict it (verdicts.Unfit post) = IsUnfitPost it post
