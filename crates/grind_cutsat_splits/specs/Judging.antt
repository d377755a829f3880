-- What the values make of claims that two whole numbers differ. No public clause cites these words.
use Rattle.std.specs.Prelude.{◌≡◌, ◌⊎◌, ℕ, List, ℤ}
use Rattle.grind_term_graph.specs.declared.node.Node.{Node}
use Rattle.grind_linear_forms.specs.Forms.{FormData}
use Rattle.grind_claims.specs.declared.claim.Claim.{Claim}
use Rattle.grind_claims.specs.declared.claim.Claim.TheVariants.{Differ}
use Rattle.grind_cutsat_facts.specs.declared.facts.Fact.{Fact}
use Rattle.grind_cutsat_facts.specs.Facts.{IsSaid}
use Rattle.grind_cutsat_assignment.specs.Walks.{IsInt}
use Rattle.grind_cutsat_assignment.specs.Judgements.{AreUnfit, AreEqual, AreApart, Parts}
use Rattle.grind_cutsat_splits.specs.Splits.{IsSplitOf, HasNoSplit}
use Rattle.grind_cutsat_splits.specs.declared.judging.Judgement.{Judgement}
use Rattle.grind_cutsat_splits.specs.declared.judging.Judgement.TheVariants as judgements

-- the two do not fit: when they are evaluated, or as a split
abbrev pub AreAmiss : List Node → (ℕ → ℤ) → ℕ → ℕ → Type 0
AreAmiss nodes v a b = AreUnfit nodes v a b ⊎ (AreEqual nodes v a b × HasNoSplit nodes a b)

-- the values make them equal, and they can be split by this form
abbrev pub AreToSplit : List Node → (ℕ → ℤ) → FormData → ℕ → ℕ → Type 0
AreToSplit nodes v form a b = AreEqual nodes v a b × IsSplitOf nodes a b form

-- what is said of the two
abbrev pub AreJudged : List Node → (ℕ → ℤ) → ℕ → ℕ → Judgement → Type 0
AreJudged nodes v a b judgements.Silent = ⊥
AreJudged nodes v a b judgements.Unfit = AreAmiss nodes v a b
AreJudged nodes v a b (judgements.Split form) = AreToSplit nodes v form a b
AreJudged nodes v a b judgements.Apart = AreApart nodes v a b

-- what is said of the claim
abbrev pub IsJudged : List Node → (ℕ → ℤ) → Claim → Judgement → Type 0
IsJudged nodes v claim judgements.Silent = (a b : ℕ) → claim ≡ Differ a b → ¬ IsInt nodes a
IsJudged nodes v claim judgements.Unfit = Parts nodes claim (AreAmiss nodes v)
IsJudged nodes v claim (judgements.Split form) = Parts nodes claim (AreToSplit nodes v form)
IsJudged nodes v claim judgements.Apart = Parts nodes claim (AreApart nodes v)

-- of any two whole numbers that the claim says differ, this holds
abbrev pub PartsOnly : List Node → (ℕ → ℕ → Type 0) → Claim → Type 0
PartsOnly nodes P claim = (a b : ℕ) → claim ≡ Differ a b → IsInt nodes a → P a b

-- the two are apart, or can be split
abbrev pub AreFit : List Node → (ℕ → ℤ) → ℕ → ℕ → Type 0
AreFit nodes v a b = AreApart nodes v a b ⊎ ((form : FormData) × AreToSplit nodes v form a b)

-- a fact has the property
abbrev pub SomeFact : List Fact → (Claim → Type 0) → ℕ → Type 0
SomeFact facts P post = (claim : Claim) × IsSaid facts post claim × P claim

-- each fact has it
abbrev pub EachFact : List Fact → (Claim → Type 0) → Type 0
EachFact facts P = (post : ℕ) (claim : Claim) → IsSaid facts post claim → P claim

-- the facts passed so far have the property, and the rest is left
pub record IsPassing (P : Claim → Type 0) (facts rest : List Fact) : Type 0 where
  pub within : (post : ℕ) (claim : Claim) → IsSaid rest post claim → IsSaid facts post claim
  pub each : EachFact rest P → EachFact facts P
