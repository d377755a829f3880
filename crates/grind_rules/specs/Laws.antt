-- What holds of all rules.
use Rattle.std.specs.Prelude.{◌≡◌, ℕ, ◌<◌, ◌⊎◌, List, ◌++◌, length, Option}
use Rattle.grind_term_graph.specs.declared.node.Node.{Node}
use Rattle.grind_schemes.specs.Goals.{GoalData}
use Rattle.grind_schemes.specs.declared.lemmas.Lemmas.{Lemmas}
use Rattle.grind_claims.specs.declared.claim.Claim.{Claim}
use Rattle.grind_claims.specs.declared.proof.Rule.{Rule}
use Rattle.grind_claims.specs.declared.proof.Rule.TheVariants as rules
use Rattle.grind_rules.specs.Rules.{RuleAllows}

-- what a rule allows it allows where terms are appended to the others, too
abbrev pub AllowedStays : Type 0
AllowedStays =
    (lemmas : Lemmas) (goal : GoalData) (nodes more : List Node) (literal : Option Claim) (rule : Rule)
    (premises : List Claim) (claim : Claim) →
    RuleAllows lemmas goal nodes literal rule premises claim → RuleAllows lemmas goal (nodes ++ more) literal rule premises claim

-- the rule asks for so many premises; `cong` takes any number above 0, and `table` any number
abbrev pub IsPremiseCount : Rule → ℕ → Type 0
IsPremiseCount (rules.Hyp i) count = count ≡ 0
IsPremiseCount rules.Negated count = count ≡ 0
IsPremiseCount (rules.Inst t subst) count = count ≡ 0
IsPremiseCount rules.Branch count = count ≡ 0
IsPremiseCount rules.Refl count = count ≡ 0
IsPremiseCount rules.Sym count = count ≡ 1
IsPremiseCount rules.Trans count = count ≡ 2
IsPremiseCount rules.Cong count = 0 < count
IsPremiseCount rules.Eq count = count ≡ 1
IsPremiseCount rules.Back count = count ≡ 1
IsPremiseCount rules.Truth count = count ≡ 1
IsPremiseCount rules.Untruth count = count ≡ 1
IsPremiseCount (rules.Table free) count = Unit {0}
IsPremiseCount rules.Read count = count ≡ 1
IsPremiseCount rules.Write count = count ≡ 1
IsPremiseCount rules.Line count = count ≡ 1
IsPremiseCount rules.Poly count = count ≡ 1
IsPremiseCount (rules.Combine divisor factors) count = count ≡ length factors
IsPremiseCount rules.Pinch count = count ≡ 2
IsPremiseCount rules.Strict count = count ≡ 2
IsPremiseCount rules.Apart count = (count ≡ 0) ⊎ ((count ≡ 1) ⊎ (count ≡ 3))
IsPremiseCount (rules.Ideal divisor factors) count = count ≡ length factors
IsPremiseCount rules.Equal count = count ≡ 1
IsPremiseCount rules.Clash count = (count ≡ 1) ⊎ (count ≡ 2)

-- a rule that allows a claim has as many premises as it asks for
abbrev pub PremisesAreCounted : Type 0
PremisesAreCounted =
    (lemmas : Lemmas) (goal : GoalData) (nodes : List Node) (literal : Option Claim) (rule : Rule)
    (premises : List Claim) (claim : Claim) →
    RuleAllows lemmas goal nodes literal rule premises claim → IsPremiseCount rule (length premises)
