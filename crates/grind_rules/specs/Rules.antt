-- What each rule allows, from the claims of its premises. A rule has exactly the premises that it names, in this order;
-- only those of `clash` may be exchanged. Nothing here speaks of where a premise stands.
use Rattle.std.specs.Prelude.{◌≡◌, ◌≢◌, ℕ, List, [], ◌∷◌, ◌⊎◌, Option, Some, ℤ}
use Rattle.grind_term_graph.specs.declared.node.Node.{Node}
use Rattle.grind_schemes.specs.Goals.{GoalData}
use Rattle.grind_schemes.specs.declared.lemmas.Lemmas.{Lemmas}
use Rattle.grind_claims.specs.declared.claim.Claim.{Claim}
use Rattle.grind_claims.specs.declared.claim.Claim.TheVariants.{Holds, Fails, Same, Differ, Absurd}
use Rattle.grind_claims.specs.declared.proof.Rule.{Rule}
use Rattle.grind_claims.specs.declared.proof.Rule.TheVariants as rules
pub use Rattle.grind_term_rules.specs.TermRules.{true_node, false_node, IsEquation, IsEquationOf, IsNumber, IsHyp, IsNegated, IsBodyAt, IsInst, IsRefl, IsSym, IsTrans, SayEqual, IsCong, IsEq, IsBack, IsTruth, IsUntruth}
use Rattle.grind_arithmetic_rules.specs.LinearRules.{IsRead, IsWrite, IsLine, IsCombine, IsPinch, IsStrict, IsApart, IsTooGreat}
use Rattle.grind_arithmetic_rules.specs.PolyRules.{IsPolyRule, IsIdeal, IsEqual, IsFalseZero}
use Rattle.grind_truth_tables.specs.Tables.{IsTableRule}

-- branch: from nothing, what the branch assumes
abbrev pub IsAssumed : Option Claim → List Claim → Claim → Type 0
IsAssumed literal premises claim = (premises ≡ []) × (literal ≡ Some claim)

-- a formula that holds, and that fails
abbrev pub AreOpposed : Claim → Claim → Type 0
AreOpposed one other = (n : ℕ) × (one ≡ Holds n) × (other ≡ Fails n)

-- two terms that are equal, and different
abbrev pub AreSplit : Claim → Claim → Type 0
AreSplit one other = (a : ℕ) × (b : ℕ) × (one ≡ Same a b) × ((other ≡ Differ a b) ⊎ (other ≡ Differ b a))

-- `True` and `False`, in either order
abbrev pub AreBothTruths : ℕ → ℕ → Type 0
AreBothTruths a b = ((a ≡ true_node) × (b ≡ false_node)) ⊎ ((a ≡ false_node) × (b ≡ true_node))

-- two different numbers
abbrev pub AreTwoNumbers : List Node → ℕ → ℕ → Type 0
AreTwoNumbers nodes a b = (j : ℤ) × (k : ℤ) × IsNumber nodes a j × IsNumber nodes b k × (j ≢ k)

-- `True` and `False`, or two different numbers, that are equal
abbrev pub IsFalseEquality : List Node → Claim → Type 0
IsFalseEquality nodes one = (a : ℕ) × (b : ℕ) × (one ≡ Same a b) × (AreBothTruths a b ⊎ AreTwoNumbers nodes a b)

-- a claim that cannot be: such an equality, a number over 0 that is at most 0, or another number than 0 that is 0
abbrev pub IsImpossible : List Node → Claim → Type 0
IsImpossible nodes one = IsFalseEquality nodes one ⊎ (IsTooGreat one ⊎ IsFalseZero one)

-- clash: claims that contradict each other, in either order, or a claim that cannot be
abbrev pub IsClash : List Node → List Claim → Claim → Type 0
IsClash nodes premises claim = (claim ≡ Absurd)
    × (((one : Claim) × (other : Claim)
    × ((premises ≡ one ∷ other ∷ []) ⊎ (premises ≡ other ∷ one ∷ [])) × (AreOpposed one other ⊎ AreSplit one other))
    ⊎ ((one : Claim) × (premises ≡ one ∷ []) × IsImpossible nodes one))

-- the rule allows the claim from these premises, in a branch that assumes the literal
abbrev pub RuleAllows : Lemmas → GoalData → List Node → Option Claim → Rule → List Claim → Claim → Type 0
RuleAllows lemmas goal nodes literal (rules.Hyp i) premises claim = IsHyp goal i premises claim
RuleAllows lemmas goal nodes literal rules.Negated premises claim = IsNegated goal premises claim
RuleAllows lemmas goal nodes literal (rules.Inst t subst) premises claim = IsInst lemmas nodes t subst premises claim
RuleAllows lemmas goal nodes literal rules.Branch premises claim = IsAssumed literal premises claim
RuleAllows lemmas goal nodes literal rules.Refl premises claim = IsRefl premises claim
RuleAllows lemmas goal nodes literal rules.Sym premises claim = IsSym premises claim
RuleAllows lemmas goal nodes literal rules.Trans premises claim = IsTrans premises claim
RuleAllows lemmas goal nodes literal rules.Cong premises claim = IsCong nodes premises claim
RuleAllows lemmas goal nodes literal rules.Eq premises claim = IsEq nodes premises claim
RuleAllows lemmas goal nodes literal rules.Back premises claim = IsBack nodes premises claim
RuleAllows lemmas goal nodes literal rules.Truth premises claim = IsTruth premises claim
RuleAllows lemmas goal nodes literal rules.Untruth premises claim = IsUntruth premises claim
RuleAllows lemmas goal nodes literal (rules.Table free) premises claim = IsTableRule nodes free premises claim
RuleAllows lemmas goal nodes literal rules.Read premises claim = IsRead nodes premises claim
RuleAllows lemmas goal nodes literal rules.Write premises claim = IsWrite nodes premises claim
RuleAllows lemmas goal nodes literal rules.Line premises claim = IsLine nodes premises claim
RuleAllows lemmas goal nodes literal rules.Poly premises claim = IsPolyRule nodes premises claim
RuleAllows lemmas goal nodes literal (rules.Combine divisor factors) premises claim = IsCombine divisor factors premises claim
RuleAllows lemmas goal nodes literal rules.Pinch premises claim = IsPinch nodes premises claim
RuleAllows lemmas goal nodes literal rules.Strict premises claim = IsStrict nodes premises claim
RuleAllows lemmas goal nodes literal rules.Apart premises claim = IsApart nodes premises claim
RuleAllows lemmas goal nodes literal (rules.Ideal divisor factors) premises claim = IsIdeal divisor factors premises claim
RuleAllows lemmas goal nodes literal rules.Equal premises claim = IsEqual nodes premises claim
RuleAllows lemmas goal nodes literal rules.Clash premises claim = IsClash nodes premises claim

-- the rule reads no terms and assigns no truths: its test takes no memory
abbrev pub TakesNoMemory : Rule → Type 0
TakesNoMemory (rules.Hyp i) = Unit {0}
TakesNoMemory rules.Negated = Unit {0}
TakesNoMemory (rules.Inst t subst) = Unit {0}
TakesNoMemory rules.Branch = Unit {0}
TakesNoMemory rules.Refl = Unit {0}
TakesNoMemory rules.Sym = Unit {0}
TakesNoMemory rules.Trans = Unit {0}
TakesNoMemory rules.Cong = Unit {0}
TakesNoMemory rules.Eq = Unit {0}
TakesNoMemory rules.Back = Unit {0}
TakesNoMemory rules.Truth = Unit {0}
TakesNoMemory rules.Untruth = Unit {0}
TakesNoMemory (rules.Table free) = ⊥
TakesNoMemory rules.Read = ⊥
TakesNoMemory rules.Write = ⊥
TakesNoMemory rules.Line = ⊥
TakesNoMemory rules.Poly = ⊥
TakesNoMemory (rules.Combine divisor factors) = ⊥
TakesNoMemory rules.Pinch = ⊥
TakesNoMemory rules.Strict = ⊥
TakesNoMemory rules.Apart = ⊥
TakesNoMemory (rules.Ideal divisor factors) = ⊥
TakesNoMemory rules.Equal = ⊥
TakesNoMemory rules.Clash = Unit {0}
