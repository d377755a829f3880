-- Which claims fit in 128 bits.
use Rattle.std.specs.Prelude.{List, All, Option, IfSome, FitsSigned, ⊤}
use Rattle.std.specs.Int.{w128}
use Rattle.grind_term_graph.specs.declared.head.Head.{Head}
use Rattle.grind_term_graph.specs.declared.head.Head.TheVariants as head
use Rattle.grind_term_graph.specs.declared.node.Node.{Node}
use Rattle.grind_schemes.specs.Goals.{GoalData}
use Rattle.grind_schemes.specs.declared.lemmas.Lemmas.{Lemmas}
use Rattle.grind_linear_forms.specs.declared.form.Part.{Part}
use Rattle.grind_linear_forms.specs.Forms.{FormData}
use Rattle.grind_claims.specs.declared.claim.Claim.{Claim}
use Rattle.grind_claims.specs.declared.claim.Claim.TheVariants.{Holds, Fails, Same, Differ, AtMost, Zero, Absurd}
use Rattle.grind_claims.specs.declared.proof.Rule.{Rule}
use Rattle.grind_claims.specs.declared.proof.Rule.TheVariants as rules
use Rattle.grind_arithmetic_rules.specs.PolyRules.{CoefficientsFit}
use Rattle.grind_rules.specs.Rules.{RuleAllows}

-- each number of the form fits
abbrev pub FormNumbersFit : FormData → Type 0
FormNumbersFit form = All (λ (part : Part). FitsSigned w128 part.coefficient) form.parts × FitsSigned w128 form.constant

-- each number of the claim fits
abbrev pub ClaimNumbersFit : Claim → Type 0
ClaimNumbersFit (AtMost form) = FormNumbersFit form
ClaimNumbersFit (Zero poly) = CoefficientsFit poly
ClaimNumbersFit (Holds n) = ⊤
ClaimNumbersFit (Fails n) = ⊤
ClaimNumbersFit (Same a b) = ⊤
ClaimNumbersFit (Differ a b) = ⊤
ClaimNumbersFit Absurd = ⊤

-- a number fits
abbrev pub HeadFits : Head → Type 0
HeadFits (head.Int number) = FitsSigned w128 number
HeadFits head.True = ⊤
HeadFits head.False = ⊤
HeadFits head.Not = ⊤
HeadFits head.And = ⊤
HeadFits head.Or = ⊤
HeadFits head.Implies = ⊤
HeadFits head.Eq = ⊤
HeadFits head.Le = ⊤
HeadFits head.Add = ⊤
HeadFits head.Neg = ⊤
HeadFits head.Mul = ⊤
HeadFits (head.Fun function) = ⊤
HeadFits (head.Const constant) = ⊤

-- each number among the nodes fits, as it does in every table of terms
abbrev pub NumbersFit : List Node → Type 0
NumbersFit nodes = All (λ (node : Node). HeadFits node.head) nodes

-- a rule that allows no claim weaker than another; `combine` allows each lower constant, also one that does not fit
abbrev pub IsExact : Rule → Type 0
IsExact (rules.Combine divisor factors) = ⊥
IsExact (rules.Hyp i) = ⊤
IsExact rules.Negated = ⊤
IsExact (rules.Inst t subst) = ⊤
IsExact rules.Branch = ⊤
IsExact rules.Refl = ⊤
IsExact rules.Sym = ⊤
IsExact rules.Trans = ⊤
IsExact rules.Cong = ⊤
IsExact rules.Eq = ⊤
IsExact rules.Back = ⊤
IsExact rules.Truth = ⊤
IsExact rules.Untruth = ⊤
IsExact (rules.Table free) = ⊤
IsExact rules.Read = ⊤
IsExact rules.Write = ⊤
IsExact rules.Line = ⊤
IsExact rules.Poly = ⊤
IsExact rules.Pinch = ⊤
IsExact rules.Strict = ⊤
IsExact rules.Apart = ⊤
IsExact (rules.Ideal divisor factors) = ⊤
IsExact rules.Equal = ⊤
IsExact rules.Clash = ⊤

-- over terms whose numbers fit, in a branch whose literal fits, what such a rule allows fits
abbrev pub AllowedFits : Type 0
AllowedFits =
    (lemmas : Lemmas) (goal : GoalData) (nodes : List Node) (literal : Option Claim) (rule : Rule) (premises : List Claim) (claim : Claim) →
    NumbersFit nodes → IfSome literal ClaimNumbersFit → IsExact rule → RuleAllows lemmas goal nodes literal rule premises claim → ClaimNumbersFit claim
