-- What each answer lets be said, by which rule and from what.
use Rattle.std.specs.Prelude.{◌≡◌, ℕ, Bool, List, [], ◌∷◌, Some, slice_get}
use Rattle.grind_term_graph.specs.declared.node.Node.{Node}
use Rattle.grind_term_rules.specs.TermRules.{IsTruth, IsCong, SayEqual, true_node, false_node}
use Rattle.grind_rules.specs.Rules.{IsClash}
use Rattle.grind_truth_prop.specs.Kernel.{Claim, Holds, Fails, Same, Differ, Absurd}
use Rattle.grind_truth_prop.specs.Given.{truth_node, Fits}
use Rattle.grind_truth_prop.specs.Classed.{literal}
use Rattle.grind_truth_prop.specs.Laws.{HasTable, RestsOn}
use Rattle.grind_truth_prop.specs.declared.types.Couple.{Couple}
use Rattle.grind_truth_prop.specs.declared.types.Known.{Known}
use Rattle.grind_closure_steps.specs.Truths.{IsLeft}
use Rattle.grind_closure_steps.specs.Clashes.{IsClashStep}
use Rattle.grind_closure_steps.specs.Steps.{AreToJoin}
use Rattle.grind_closure_steps.specs.declared.types.ClosureStep.{ClosureStep}
use Rattle.grind_closure_steps.specs.declared.types.ClosureStep.TheVariants as step

-- a formula that is known equals `True` or `False`, by the rule `truth`
abbrev pub TruthIsTyped : Type 0
TruthIsTyped = (known : Known) (lists : List (List ℕ)) (node : ℕ) (value : Bool) → Fits known lists → HasTable known
    → IsLeft known lists node value
    → IsTruth (literal node value ∷ []) (Same node (truth_node value))
    × RestsOn known lists (literal node value ∷ []) (Same node (truth_node value))

-- two congruent nodes are equal, by the rule `cong` from what says that their arguments are, one by one
abbrev pub CongruentAreTyped : Type 0
CongruentAreTyped = (known : Known) (lists : List (List ℕ)) (left right : ℕ) (one other : Node) (premises : List Claim)
    → AreToJoin known.terms.nodes lists left right
    → slice_get known.terms.nodes left ≡ Some one → slice_get known.terms.nodes right ≡ Some other
    → SayEqual one.args other.args premises
    → IsCong known.terms.nodes premises (Same left right) × RestsOn known lists premises (Same left right)

-- what a contradiction rests on
abbrev pub AreClashPremises : Known → ClosureStep → List Claim → Type 0
AreClashPremises known (step.Truth node value) premises = ⊥
AreClashPremises known (step.Congruent left right) premises = ⊥
AreClashPremises known step.BothTruths premises = premises ≡ Same true_node false_node ∷ []
AreClashPremises known (step.Numbers left right) premises = premises ≡ Same left right ∷ []
AreClashPremises known (step.Apart place) premises = (pair : Couple) × (slice_get known.apart place ≡ Some pair)
    × (premises ≡ Same pair.left pair.right ∷ Differ pair.left pair.right ∷ [])
AreClashPremises known (step.Opposed node) premises = premises ≡ Holds node ∷ Fails node ∷ []
AreClashPremises known step.Rest premises = ⊥

-- a contradiction is one by the rule `clash`
abbrev pub ClashIsTyped : Type 0
ClashIsTyped = (known : Known) (lists : List (List ℕ)) (answer : ClosureStep) (premises : List Claim)
    → IsClashStep known lists answer → AreClashPremises known answer premises
    → IsClash known.terms.nodes premises Absurd × RestsOn known lists premises Absurd
