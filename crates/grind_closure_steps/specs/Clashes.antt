-- Contradictions.
use Rattle.std.specs.Prelude.{◌≡◌, ℕ, List, Some, slice_get}
use Rattle.grind_term_graph.specs.declared.node.Node.{Node}
use Rattle.grind_classes.specs.Classes.{AreTogether}
use Rattle.grind_term_rules.specs.TermRules.{true_node, false_node}
use Rattle.grind_rules.specs.Rules.{AreTwoNumbers}
use Rattle.grind_truth_prop.specs.Given.{KnownToHold, KnownToFail}
use Rattle.grind_truth_prop.specs.declared.types.Couple.{Couple}
use Rattle.grind_truth_prop.specs.declared.types.Known.{Known}
use Rattle.grind_closure_steps.specs.declared.types.ClosureStep.{ClosureStep}
use Rattle.grind_closure_steps.specs.declared.types.ClosureStep.TheVariants as step

-- `True` and `False` are in one class
abbrev pub AreTruthsTogether : List (List ℕ) → Type 0
AreTruthsTogether lists = AreTogether lists true_node false_node

-- the two are different numbers in one class
abbrev pub AreNumbersTogether : List Node → List (List ℕ) → ℕ → ℕ → Type 0
AreNumbersTogether nodes lists a b = AreTwoNumbers nodes a b × AreTogether lists a b

-- with the node no other number is in one class
abbrev pub IsAlone : List Node → List (List ℕ) → ℕ → Type 0
IsAlone nodes lists a = (b : ℕ) → ¬ AreNumbersTogether nodes lists a b

-- no two different numbers are in one class
abbrev pub NoNumbers : List Node → List (List ℕ) → Type 0
NoNumbers nodes lists = (a : ℕ) → IsAlone nodes lists a

-- the different nodes at that place are in one class
abbrev pub AreApartTogether : Known → List (List ℕ) → ℕ → Type 0
AreApartTogether known lists place = (pair : Couple) × (slice_get known.apart place ≡ Some pair) × AreTogether lists pair.left pair.right

-- no two different nodes are
abbrev pub NoneApart : Known → List (List ℕ) → Type 0
NoneApart known lists = (place : ℕ) → ¬ AreApartTogether known lists place

-- the node is known to hold and to fail
abbrev pub IsOpposed : Known → ℕ → Type 0
IsOpposed known node = KnownToHold known node × KnownToFail known node

-- no node is
abbrev pub NoneOpposed : Known → Type 0
NoneOpposed known = (node : ℕ) → ¬ IsOpposed known node

-- nothing contradicts anything
pub record NoClash (known : Known) (lists : List (List ℕ)) : Type 0 where
  pub truths : ¬ AreTruthsTogether lists
  pub numbers : NoNumbers known.terms.nodes lists
  pub apart : NoneApart known lists
  pub opposed : NoneOpposed known

-- the answer names a contradiction
abbrev pub IsClashStep : Known → List (List ℕ) → ClosureStep → Type 0
IsClashStep known lists (step.Truth node value) = ⊥
IsClashStep known lists (step.Congruent left right) = ⊥
IsClashStep known lists step.BothTruths = AreTruthsTogether lists
IsClashStep known lists (step.Numbers left right) = AreNumbersTogether known.terms.nodes lists left right
IsClashStep known lists (step.Apart place) = AreApartTogether known lists place
IsClashStep known lists (step.Opposed node) = IsOpposed known node
IsClashStep known lists step.Rest = ⊥
