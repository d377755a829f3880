-- The next consequence: a case of the first unit that has one.
use Rattle.std.specs.Prelude.{ℕ, List}
use Rattle.grind_term_graph.specs.declared.node.Node.{Node}
use Rattle.grind_classes.specs.Classes.{IsActive, AreTogether}
use Rattle.grind_congruence.specs.Congruence.{AreCongruent, IsAtRest}
use Rattle.grind_truth_prop.specs.declared.types.Known.{Known}
use Rattle.grind_closure_steps.specs.Truths.{IsLeft, NothingLeft}
use Rattle.grind_closure_steps.specs.Clashes.{IsClashStep, NoClash}
use Rattle.grind_closure_steps.specs.declared.types.ClosureStep.{ClosureStep}
use Rattle.grind_closure_steps.specs.declared.types.ClosureStep.TheVariants as step

-- two active nodes are congruent, and not in one class
pub record AreToJoin (nodes : List Node) (lists : List (List ℕ)) (left right : ℕ) : Type 0 where
  pub first_active : IsActive lists left
  pub second_active : IsActive lists right
  pub congruent : AreCongruent lists nodes left right
  pub apart : ¬ AreTogether lists left right

-- no unit before the contradictions has a case
abbrev pub NothingToJoin : Known → List (List ℕ) → Type 0
NothingToJoin known lists = NothingLeft known lists × IsAtRest lists known.terms.nodes

-- no unit has a case
pub record IsClosed (known : Known) (lists : List (List ℕ)) : Type 0 where
  pub truths : NothingLeft known lists
  pub rest : IsAtRest lists known.terms.nodes
  pub clashes : NoClash known lists

-- the answer names a case of the first unit that has one, or says that none has
abbrev pub IsStep : Known → List (List ℕ) → ClosureStep → Type 0
IsStep known lists (step.Truth node value) = IsLeft known lists node value
IsStep known lists (step.Congruent left right) = NothingLeft known lists × AreToJoin known.terms.nodes lists left right
IsStep known lists step.BothTruths = NothingToJoin known lists × IsClashStep known lists step.BothTruths
IsStep known lists (step.Numbers left right) = NothingToJoin known lists × IsClashStep known lists (step.Numbers left right)
IsStep known lists (step.Apart place) = NothingToJoin known lists × IsClashStep known lists (step.Apart place)
IsStep known lists (step.Opposed node) = NothingToJoin known lists × IsClashStep known lists (step.Opposed node)
IsStep known lists step.Rest = IsClosed known lists
