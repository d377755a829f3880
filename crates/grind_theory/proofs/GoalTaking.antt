-- The declaration of a goal: which fault it has.
use Rattle.std.specs.Prelude.{ℕ, List, length, None}
use Rattle.std.proofs.Common.{arith, ap, subst}
use Rattle.grind_term_graph.specs.declared.node.Node.{Node}
use Rattle.grind_grammar.specs.Terms.{Term, Bound, Goal}
use Rattle.grind_signature.specs.Signatures.{SignatureData}
use Rattle.grind_resolution.specs.declared.meaning.BinderKind.TheVariants as kinds
use Rattle.grind_resolution.specs.Scopes.{ScopeData, Gives}
use Rattle.grind_theory.specs.declared.theory.Fault.{Fault}
use Rattle.grind_theory.specs.declared.theory.Fault.TheVariants as faults
use Rattle.grind_theory.specs.States.{scope_of}
use Rattle.grind_theory.specs.Declaring.{HasFault, FaultOfBinders, FaultOfFormulas, IsOpened, AreTooMany}

module _ (s : SignatureData) (name : List ℕ) (bounds : List Bound) (hyps : List Term) (show : Term) where
  pub goal-binders : (fault : Fault) → FaultOfBinders s name bounds fault → HasFault s (Goal name bounds hyps show) fault
  goal-binders faults.Duplicate h theorems limits set goals = h
  goal-binders faults.Unknown h theorems limits set goals = (h.0, λ k. h.1 k.0)
  goal-binders faults.Arity h theorems limits set goals = absurd h
  goal-binders faults.Sort h theorems limits set goals = absurd h
  goal-binders faults.Pattern h theorems limits set goals = absurd h
  goal-binders faults.Size h theorems limits set goals = absurd h

  module _ (scope : ScopeData) (opened : IsOpened kinds.Constant s name bounds scope) where
    too_many : FaultOfFormulas (Gives s (scope_of kinds.Constant s bounds)) hyps show None → AreTooMany (Gives s (scope_of kinds.Constant s bounds)) hyps show
        → HasFault s (Goal name bounds hyps show) faults.Size
    too_many f h theorems limits set goals = (
      opened.fresh,
      (opened.sorts, (f.0).0, (f.0).1),
      f.1,
      f.2,
      tt,
      λ g.
          let n = (g.1).nodes in
          let big = h n.0 n.1 n.2 n.3 in
          let same = ap (λ (x : List Node × ℕ). length x.0) n.5 in
          let small = g.2 in
          omega arith,
    )

    -- there are too many nodes
    pub goal-many : FaultOfFormulas (Gives s scope) hyps show None → AreTooMany (Gives s scope) hyps show → HasFault s (Goal name bounds hyps show) faults.Size
    goal-many f h =
        too_many (subst (λ x. FaultOfFormulas (Gives s x) hyps show None) opened.is f) (subst (λ x. AreTooMany (Gives s x) hyps show) opened.is h)
