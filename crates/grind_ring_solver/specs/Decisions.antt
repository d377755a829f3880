-- What is to be done, before the solver changes. No public clause cites these words.
use Rattle.std.specs.Prelude.{◌≡◌, ℕ, List, Contains, Bool, true, false, Option, Some, None, MatchOption}
use Rattle.grind_term_graph.specs.declared.node.Node.{Node}
use Rattle.grind_polynomials.specs.declared.poly.Term.{Term}
use Rattle.grind_claims.specs.declared.proof.Rule.{Rule}
use Rattle.grind_claims.specs.declared.proof.Rule.TheVariants as rules
use Rattle.grind_ring_basis.specs.declared.types.Fact.{Fact}
use Rattle.grind_ring_basis.specs.declared.types.Combination.{Combination}
use Rattle.grind_ring_units.specs.declared.types.State.{State}
use Rattle.grind_ring_units.specs.declared.findings.Marks.{Marks}
use Rattle.grind_ring_units.specs.declared.findings.Posts.{Posts}
use Rattle.grind_ring_units.specs.Zeroed.{HasZeroed, NoneZeroed}
use Rattle.grind_ring_units.specs.PostUnits.{IsJoining}
use Rattle.grind_ring_units.specs.Conflicts.{HasContradiction, NoContradiction}
use Rattle.grind_ring_units.specs.EqualTerms.{AreEqualTerms}
use Rattle.grind_ring_units.specs.Scans.{MayJoin}
use Rattle.grind_ring_units.specs.declared.units.equal_terms.EqualTerms.{EqualTerms}
use Rattle.grind_ring_solver.specs.declared.types.RingStep.{RingStep}
use Rattle.grind_ring_solver.specs.declared.types.RingStep.TheVariants.{Added, Equal}
use Rattle.grind_ring_solver.specs.declared.decision.Decision.{Decision}
use Rattle.grind_ring_solver.specs.declared.decision.Decision.TheVariants as decision
use Rattle.grind_ring_solver.specs.Steps.{IsJoiningForm, WouldJoin, WouldNotFit, AreTooLarge, FormsFit, EachFits, NoneWouldJoin, EachIsDone, NothingJoins, NothingApplies, IsAtRest}

-- the first, or the second where there is no first
abbrev pub first_of : Option Posts → Option Posts → Option Posts
first_of None other = other
first_of (Some posts) other = Some posts

-- the marks of facts, or those of pairs where these have none
abbrev pub both_of : Marks → Marks → Marks
both_of posts pairs = record {
  too_large = first_of posts.too_large pairs.too_large;
  left = first_of posts.left pairs.left;
}

-- nothing joins, and what the marks say stands in the way
pub record AreBlocked (state : State) (marks : Marks) : Type 0 where
  pub joining : (it : Fact) → Contains state.taken it → ¬ IsJoining state it
  pub too_large : MatchOption marks.too_large (FormsFit state) (λ posts. WouldNotFit state posts.first posts.second)
  pub would_join : MatchOption marks.left (NoneWouldJoin state) (λ posts. WouldJoin state posts.first posts.second)
  pub none_left : MayJoin state → marks.left ≡ None
  pub done : marks.too_large ≡ None → marks.left ≡ None → EachIsDone state

-- what is to be done where no unit applies
abbrev pub IsDecisionAtEnd : State → List Node → Decision → Type 0
IsDecisionAtEnd state nodes (decision.TooLarge posts) = AreTooLarge state nodes posts.first posts.second
IsDecisionAtEnd state nodes (decision.AtLimit posts) =
    EachFits state nodes × (¬ MayJoin state) × WouldJoin state posts.first posts.second
IsDecisionAtEnd state nodes decision.Rest = EachFits state nodes × NoneWouldJoin state × EachIsDone state
IsDecisionAtEnd state nodes (decision.Zeroed post) = ⊥
IsDecisionAtEnd state nodes (decision.Joins it) = ⊥
IsDecisionAtEnd state nodes (decision.Adds rest line) = ⊥
IsDecisionAtEnd state nodes (decision.Conflict post) = ⊥
IsDecisionAtEnd state nodes (decision.Equal it) = ⊥

-- what is to be done
abbrev pub IsDecision : State → List Node → List (List ℕ) → Decision → Type 0
IsDecision state nodes lists (decision.Zeroed post) = HasZeroed state nodes post
IsDecision state nodes lists (decision.Joins it) = NoneZeroed state nodes × Contains state.taken it × IsJoining state it
IsDecision state nodes lists (decision.Adds rest line) = NoneZeroed state nodes × MayJoin state × IsJoiningForm state rest line
IsDecision state nodes lists (decision.Conflict post) = NoneZeroed state nodes × NothingJoins state × HasContradiction state post
IsDecision state nodes lists (decision.Equal it) =
    NoneZeroed state nodes × NothingJoins state × NoContradiction state × AreEqualTerms state nodes lists it.left it.right it.poly it.rule it.from
IsDecision state nodes lists (decision.TooLarge posts) =
    NothingApplies state nodes lists × AreTooLarge state nodes posts.first posts.second
IsDecision state nodes lists (decision.AtLimit posts) =
    NothingApplies state nodes lists × EachFits state nodes × (¬ MayJoin state) × WouldJoin state posts.first posts.second
IsDecision state nodes lists decision.Rest = IsAtRest state nodes lists

-- the rule is `ideal`
abbrev pub is_ideal_rule : Rule → Bool
is_ideal_rule (rules.Ideal divisor factors) = true
is_ideal_rule _ = false

-- the answers that a normal form joins by a line, and that two terms are equal
abbrev pub added_step : List Term → Combination → RingStep
added_step rest line = Added rest (rules.Ideal line.divisor line.factors) line.from

abbrev pub equal_step : EqualTerms → RingStep
equal_step it = Equal it.left it.right it.poly it.rule it.from
