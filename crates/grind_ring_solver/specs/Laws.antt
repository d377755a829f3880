-- The line of each answer is typed, and rests on posts that the solver knows. At rest each fact is reduced to 0, and so is each
-- S-polynomial; and terms with equal normal forms are equal already.
use Rattle.std.specs.Prelude.{◌≡◌, ◌⊎◌, ℕ, List, [], ◌∷◌, Contains, Some}
use Rattle.grind_term_graph.specs.declared.node.Node.{Node}
use Rattle.grind_classes.specs.Classes.{AreTogether}
use Rattle.grind_polynomials.specs.declared.poly.Term.{Term}
use Rattle.grind_normal_forms.specs.declared.reduction.Reduced.{Reduced}
use Rattle.grind_differences.specs.Differences.{poly_difference}
use Rattle.grind_claims.specs.declared.proof.Rule.{Rule}
use Rattle.grind_claims.specs.declared.proof.Rule.TheVariants as rules
use Rattle.grind_ring_basis.specs.declared.types.Combination.{Combination}
use Rattle.grind_ring_basis.specs.declared.types.Fact.{Fact}
use Rattle.grind_ring_basis.specs.declared.types.Pair.{Pair}
use Rattle.grind_ring_basis.specs.declared.types.Places.{Places}
use Rattle.grind_ring_basis.specs.Bases.{fact, ReducesToZero}
use Rattle.grind_ring_basis.specs.Pairs.{IsTooHigh, IsPair}
use Rattle.grind_ring_basis.specs.Lines.{IsDifferenceLine}
use Rattle.grind_ring_basis.specs.Laws.{IsTypedLine}
use Rattle.grind_ring_units.specs.declared.types.State.{State}
use Rattle.grind_ring_units.specs.Given.{Knows, IsClaimed}
use Rattle.grind_ring_units.specs.PairUnits.{AreElements}
use Rattle.grind_ring_units.specs.EqualTerms.{HasNormalTerm, IsTakenAsEqual, IsEqualLine}
use Rattle.grind_ring_solver.specs.Given.{IsState}
use Rattle.grind_ring_solver.specs.Steps.{IsJoiningForm, IsAtRest}

-- the line claims, by the rule `ideal`, that this is 0, and rests on posts that the solver knows
abbrev pub IsTypedFromKnown : State → List Term → Combination → Type 0
IsTypedFromKnown state rest line = IsTypedLine (λ post poly. Knows state (fact post poly)) rest line

-- so does the line of each normal form that joins
abbrev pub JoiningLinesAreTyped : Type 0
JoiningLinesAreTyped =
    (state : State) (rest : List Term) (line : Combination) → IsState state → IsJoiningForm state rest line → IsTypedFromKnown state rest line

-- and that of two equal terms, where no known post says that their polynomial is 0; else the line names that post alone
abbrev pub EqualLinesAreTyped : Type 0
EqualLinesAreTyped =
    (state : State) (poly : List Term) (rule : Rule) (from : List ℕ) → IsState state → IsEqualLine state poly rule from →
    ((post : ℕ) × Knows state (fact post poly) × (rule ≡ rules.Equal) × (from ≡ post ∷ []))
    ⊎ ((line : Combination) × IsTypedFromKnown state poly line × (rule ≡ rules.Ideal line.divisor line.factors) × (from ≡ line.from))

-- each fact that was taken is reduced to 0; and so is the S-polynomial of two elements of the basis, the earlier first, unless its
-- degree is over 16
pub record IsCompleted (state : State) : Type 0 where
  pub posts : (it : Fact) → Contains state.taken it → ReducesToZero state.basis it.poly
  pub pairs : (places : Places) (first second : List Term) → AreElements state places first second
      → IsTooHigh first second ⊎ ((pair : Pair) × IsPair first second pair × ReducesToZero state.basis pair.poly)

-- at rest all is reduced to 0
abbrev pub RestIsReduced : Type 0
RestIsReduced = (state : State) (nodes : List Node) (lists : List (List ℕ)) → IsState state → IsAtRest state nodes lists → IsCompleted state

-- a known post, or a line that fits, says that the polynomial is 0
abbrev pub HasZeroLine : State → List Term → Type 0
HasZeroLine state poly = IsClaimed state poly ⊎ ((line : Combination) × IsDifferenceLine state.basis poly line)

-- at rest two active terms with equal normal forms are in one class, or some post that was taken says that they are equal; unless
-- the line that would say so does not fit
abbrev pub EqualFormsAreJoined : Type 0
EqualFormsAreJoined =
    (state : State) (nodes : List Node) (lists : List (List ℕ)) (a b : ℕ) (poly : List Term) (normal : Reduced) →
    IsAtRest state nodes lists → HasNormalTerm state nodes lists a normal → HasNormalTerm state nodes lists b normal →
    poly_difference nodes a b ≡ Some poly → HasZeroLine state poly → AreTogether lists a b ⊎ IsTakenAsEqual state a b
