-- The lines of the answers rest on posts that the solver knows.
use Rattle.std.proofs.Common.{◌≡◌, inl, inr, ℕ, List, [], ◌∷◌, sym, subst}
use Rattle.grind_polynomials.specs.declared.poly.Term.{Term}
use Rattle.grind_ring_basis.specs.declared.types.Fact.{Fact}
use Rattle.grind_ring_basis.specs.declared.types.Share.{Share}
use Rattle.grind_ring_basis.specs.declared.types.Combination.{Combination}
use Rattle.grind_ring_basis.specs.Bases.{fact, IsElement}
use Rattle.grind_ring_basis.specs.Laws.{ArePremises, IsTypedLine, IsFactOrElement}
use Rattle.grind_ring_basis.proofs.TypedLemmas.{post_typed, pair_typed, difference_typed}
use Rattle.grind_ring_units.specs.declared.types.State.{State}
use Rattle.grind_ring_units.specs.Given.{Knows}
use Rattle.grind_ring_solver.specs.Given.{IsState}
use Rattle.grind_ring_solver.specs.Laws.{JoiningLinesAreTyped, EqualLinesAreTyped}

premises_may : (P Q : ℕ → List Term → Type 0) → ((n : ℕ) (poly : List Term) → P n poly → Q n poly) → (all : List (ℕ × Share))
    → ArePremises P all → ArePremises Q all
premises_may P Q leads [] are = tt
premises_may P Q leads (one ∷ rest) are = (leads one.0 one.1.poly are.0, are.1, premises_may P Q leads rest are.2)

typed_may : (P Q : ℕ → List Term → Type 0) → ((n : ℕ) (poly : List Term) → P n poly → Q n poly) → (rest : List Term) (line : Combination)
    → IsTypedLine P rest line → IsTypedLine Q rest line
typed_may P Q leads rest line is = record {
  premises = is.premises;
  from_are = is.from_are;
  factors_are = is.factors_are;
  given = premises_may P Q leads is.premises is.given;
  rising = is.rising;
  allowed = is.allowed;
}

fact_or_element : (state : State) → IsState state → (it : Fact) → Knows state it → (n : ℕ) (poly : List Term)
    → IsFactOrElement state.basis it n poly → Knows state (fact n poly)
fact_or_element state is it knows n poly which = elim which [
  | inl same ↦
      let whole : it ≡ fact n poly = λ i. record { post = sym same.0 i; poly = sym same.1 i } in subst (Knows state) whole knows
  | inr there ↦ is.known (fact n poly) there
]

pub joining_typed : JoiningLinesAreTyped
joining_typed state rest line is joins = elim joins [
  | inl one ↦
      typed_may (IsFactOrElement state.basis one.0) (λ post poly. Knows state (fact post poly))
      (fact_or_element state is one.0 (inl one.1)) rest line (post_typed state.basis one.0 rest line one.2.line_is)
  | inr two ↦
      typed_may (λ post poly. IsElement state.basis (fact post poly)) (λ post poly. Knows state (fact post poly))
      (λ n poly there. is.known (fact n poly) there) rest line (pair_typed state.basis two.1 two.2 rest line two.3.line_is)
]

pub equal_typed : EqualLinesAreTyped
equal_typed state poly rule from is line = elim line [
  | inl known ↦ inl known
  | inr other ↦ inr (
    other.1,
    typed_may (λ post one. IsElement state.basis (fact post one)) (λ post one. Knows state (fact post one))
        (λ n one there. is.known (fact n one) there) poly other.1 (difference_typed state.basis poly other.1 other.2),
    other.3,
    other.4,
  )
]
