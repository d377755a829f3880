-- What is known after two terms were found equal.
use Rattle.std.proofs.Common.{◌≡◌, inl, inr, ℕ, List, true, false, ap}
use Rattle.grind_term_graph.specs.declared.node.Node.{Node}
use Rattle.grind_polynomials.specs.declared.poly.Term.{Term}
use Rattle.grind_claims.specs.declared.proof.Rule.{Rule}
use Rattle.grind_ring_basis.specs.Bases.{fact}
use Rattle.grind_ring_units.specs.declared.types.State.{State}
use Rattle.grind_ring_units.specs.EqualTerms.{AreEqualTerms}
use Rattle.grind_ring_solver.specs.Steps.{noted, AfterEqual}
use Rattle.grind_ring_solver.specs.Decisions.{is_ideal_rule}

pub after_equal : (state : State) (nodes : List Node) (lists : List (List ℕ)) (a b : ℕ) (poly : List Term) (rule : Rule) (from : List ℕ)
    (next : ℕ) (new : State) → AreEqualTerms state nodes lists a b poly rule from
    → (is_ideal_rule rule ≡ true → new ≡ noted state (fact next poly)) → (is_ideal_rule rule ≡ false → new ≡ state)
    → AfterEqual state next poly rule new
after_equal state nodes lists a b poly rule from next new equal ideal other = elim equal.line_is [
  | inl known ↦ inl (known.2, other (ap is_ideal_rule known.2))
  | inr line ↦ inr (line.1, line.3, ideal (ap is_ideal_rule line.3))
]
