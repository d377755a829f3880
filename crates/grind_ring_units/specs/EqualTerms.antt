-- Terms in different classes whose polynomials have the same normal form.
use Rattle.std.specs.Prelude.{◌≡◌, ℕ, ◌⊎◌, List, [], ◌∷◌, Contains, Some}
use Rattle.grind_term_graph.specs.declared.node.Node.{Node}
use Rattle.grind_classes.specs.Classes.{IsActive, AreTogether}
use Rattle.grind_polynomials.specs.declared.poly.Term.{Term}
use Rattle.grind_normal_forms.specs.declared.reduction.Reduced.{Reduced}
use Rattle.grind_differences.specs.Differences.{poly_reading, poly_difference}
use Rattle.grind_claims.specs.declared.proof.Rule.{Rule}
use Rattle.grind_claims.specs.declared.proof.Rule.TheVariants as rules
use Rattle.grind_ring_basis.specs.declared.types.Combination.{Combination}
use Rattle.grind_ring_basis.specs.Bases.{fact, HasNormalForm}
use Rattle.grind_ring_basis.specs.Lines.{IsDifferenceLine}
use Rattle.grind_ring_units.specs.declared.types.State.{State}
use Rattle.grind_ring_units.specs.Given.{equality, Knows, IsClaimed}

-- the node is active, and its polynomial has this normal form over the basis
pub record HasNormalTerm (state : State) (nodes : List Node) (lists : List (List ℕ)) (n : ℕ) (normal : Reduced) : Type 0 where
  pub active : IsActive lists n
  pub poly : List Term
  pub reading : poly_reading nodes n ≡ Some poly
  pub normal_is : HasNormalForm state.basis poly normal

-- some post that was taken says that the two are equal, in this order
abbrev pub IsTakenAsEqual : State → ℕ → ℕ → Type 0
IsTakenAsEqual state a b = (post : ℕ) × Contains state.equalities (equality post a b)

-- the nodes a and b are in different classes and have the same normal form, no post says that they are equal, in this order,
-- and this is the polynomial of a less that of b
pub record AreAlike (state : State) (nodes : List Node) (lists : List (List ℕ)) (a b : ℕ) (poly : List Term) : Type 0 where
  pub apart : ¬ AreTogether lists a b
  pub not_taken : ¬ IsTakenAsEqual state a b
  pub normal : Reduced
  pub first : HasNormalTerm state nodes lists a normal
  pub second : HasNormalTerm state nodes lists b normal
  pub difference : poly_difference nodes a b ≡ Some poly

-- the line by which the polynomial is 0: by `equal`, from a post that says so; else by `ideal`, where there is none
abbrev pub IsEqualLine : State → List Term → Rule → List ℕ → Type 0
IsEqualLine state poly rule from =
    ((post : ℕ) × Knows state (fact post poly) × (rule ≡ rules.Equal) × (from ≡ post ∷ []))
    ⊎ ((¬ IsClaimed state poly) × (line : Combination) × IsDifferenceLine state.basis poly line
    × (rule ≡ rules.Ideal line.divisor line.factors) × (from ≡ line.from))

-- two such terms, and the line
pub record AreEqualTerms (state : State) (nodes : List Node) (lists : List (List ℕ)) (a b : ℕ) (poly : List Term) (rule : Rule)
    (from : List ℕ) : Type 0 where
  pub alike : AreAlike state nodes lists a b poly
  pub line_is : IsEqualLine state poly rule from

-- no two terms are such
abbrev pub NoEqualTerms : State → List Node → List (List ℕ) → Type 0
NoEqualTerms state nodes lists =
    (a b : ℕ) (poly : List Term) (rule : Rule) (from : List ℕ) → ¬ AreEqualTerms state nodes lists a b poly rule from
