-- A list of terms with their normal forms. No public clause cites these words.
use Rattle.std.specs.Prelude.{◌≡◌, ℕ, ◌<◌, List, [], ◌∷◌, ◌++◌, Contains, Option, None, Some}
use Rattle.grind_term_graph.specs.declared.node.Node.{Node}
use Rattle.grind_polynomials.specs.declared.poly.Term.{Term}
use Rattle.grind_normal_forms.specs.declared.reduction.Reduced.{Reduced}
use Rattle.grind_claims.specs.declared.proof.Rule.{Rule}
use Rattle.grind_ring_units.specs.declared.types.State.{State}
use Rattle.grind_ring_units.specs.declared.units.equal_terms.NormalTerm.{NormalTerm}
use Rattle.grind_ring_units.specs.EqualTerms.{HasNormalTerm, AreEqualTerms}

abbrev pub normal_term : ℕ → Reduced → NormalTerm
normal_term node normal = record { node = node; normal = normal }

-- the term of this node, with its normal form
abbrev pub IsNormalTermOf : State → List Node → List (List ℕ) → ℕ → NormalTerm → Type 0
IsNormalTermOf state nodes lists n it = (it.node ≡ n) × HasNormalTerm state nodes lists n it.normal

-- the node is no active term with a normal form
abbrev pub NoneAt : State → List Node → List (List ℕ) → ℕ → Type 0
NoneAt state nodes lists n = (normal : Reduced) → ¬ HasNormalTerm state nodes lists n normal

-- the list, with what was found
abbrev pub with_found : List NormalTerm → Option NormalTerm → List NormalTerm
with_found all None = all
with_found all (Some it) = all ++ it ∷ []

-- each of the list is a term with its normal form, and each term below that number that has one is in the list
pub record AreNormalTerms (state : State) (nodes : List Node) (lists : List (List ℕ)) (count : ℕ) (all : List NormalTerm) : Type 0 where
  pub only : (it : NormalTerm) → Contains all it → HasNormalTerm state nodes lists it.node it.normal
  pub each : (n : ℕ) (normal : Reduced) → n < count → HasNormalTerm state nodes lists n normal → Contains all (normal_term n normal)

-- a and b are equal terms, by some line
abbrev pub AreEqualBySome : State → List Node → List (List ℕ) → ℕ → ℕ → Type 0
AreEqualBySome state nodes lists a b =
    (poly : List Term) × (rule : Rule) × (from : List ℕ) × AreEqualTerms state nodes lists a b poly rule from

-- they are so by none
abbrev pub NoneEqualTo : State → List Node → List (List ℕ) → ℕ → ℕ → Type 0
NoneEqualTo state nodes lists a b = ¬ AreEqualBySome state nodes lists a b

-- a is equal to no term of the list
abbrev pub NoneAmong : State → List Node → List (List ℕ) → ℕ → List NormalTerm → Type 0
NoneAmong state nodes lists a all = (it : NormalTerm) → Contains all it → ¬ AreEqualBySome state nodes lists a it.node
