-- Formulas in the class of `True` or `False`.
use Rattle.std.specs.Prelude.{ℕ, Bool, true, false, List, [], ◌∷◌}
use Rattle.grind_classes.specs.Classes.{AreTogether}
use Rattle.grind_truth_prop.specs.Kernel.{Claim, Holds, Fails, Same}
use Rattle.grind_truth_prop.specs.Given.{IsKnown, IsUnknown, truth_node}
use Rattle.grind_truth_prop.specs.declared.types.Known.{Known}

-- the unknown node is in the class of `True`, or of `False`
pub record IsClassed (known : Known) (lists : List (List ℕ)) (node : ℕ) (value : Bool) : Type 0 where
  pub unknown : IsUnknown known lists node
  pub together : AreTogether lists node (truth_node value)

-- the literal that says that truth of the node
abbrev pub literal : ℕ → Bool → Claim
literal n true = Holds n
literal n false = Fails n

-- what it rests on: the node and `True`, or `False`, are in one class
abbrev pub classed_premises : ℕ → Bool → List Claim
classed_premises node value = Same node (truth_node value) ∷ []

-- where the node is in the class of `True` or `False`, its truth is known
abbrev pub IsNotClassed : Known → List (List ℕ) → ℕ → Type 0
IsNotClassed known lists n = (value : Bool) → AreTogether lists n (truth_node value) → IsKnown known n

-- each node in the class of `True` or `False` is known
abbrev pub NoneClassed : Known → List (List ℕ) → Type 0
NoneClassed known lists = (n : ℕ) → IsNotClassed known lists n
