-- Known formulas, and the class of `True` or `False`.
use Rattle.std.specs.Prelude.{ℕ, Bool, List}
use Rattle.grind_classes.specs.Classes.{AreTogether}
use Rattle.grind_truth_prop.specs.Given.{KnownAs, truth_node}
use Rattle.grind_truth_prop.specs.declared.types.Known.{Known}

-- the node is known to have that truth, and is not in its class
pub record IsLeft (known : Known) (lists : List (List ℕ)) (node : ℕ) (value : Bool) : Type 0 where
  pub known_as : KnownAs known node value
  pub apart : ¬ AreTogether lists node (truth_node value)

-- each truth that is known of the node is that of its class
abbrev pub HasNothingLeft : Known → List (List ℕ) → ℕ → Type 0
HasNothingLeft known lists node = (value : Bool) → KnownAs known node value → AreTogether lists node (truth_node value)

-- so it is for each node
abbrev pub NothingLeft : Known → List (List ℕ) → Type 0
NothingLeft known lists = (node : ℕ) → HasNothingLeft known lists node
