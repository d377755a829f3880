-- The truths of a connective and its arguments, one by one. No public clause cites these words.
use Rattle.std.specs.Prelude.{◌≡◌, ℕ, Bool, true, false, not, ◌&&◌, ◌||◌, IsTrue, ◌↔◌, List, [], ◌∷◌}
use Rattle.grind_term_graph.specs.declared.head.Head.{Head}
use Rattle.grind_term_graph.specs.declared.head.Head.TheVariants as heads
use Rattle.grind_truth_prop.specs.Kernel.{implies, alike}
use Rattle.grind_truth_prop.specs.Given.{KnownToHold, KnownToFail}
use Rattle.grind_truth_prop.specs.declared.types.Known.{Known}
use Rattle.grind_truth_prop.specs.declared.ways.Mark.{Mark}
use Rattle.grind_truth_prop.specs.declared.ways.Joint.{Joint}
use Rattle.grind_truth_prop.specs.declared.ways.Place.{Place}
use Rattle.grind_truth_prop.specs.declared.ways.Place.TheVariants.{Whole, First, Second}

-- what a connective makes of the truths of its arguments; a negation has but the first
abbrev pub joined : Head → Bool → Bool → Bool
joined heads.Not a b = not a
joined heads.And a b = a && b
joined heads.Or a b = a || b
joined heads.Implies a b = implies a b
joined heads.Eq a b = alike a b
joined heads.True a b = false
joined heads.False a b = false
joined heads.Le a b = false
joined (heads.Int number) a b = false
joined heads.Add a b = false
joined heads.Neg a b = false
joined heads.Mul a b = false
joined (heads.Fun function) a b = false
joined (heads.Const constant) a b = false

-- the arguments of a connective of these two
abbrev pub args_of : Head → ℕ → ℕ → List ℕ
args_of heads.Not a b = a ∷ []
args_of heads.And a b = a ∷ b ∷ []
args_of heads.Or a b = a ∷ b ∷ []
args_of heads.Implies a b = a ∷ b ∷ []
args_of heads.Eq a b = a ∷ b ∷ []
args_of heads.True a b = []
args_of heads.False a b = []
args_of heads.Le a b = []
args_of (heads.Int number) a b = []
args_of heads.Add a b = []
args_of heads.Neg a b = []
args_of heads.Mul a b = []
args_of (heads.Fun function) a b = []
args_of (heads.Const constant) a b = []

-- the head joins two truths
abbrev pub JoinsTwo : Head → Type 0
JoinsTwo heads.And = Unit {0}
JoinsTwo heads.Or = Unit {0}
JoinsTwo heads.Implies = Unit {0}
JoinsTwo heads.Eq = Unit {0}
JoinsTwo heads.Not = ⊥
JoinsTwo heads.True = ⊥
JoinsTwo heads.False = ⊥
JoinsTwo heads.Le = ⊥
JoinsTwo (heads.Int number) = ⊥
JoinsTwo heads.Add = ⊥
JoinsTwo heads.Neg = ⊥
JoinsTwo heads.Mul = ⊥
JoinsTwo (heads.Fun function) = ⊥
JoinsTwo (heads.Const constant) = ⊥

-- the mark lets the truth be this
pub record Allows (mark : Mark) (truth : Bool) : Type 0 where
  pub holds : IsTrue mark.holds → truth ≡ true
  pub fails : IsTrue mark.fails → truth ≡ false

-- the marks let the arguments have these truths
pub record IsWay (joint : Joint) (a b : Bool) : Type 0 where
  pub alike : IsTrue joint.alike → a ≡ b
  pub first : Allows joint.first a
  pub second : Allows joint.second b
  pub whole : Allows joint.whole (joined joint.head a b)

-- some truths are let through
abbrev pub HasWay : Joint → Type 0
HasWay joint = (a : Bool) × (b : Bool) × IsWay joint a b

-- the truth at that place
abbrev pub truth_in : Head → Place → Bool → Bool → Bool
truth_in head Whole a b = joined head a b
truth_in head First a b = a
truth_in head Second a b = b

-- the truth at that place can be this
abbrev pub CanHave : Joint → Place → Bool → Type 0
CanHave joint place value = (a : Bool) × (b : Bool) × IsWay joint a b × (truth_in joint.head place a b ≡ value)

-- it is this in each way
abbrev pub MustHave : Joint → Place → Bool → Type 0
MustHave joint place value = (a b : Bool) → IsWay joint a b → truth_in joint.head place a b ≡ value

-- the mark says what is known of the node
pub record IsMarkOf (known : Known) (n : ℕ) (mark : Mark) : Type 0 where
  pub holds : IsTrue mark.holds ↔ KnownToHold known n
  pub fails : IsTrue mark.fails ↔ KnownToFail known n

-- it says nothing
pub record IsBlank (mark : Mark) : Type 0 where
  pub holds : mark.holds ≡ false
  pub fails : mark.fails ≡ false

-- the arguments are marked as they are known
pub record IsJointOf (known : Known) (head : Head) (a b : ℕ) (joint : Joint) : Type 0 where
  pub head_is : joint.head ≡ head
  pub alike : IsTrue joint.alike ↔ (a ≡ b)
  pub first : IsMarkOf known a joint.first
  pub second : IsMarkOf known b joint.second
