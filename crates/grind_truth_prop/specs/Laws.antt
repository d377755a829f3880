-- What each answer lets be said, by which rule and from what; and what is left where nothing follows.
use Rattle.std.specs.Prelude.{◌≡◌, ℕ, ◌⊎◌, Bool, List, [], ◌∷◌, All, Contains}
use Rattle.grind_term_graph.specs.declared.head.Head.{Head}
use Rattle.grind_term_graph.specs.Shape.{IsTermTable}
use Rattle.grind_classes.specs.Classes.{IsActive, AreTogether}
use Rattle.grind_truth_prop.specs.Kernel.{Claim, Holds, Fails, Same, Differ, Absurd, IsFormed, IsEquation, SaysUntruth, SaysEq, SaysBack, SaysApart, SaysTable}
use Rattle.grind_truth_prop.specs.Given.{couple, KnownToHold, KnownToFail, IsKnown, IsUnknown, truth_node, Fits}
use Rattle.grind_truth_prop.specs.Evidence.{IsGiven, IsTruthAmong, AreTruthsAmong}
use Rattle.grind_truth_prop.specs.Classed.{IsClassed, literal, classed_premises}
use Rattle.grind_truth_prop.specs.Sides.{SidesFollow}
use Rattle.grind_truth_prop.specs.Equations.{IsJoined, AreAlong, IsParted, parted_premises, AreNotParted}
use Rattle.grind_truth_prop.specs.Connectives.{IsConnective, IsFixed, IsImpossible, AreFreeNodes}
use Rattle.grind_truth_prop.specs.Splits.{IsFixedByArguments, IsTrialNode}
use Rattle.grind_truth_prop.specs.Steps.{IsStep}
use Rattle.grind_truth_prop.specs.declared.types.Couple.{Couple}
use Rattle.grind_truth_prop.specs.declared.types.Known.{Known}
use Rattle.grind_truth_prop.specs.declared.types.TruthStep.TheVariants.{Wants, Rest}

-- the terms are those of a term table
abbrev pub HasTable : Known → Type 0
HasTable known = IsTermTable known.terms.nodes known.terms.limit

-- the premises are given, and the claim is well formed
pub record RestsOn (known : Known) (lists : List (List ℕ)) (premises : List Claim) (claim : Claim) : Type 0 where
  pub given : All (IsGiven known lists) premises
  pub formed : IsFormed known.terms.nodes claim

-- what is in the class of `True` or `False` holds or fails, by the rule `untruth`
abbrev pub ClassedIsTyped : Type 0
ClassedIsTyped = (known : Known) (lists : List (List ℕ)) (node : ℕ) (value : Bool) → Fits known lists → HasTable known
    → IsClassed known lists node value
    → SaysUntruth (classed_premises node value) (literal node value)
    × RestsOn known lists (classed_premises node value) (literal node value)

-- the sides of a known equation are equal or different, by the rule `eq`
abbrev pub SidesAreTyped : Type 0
SidesAreTyped = (known : Known) (lists : List (List ℕ)) (node : ℕ) (premise claim : Claim) → Fits known lists → HasTable known
    → SidesFollow known lists node premise claim
    → SaysEq known.terms.nodes (premise ∷ []) claim × RestsOn known lists (premise ∷ []) claim

-- an equation of two nodes in one class holds, by the rule `back`
abbrev pub JoinedIsTyped : Type 0
JoinedIsTyped = (known : Known) (lists : List (List ℕ)) (node a b : ℕ) → Fits known lists → HasTable known
    → IsJoined known lists node a b
    → SaysBack known.terms.nodes (Same a b ∷ []) (Holds node) × RestsOn known lists (Same a b ∷ []) (Holds node)

-- a and b are different, by the rule `apart` from the pair's two being so; c and d are a and b, or b and a
pub record IsPartedLine (known : Known) (lists : List (List ℕ)) (a b c d : ℕ) (pair : Couple) : Type 0 where
  pub rule : SaysApart known.terms.nodes (parted_premises c d pair) (Differ a b)
  pub rests : RestsOn known lists (parted_premises c d pair) (Differ a b)

-- two sides that are different up to class are different, by the rule `apart`, and so their equation fails, by the rule
-- `back`
abbrev pub PartedIsTyped : Type 0
PartedIsTyped = (known : Known) (lists : List (List ℕ)) (node a b place : ℕ) (pair : Couple) → Fits known lists → HasTable known
    → IsParted known lists node a b place pair
    → (AreAlong lists a b pair → IsPartedLine known lists a b a b pair)
    × (AreAlong lists b a pair → IsPartedLine known lists a b b a pair)
    × SaysBack known.terms.nodes (Differ a b ∷ []) (Fails node)
    × IsFormed known.terms.nodes (Fails node)

-- what the truth table of a connective leaves one truth has it, by the rule `table` over the arguments, from all known truths
-- of the connective and its arguments
abbrev pub SettledIsTyped : Type 0
SettledIsTyped = (known : Known) (lists : List (List ℕ)) (node : ℕ) (head : Head) (args : List ℕ) (n : ℕ) (value : Bool)
    (free : List ℕ) (premises : List Claim) → Fits known lists → HasTable known
    → IsFixed known lists node head args n value → AreFreeNodes free args → AreTruthsAmong known (node ∷ args) premises
    → SaysTable known.terms.nodes free premises (literal n value) × RestsOn known lists premises (literal n value)

-- and where it leaves nothing possible, that is a contradiction
abbrev pub ContradictedIsTyped : Type 0
ContradictedIsTyped = (known : Known) (lists : List (List ℕ)) (node : ℕ) (head : Head) (args : List ℕ)
    (free : List ℕ) (premises : List Claim) → Fits known lists → HasTable known
    → IsImpossible known lists node head args → AreFreeNodes free args → AreTruthsAmong known (node ∷ args) premises
    → SaysTable known.terms.nodes free premises Absurd × RestsOn known lists premises Absurd

-- the two are in one class, or claimed to be equal, in either order
abbrev pub AreJoined : Known → List (List ℕ) → ℕ → ℕ → Type 0
AreJoined known lists a b = AreTogether lists a b ⊎ (Contains known.same (couple a b) ⊎ Contains known.same (couple b a))

-- no consequence is left
pub record NoConsequenceLeft (known : Known) (lists : List (List ℕ)) : Type 0 where
  -- what is in the class of `True` or `False` is known
  pub classes : (n : ℕ) (value : Bool) → AreTogether lists n (truth_node value) → IsKnown known n
  -- the sides of an equation that holds are joined
  pub holds : (n a b : ℕ) → IsEquation known.terms.nodes n a b → KnownToHold known n → AreJoined known lists a b
  -- those of one that fails are claimed to be different
  pub fails : (n a b : ℕ) → IsEquation known.terms.nodes n a b → KnownToFail known n → Contains known.apart (couple a b)
  -- those of one that is not known are in different classes and no different nodes up to class
  pub unknown : (n a b : ℕ) → IsEquation known.terms.nodes n a b → IsUnknown known lists n
      → ¬ AreTogether lists a b × AreNotParted known lists a b
  -- no line by the rule `table` over a connective and its arguments, from known truths among these, gives one of them that is
  -- not known a truth
  pub tables : (node : ℕ) (head : Head) (args free : List ℕ) (premises : List Claim) (n : ℕ) (value : Bool)
      → IsActive lists node → IsConnective known.terms.nodes node head args → AreFreeNodes free args
      → All (IsTruthAmong known (node ∷ args)) premises → Contains (node ∷ args) n → IsUnknown known lists n
      → ¬ SaysTable known.terms.nodes free premises (literal n value)
  -- and none gives a contradiction
  pub clashes : (node : ℕ) (head : Head) (args free : List ℕ) (premises : List Claim)
      → IsActive lists node → IsConnective known.terms.nodes node head args → AreFreeNodes free args
      → All (IsTruthAmong known (node ∷ args)) premises → ¬ SaysTable known.terms.nodes free premises Absurd

-- nothing is to be tried
pub record NothingToTry (known : Known) (lists : List (List ℕ)) : Type 0 where
  -- each known connective is fixed by the known truths of its arguments, or by sides in one class
  pub fixed : (node : ℕ) (head : Head) (args : List ℕ) → IsKnown known node → IsConnective known.terms.nodes node head args
      → IsFixedByArguments known lists node head args
  -- each connective, equation or comparison that is not known is alone in its class
  pub alone : (node other : ℕ) → IsUnknown known lists node → IsTrialNode known.terms.nodes node → AreTogether lists node other → other ≡ node

-- where a formula is wanted, no consequence is left
abbrev pub NoConsequenceAtWants : Type 0
NoConsequenceAtWants = (known : Known) (lists : List (List ℕ)) (n : ℕ) → Fits known lists → HasTable known → IsStep known lists (Wants n)
    → NoConsequenceLeft known lists

-- at rest no consequence is left, and nothing is to be tried
abbrev pub NothingLeftAtRest : Type 0
NothingLeftAtRest = (known : Known) (lists : List (List ℕ)) → Fits known lists → HasTable known → IsStep known lists Rest
    → NoConsequenceLeft known lists × NothingToTry known lists
