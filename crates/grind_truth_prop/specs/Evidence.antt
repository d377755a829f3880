-- What a claim may rest on: what is given.
use Rattle.std.specs.Prelude.{◌≡◌, ℕ, ◌⊎◌, List, All, Contains}
use Rattle.grind_classes.specs.Classes.{AreTogether}
use Rattle.grind_truth_prop.specs.Kernel.{Claim, Holds, Fails, Same, Differ, AtMost, Zero, Absurd}
use Rattle.grind_truth_prop.specs.Given.{couple, KnownToHold, KnownToFail}
use Rattle.grind_truth_prop.specs.declared.types.Known.{Known}

-- the claim is given: a known truth, two nodes in one class, or two nodes that are claimed to be different
abbrev pub IsGiven : Known → List (List ℕ) → Claim → Type 0
IsGiven known lists (Holds n) = KnownToHold known n
IsGiven known lists (Fails n) = KnownToFail known n
IsGiven known lists (Same a b) = AreTogether lists a b
IsGiven known lists (Differ a b) = Contains known.apart (couple a b)
IsGiven known lists (AtMost form) = ⊥
IsGiven known lists (Zero poly) = ⊥
IsGiven known lists Absurd = ⊥

-- the claim is a known truth of one of these nodes
abbrev pub IsTruthAmong : Known → List ℕ → Claim → Type 0
IsTruthAmong known nodes claim = (n : ℕ) × Contains nodes n
    × ((KnownToHold known n × (claim ≡ Holds n)) ⊎ (KnownToFail known n × (claim ≡ Fails n)))

-- the claims are the known truths of these nodes, each of them and nothing else
pub record AreTruthsAmong (known : Known) (nodes : List ℕ) (claims : List Claim) : Type 0 where
  pub only : All (IsTruthAmong known nodes) claims
  pub each : (claim : Claim) → IsTruthAmong known nodes claim → Contains claims claim
