-- What is found at one fact or at one pair. No public clause cites these words.
use Rattle.std.specs.Prelude.{◌≡◌, ℕ, ◌<◌, ◌⊎◌, Bool, IsTrue, ⊤, List, [], ◌∷◌, ◌++◌, Contains, Some}
use Rattle.grind_ring_basis.specs.declared.types.Fact.{Fact}
use Rattle.grind_ring_basis.specs.declared.types.Pair.{Pair}
use Rattle.grind_ring_basis.specs.declared.types.Places.{Places}
use Rattle.grind_ring_units.specs.declared.types.State.{State}
use Rattle.grind_ring_units.specs.declared.findings.Finding.{Finding}
use Rattle.grind_ring_units.specs.declared.findings.Finding.TheVariants as finding
use Rattle.grind_ring_units.specs.declared.findings.Marks.{Marks}
use Rattle.grind_ring_units.specs.declared.findings.Posts.{Posts}
use Rattle.grind_ring_units.specs.declared.findings.Scan.{Scan}
use Rattle.grind_ring_units.specs.declared.findings.Scan.TheVariants as scan
use Rattle.grind_ring_units.specs.PostUnits.{IsJoining, IsReduced, IsPostTooLarge, IsPostDone}
use Rattle.grind_ring_units.specs.PairUnits.{IsPairReduced, IsPairTooLarge, IsPairDone}
use Rattle.grind_ring_units.specs.Agendas.{IsPairSettled}
use Rattle.grind_ring_units.specs.Scans.{no_marks}

-- what is found at a fact that was taken
abbrev pub IsFoundAtPost : State → Fact → Finding → Type 0
IsFoundAtPost state it finding.Done = IsPostDone state it
IsFoundAtPost state it finding.Settled = ⊥
IsFoundAtPost state it finding.Own = IsJoining state it
IsFoundAtPost state it (finding.Form rest line) = IsReduced state it rest line
IsFoundAtPost state it finding.TooLarge = IsPostTooLarge state it

-- what is found at a pair
abbrev pub IsFoundAtPair : State → Places → Finding → Type 0
IsFoundAtPair state places finding.Done = IsPairDone state places
IsFoundAtPair state places finding.Settled = IsPairSettled state.basis places
IsFoundAtPair state places finding.Own = ⊥
IsFoundAtPair state places (finding.Form rest line) = (pair : Pair) × IsPairReduced state places pair rest line
IsFoundAtPair state places finding.TooLarge = IsPairTooLarge state places

-- what is found joins, where one more normal form may join or not
abbrev pub IsCase : Bool → Finding → Type 0
IsCase free finding.Done = ⊥
IsCase free finding.Settled = ⊥
IsCase free finding.Own = ⊤
IsCase free (finding.Form rest line) = IsTrue free
IsCase free finding.TooLarge = ⊥

-- the scan that ends with what is found at the fact
abbrev pub IsCaseScan : Finding → Fact → Scan → Type 0
IsCaseScan finding.Own it end = end ≡ scan.Own it
IsCaseScan (finding.Form rest line) it end = end ≡ scan.Form rest line
IsCaseScan finding.Done it end = end ≡ scan.Nothing no_marks
IsCaseScan finding.Settled it end = end ≡ scan.Nothing no_marks
IsCaseScan finding.TooLarge it end = end ≡ scan.Nothing no_marks

-- the scan that ends with what is found at a pair
abbrev pub IsFormScan : Finding → Scan → Type 0
IsFormScan finding.Own end = end ≡ scan.Nothing no_marks
IsFormScan (finding.Form rest line) end = end ≡ scan.Form rest line
IsFormScan finding.Done end = end ≡ scan.Nothing no_marks
IsFormScan finding.Settled end = end ≡ scan.Nothing no_marks
IsFormScan finding.TooLarge end = end ≡ scan.Nothing no_marks

-- the marks, with what is found at these posts
abbrev pub marked : Marks → Finding → Posts → Marks
marked marks finding.Done posts = marks
marked marks finding.Settled posts = marks
marked marks finding.Own posts = marks
marked marks (finding.Form rest line) posts = record { too_large = marks.too_large; left = Some posts }
marked marks finding.TooLarge posts = record { too_large = Some posts; left = marks.left }

-- the pairs that are left, with one more unless it is settled
abbrev pub kept : List Places → Places → Finding → List Places
kept left places finding.Settled = left
kept left places finding.Done = left ++ places ∷ []
kept left places finding.Own = left ++ places ∷ []
kept left places (finding.Form rest line) = left ++ places ∷ []
kept left places finding.TooLarge = left ++ places ∷ []

-- the pairs of the element at this place with those before that bound were put into the list
pub record IsRowEntered (old : List Places) (second bound : ℕ) (new : List Places) : Type 0 where
  pub stays : (places : Places) → Contains old places → Contains new places
  pub only : (places : Places) → Contains new places → Contains old places ⊎ ((places.first < places.second) × (places.second ≡ second))
  pub each : (places : Places) → places.first < bound → places.second ≡ second → Contains new places
