-- What a pass over all facts that were taken, or over all pairs of basis elements, tells.
use Rattle.std.specs.Prelude.{◌≡◌, ℕ, ◌<◌, ◌⊎◌, Contains, None, MatchOption}
use Rattle.grind_ring_basis.specs.declared.types.Fact.{Fact}
use Rattle.grind_ring_basis.specs.declared.types.Pair.{Pair}
use Rattle.grind_ring_basis.specs.declared.types.Places.{Places}
use Rattle.grind_ring_units.specs.declared.types.State.{State}
use Rattle.grind_ring_units.specs.declared.findings.Marks.{Marks}
use Rattle.grind_ring_units.specs.declared.findings.Posts.{Posts}
use Rattle.grind_ring_units.specs.declared.findings.Scan.{Scan}
use Rattle.grind_ring_units.specs.declared.findings.Scan.TheVariants as scan
use Rattle.grind_ring_units.specs.PostUnits.{IsJoining, IsReduced, WouldReduce, IsPostTooLarge, IsPostDone}
use Rattle.grind_ring_units.specs.PairUnits.{IsPairReduced, IsPairTooLarge, IsPairDone, WouldJoinPair, ArePostsAt}

-- two posts
abbrev pub posts_of : ℕ → ℕ → Posts
posts_of first second = record { first = first; second = second }

-- nothing stands in the way
abbrev pub no_marks : Marks
no_marks = record { too_large = None; left = None }

-- each of all that is P is still to come
abbrev pub OnlyLater : (K : Type 0) → (K → Type 0) → (K → Type 0) → (K → Type 0) → Type 0
OnlyLater K all later P = (k : K) → all k → P k → later k

-- one of all is P, and these are its posts
abbrev pub IsOneOf : (K : Type 0) → (K → Type 0) → (K → Type 0) → (K → Posts → Type 0) → Posts → Type 0
IsOneOf K all P are_posts posts = (k : K) × all k × P k × are_posts k posts

-- what the marks say of all but those that are still to come: each of these is done, or a number in it does not fit, or it would
-- give a normal form that joins; none joins as it is; of which posts a number does not fit, and which would give a normal form
-- that joins. None of the latter is passed over where one more may join
pub record AreMarked (K : Type 0) (all later done own large joins : K → Type 0) (are_posts : K → Posts → Type 0) (free : Type 0) (marks : Marks) : Type 0 where
  pub judged : (k : K) → all k → (later k ⊎ done k) ⊎ (large k ⊎ joins k)
  pub none_own : OnlyLater K all later own
  pub too_large : MatchOption marks.too_large (OnlyLater K all later large) (λ posts. IsOneOf K all large are_posts posts)
  pub would_join : MatchOption marks.left (OnlyLater K all later joins) (λ posts. IsOneOf K all joins are_posts posts)
  pub none_left : free → marks.left ≡ None

-- one more normal form may join
abbrev pub MayJoin : State → Type 0
MayJoin state = state.made < state.limit

-- the posts of a fact
abbrev pub ArePostsOf : Fact → Posts → Type 0
ArePostsOf it posts = posts ≡ posts_of it.post it.post

-- what the marks say of the facts that were taken, but those that are still to come
abbrev pub AreMarkedPosts : State → (Fact → Type 0) → Marks → Type 0
AreMarkedPosts state later marks =
    AreMarked Fact (λ (it : Fact). Contains state.taken it) later (IsPostDone state) (IsJoining state) (IsPostTooLarge state) (WouldReduce state) ArePostsOf (MayJoin state) marks

-- none is still to come
abbrev pub no_posts : Fact → Type 0
no_posts it = ⊥

-- what comes of the facts that were taken: one that joins as it is, or whose normal form joins, or the marks of all
abbrev pub IsPostScan : State → Scan → Type 0
IsPostScan state (scan.Own it) = Contains state.taken it × IsJoining state it
IsPostScan state (scan.Form rest line) = MayJoin state × (it : Fact) × Contains state.taken it × IsReduced state it rest line
IsPostScan state (scan.Nothing marks) = AreMarkedPosts state no_posts marks

-- the posts of two elements
abbrev pub ArePostsOfPair : State → Places → Posts → Type 0
ArePostsOfPair state places posts = ArePostsAt state places posts.first posts.second

-- the earlier element stands first, and both are there
abbrev pub IsWithin : ℕ → Places → Type 0
IsWithin count places = (places.first < places.second) × (places.second < count)

-- what the marks say of the pairs among so many elements, but those that are still to come
abbrev pub AreMarkedPairs : State → ℕ → (Places → Type 0) → Marks → Type 0
AreMarkedPairs state count later marks =
    AreMarked Places (IsWithin count) later (IsPairDone state) (λ (places : Places). ⊥) (IsPairTooLarge state) (WouldJoinPair state) (ArePostsOfPair state) (MayJoin state) marks

-- what comes of the pairs, but those that are still to come: a normal form that joins, or the marks
abbrev pub IsPairScan : State → ℕ → (Places → Type 0) → Scan → Type 0
IsPairScan state count later (scan.Own it) = ⊥
IsPairScan state count later (scan.Form rest line) = MayJoin state × (places : Places) × (pair : Pair) × IsPairReduced state places pair rest line
IsPairScan state count later (scan.Nothing marks) = AreMarkedPairs state count later marks

-- no pair is still to come
abbrev pub no_pairs : Places → Type 0
no_pairs places = ⊥
