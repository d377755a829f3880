-- The classes of a journal: those of the least equivalence over the active nodes that holds each equality posted.
use Rattle.std.specs.Prelude.{ℕ, List, Contains, ◌↔◌}
use Rattle.grind_claims.specs.declared.claim.Claim.TheVariants.{Same}
use Rattle.grind_report_words.specs.declared.board.Post.{Post}
use Rattle.grind_classes.specs.Classes.{AreTogether}
use Rattle.grind_journal.specs.Posts.{Stands}

-- two nodes are equal by what was posted
pub data Joined (active : List ℕ) (posts : List Post) : ℕ → ℕ → Type 0 where
  -- an equality of active nodes that was posted
  posted : {a b : ℕ} → Stands posts (Same a b) → Contains active a → Contains active b → Joined active posts a b
  -- an active node is itself
  itself : {a : ℕ} → Contains active a → Joined active posts a a
  -- read from the right
  turned : {a b : ℕ} → Joined active posts a b → Joined active posts b a
  -- one after the other
  chained : {a b c : ℕ} → Joined active posts a b → Joined active posts b c → Joined active posts a c

-- the lists are the classes of the active nodes by the posts
abbrev pub AreClassesOfPosts : List ℕ → List Post → List (List ℕ) → Type 0
AreClassesOfPosts active posts lists = (a b : ℕ) → AreTogether lists a b ↔ Joined active posts a b

-- every equality posted is of active nodes
abbrev pub EquationsAreActive : List ℕ → List Post → Type 0
EquationsAreActive active posts = (a b : ℕ) → Stands posts (Same a b) → Contains active a × Contains active b
