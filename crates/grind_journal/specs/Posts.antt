-- What the posts of a journal claim.
use Rattle.std.specs.Prelude.{◌≡◌, ℕ, ◌≤◌, List, Some, slice_get}
use Rattle.std.specs.List.{sum_by}
use Rattle.grind_claims.specs.declared.claim.Claim.{Claim}
use Rattle.grind_claims.specs.declared.proof.Rule.{Rule}
use Rattle.grind_claims.specs.declared.proof.Rule.TheVariants as rules
use Rattle.grind_report_words.specs.declared.board.Post.{Post}

-- the post of this number claims this
abbrev pub IsClaimed : List Post → ℕ → Claim → Type 0
IsClaimed posts n claim = (post : Post) × (slice_get posts n ≡ Some post) × (post.claim ≡ claim)

-- the claim stands: a post makes it
abbrev pub Stands : List Post → Claim → Type 0
Stands posts claim = (n : ℕ) × IsClaimed posts n claim

-- the post of this number makes the claim, and none before it does
pub record IsFirst (posts : List Post) (claim : Claim) (n : ℕ) : Type 0 where
  pub claimed : IsClaimed posts n claim
  pub first : (m : ℕ) → IsClaimed posts m claim → n ≤ m

-- a post by the rule `branch` is a decision
abbrev pub decisions_of : Rule → ℕ
decisions_of rules.Branch = 1
decisions_of _ = 0

-- how many posts are decisions
abbrev pub decision_count : List Post → ℕ
decision_count posts = sum_by (λ (post : Post). decisions_of post.rule) posts
