-- Which posts are typed: those that their rule allows from earlier posts. An equality by earlier posts counts as a premise too.
use Rattle.std.specs.Prelude.{◌≡◌, ℕ, ⊤, List, [], ◌∷◌, Some, slice_get, take}
use Rattle.grind_term_graph.specs.declared.node.Node.{Node}
use Rattle.grind_schemes.specs.Goals.{GoalData}
use Rattle.grind_schemes.specs.declared.lemmas.Lemmas.{Lemmas}
use Rattle.grind_claims.specs.declared.claim.Claim.{Claim}
use Rattle.grind_claims.specs.declared.claim.Claim.TheVariants.{Same}
use Rattle.grind_claims.specs.Claims.{IsFormed}
use Rattle.grind_rules.specs.Rules.{RuleAllows}
use Rattle.grind_report_words.specs.declared.board.Post.{Post}
use Rattle.grind_report_words.specs.declared.board.Premise.{Premise}
use Rattle.grind_report_words.specs.declared.board.Premise.TheVariants as premises
use Rattle.grind_journal.specs.Posts.{IsClaimed}
use Rattle.grind_journal.specs.Joins.{Joined}

-- the premise counts as this claim: that of an earlier post, or the equality of two nodes of one class of the earlier posts
abbrev pub CountsAs : List ℕ → List Post → Premise → Claim → Type 0
CountsAs active earlier (premises.Post n) claim = IsClaimed earlier n claim
CountsAs active earlier (premises.Pair a b) claim = Joined active earlier a b × (claim ≡ Same a b)

-- the premises count as these claims, one by one
abbrev pub CountAs : List ℕ → List Post → List Premise → List Claim → Type 0
CountAs active earlier [] [] = ⊤
CountAs active earlier [] (claim ∷ claims) = ⊥
CountAs active earlier (premise ∷ more) [] = ⊥
CountAs active earlier (premise ∷ more) (claim ∷ claims) =
    CountsAs active earlier premise claim × CountAs active earlier more claims

-- the post is typed on the earlier ones, over these terms and active nodes: its claim is well formed, and its rule allows it
-- from its premises; by the rule `branch` it is a decision, which assumes what it claims
pub record IsTyped (lemmas : Lemmas) (goal : GoalData) (nodes : List Node) (active : List ℕ) (earlier : List Post) (post : Post)
    : Type 0 where
  pub formed : IsFormed nodes post.claim
  pub claims : List Claim
  pub counted : CountAs active earlier post.premises claims
  pub allowed : RuleAllows lemmas goal nodes (Some post.claim) post.rule claims post.claim

-- each post is typed on those before it
abbrev pub AreTyped : Lemmas → GoalData → List Node → List ℕ → List Post → Type 0
AreTyped lemmas goal nodes active posts = (i : ℕ) (post : Post) → slice_get posts i ≡ Some post →
    IsTyped lemmas goal nodes active (take i posts) post
