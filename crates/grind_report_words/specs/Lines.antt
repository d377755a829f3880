-- The lines of branches, of a proof and of posts, each after its number.
use Rattle.std.specs.Prelude.{◌≡◌, ◌≢◌, ℕ, List, ◌∷◌, ◌++◌, All, codes, decimal}
use Rattle.grind_claims.specs.declared.claim.Claim.{Claim}
use Rattle.grind_claims.specs.declared.proof.Branch.{Branch}
use Rattle.grind_claims.specs.declared.proof.Line.{Line}
use Rattle.grind_claims.specs.declared.proof.Rule.{Rule}
use Rattle.grind_report_words.specs.declared.board.Post.{Post}
use Rattle.grind_report_words.specs.Words.{Words, IsShort}
use Rattle.grind_report_words.specs.Claims.{IsClaim}
use Rattle.grind_report_words.specs.RuleRows.{premise_word, PremiseFits, IsRule}

-- the words say this branch: its parent, the first line that may stand in it, and what it assumes
pub record IsBranch (words : Words) (branch : Branch) : Type 0 where
  pub claim : Words
  pub are : words ≡ decimal branch.parent ∷ decimal branch.after ∷ claim
  pub parent : IsShort branch.parent
  pub after : IsShort branch.after
  pub says : IsClaim claim branch.literal

-- the first colon among the words parts these from those
pub record IsCut (words before after : Words) : Type 0 where
  pub are : words ≡ before ++ codes ":" ∷ after
  pub first : All (λ word. word ≢ codes ":") before

-- the words say a rule with its premises, and after a colon a claim
pub record IsStep {P : Type 0} (word : P → List ℕ) (Fits : P → Type 0) (words : Words) (rule : Rule) (premises : List P) (claim : Claim) : Type 0 where
  pub before : Words
  pub after : Words
  pub cut : IsCut words before after
  pub rule_is : IsRule word Fits before rule premises
  pub says : IsClaim after claim

-- the words say this line of a proof: its branch, and then how it follows and what it claims
pub record IsLine (words : Words) (line : Line) : Type 0 where
  pub step : Words
  pub are : words ≡ decimal line.branch ∷ step
  pub branch : IsShort line.branch
  pub says : IsStep decimal IsShort step line.rule line.premises line.claim

-- the words say this post: how many decisions were in force, and then how it follows and what it claims
pub record IsPost (words : Words) (post : Post) : Type 0 where
  pub step : Words
  pub are : words ≡ decimal post.depth ∷ step
  pub depth : IsShort post.depth
  pub says : IsStep premise_word PremiseFits step post.rule post.premises post.claim
