-- What is known by the posts of a journal.
use Rattle.std.specs.Prelude.{◌≡◌, ℕ, List, Option, Some, None, length, ◌↔◌}
use Rattle.std.specs.List.{filter_map}
use Rattle.grind_claims.specs.declared.claim.Claim.{Claim}
use Rattle.grind_claims.specs.declared.claim.Claim.TheVariants.{Holds, Fails, Same, Differ}
use Rattle.grind_report_words.specs.declared.board.Post.{Post}
use Rattle.grind_truth_prop.specs.Given.{couple, KnownToHold, KnownToFail}
use Rattle.grind_truth_prop.specs.declared.types.Couple.{Couple}
use Rattle.grind_truth_prop.specs.declared.types.Known.{Known}
use Rattle.grind_journal.specs.Posts.{Stands}

-- the two nodes that a claim says to be equal
abbrev pub equal_nodes : Claim → Option Couple
equal_nodes (Same left right) = Some (couple left right)
equal_nodes _ = None

-- the two nodes that a claim says to be different
abbrev pub different_nodes : Claim → Option Couple
different_nodes (Differ left right) = Some (couple left right)
different_nodes _ = None

-- there is a mark for each term
pub record HasMarks (known : Known) : Type 0 where
  pub holds_count : length known.holds ≡ length known.terms.nodes
  pub fails_count : length known.fails ≡ length known.terms.nodes

-- what is known is what the posts say: which formulas hold and which fail, and which nodes are equal and which different, in
-- the order of the posts
pub record KnowsAll (posts : List Post) (known : Known) : Type 0 where
  pub marks : HasMarks known
  pub holds : (n : ℕ) → KnownToHold known n ↔ Stands posts (Holds n)
  pub fails : (n : ℕ) → KnownToFail known n ↔ Stands posts (Fails n)
  pub same : known.same ≡ filter_map (λ (post : Post). equal_nodes post.claim) posts
  pub apart : known.apart ≡ filter_map (λ (post : Post). different_nodes post.claim) posts
