-- The state of a board.
use Rattle.std.specs.Prelude.{◌≡◌, ℕ, ◌<◌, ◌≤◌, List, [], ◌∷◌, ◌++◌, Some, All, Contains, length, map, take, slice_get, ◌↔◌}
use Rattle.grind_term_graph.specs.declared.table.TermTable.{TermTable}
use Rattle.grind_classes.specs.Classes.{IsActive}
use Rattle.grind_claims.specs.declared.claim.Claim.TheVariants.{Same}
use Rattle.grind_congruence.specs.Congruence.{Congruence}
use Rattle.grind_congruence.specs.Congruence as congruence
use Rattle.grind_congruence.specs.declared.edge.Edge.{Edge}
use Rattle.grind_report_words.specs.declared.board.Post.{Post}
use Rattle.grind_truth_prop.specs.declared.types.Known.{Known}
use Rattle.grind_journal.specs.Posts.{IsClaimed}
use Rattle.grind_journal.specs.Joins.{AreClassesOfPosts}
use Rattle.grind_known_posts.specs.Known.{KnowsAll}
use Rattle.grind_known_posts.specs.Laws.{SpeakOfActive}
use Rattle.grind_board_state.specs.declared.agent.Agent.{Agent}
use Rattle.grind_board_state.specs.declared.agent.Agent.TheVariants as agents
use Rattle.grind_board_state.specs.declared.agent.Cursors.{Cursors}
use Rattle.grind_board_state.specs.declared.beginning.Activation.{Activation}
use Rattle.grind_board_state.specs.Agents.{cursor_of, advanced}
use Rattle.grind_board_state.specs.Reads.{IsTakenIn}

-- what a contract sees of the state of a board: the terms and what is known of them, the closure, the posts, the active nodes
-- in the order in which they became active, and how far each agent has read
pub record BoardData : Type 0 where
  pub known : Known
  pub closure : Congruence
  pub posts : List Post
  pub active : List Activation
  pub cursors : Cursors

-- the nodes of these
abbrev pub active_nodes : List Activation → List ℕ
active_nodes active = map (λ (it : Activation). it.node) active

-- each edge says what the post of its number claims, which congruence closure has read
abbrev pub AreEdgesOfPosts : List Post → ℕ → List Edge → Type 0
AreEdgesOfPosts posts count edges = (k : ℕ) (edge : Edge) → slice_get edges k ≡ Some edge →
    (edge.why < count) × IsClaimed posts edge.why (Same edge.left edge.right)

-- what holds of every board
pub record IsBoard (it : BoardData) : Type 0 where
  -- what is known is what the posts say
  pub knows : KnowsAll it.posts it.known
  -- each claim is well formed, and speaks of active nodes
  pub speak : SpeakOfActive it.known.terms.nodes (active_nodes it.active) it.posts
  -- the closure is one over the terms
  pub fits : congruence.Fits it.closure it.known.terms.nodes
  -- its nodes are the active ones
  pub active : (n : ℕ) → IsActive it.closure.lists n ↔ Contains (active_nodes it.active) n
  -- its classes are those of the posts that it has read
  pub classes : AreClassesOfPosts (active_nodes it.active) (take it.cursors.closure it.posts) it.closure.lists
  -- and its edges are such posts
  pub edges : AreEdgesOfPosts it.posts it.cursors.closure it.closure.edges
  -- no agent has read more posts than there are
  pub read : (agent : Agent) → cursor_of agent it.cursors ≤ length it.posts

-- a board over these terms, without posts: each node is active, in generation 0
pub record IsBegun (terms : TermTable) (it : BoardData) : Type 0 where
  pub terms_are : it.known.terms ≡ terms
  pub none_posted : it.posts ≡ []
  pub all_active : (n : ℕ) → Contains (active_nodes it.active) n ↔ (n < length terms.nodes)
  pub first_generation : All (λ (a : Activation). a.generation ≡ 0) it.active
  pub none_read : (agent : Agent) → cursor_of agent it.cursors ≡ 0

-- one post more was made, and nothing else changed than what is known
pub record IsPosted (post : Post) (old new : BoardData) : Type 0 where
  pub posts : new.posts ≡ old.posts ++ post ∷ []
  pub terms : new.known.terms ≡ old.known.terms
  pub closure : new.closure ≡ old.closure
  pub active : new.active ≡ old.active
  pub cursors : new.cursors ≡ old.cursors

-- what congruence closure has of the post that an agent reads: the others leave it
abbrev pub ReadsPost : Agent → ℕ → Post → Congruence → Congruence → Type 0
ReadsPost agents.Closure number post old new = IsTakenIn number post.claim old new
ReadsPost _ number post old new = new ≡ old

-- the agent has read the post at its cursor, and nothing else changed
pub record IsRead (agent : Agent) (old new : BoardData) : Type 0 where
  pub post : Post
  pub stands : slice_get old.posts (cursor_of agent old.cursors) ≡ Some post
  pub closure : ReadsPost agent (cursor_of agent old.cursors) post old.closure new.closure
  pub cursors : new.cursors ≡ advanced agent old.cursors
  pub posts : new.posts ≡ old.posts
  pub known : new.known ≡ old.known
  pub active : new.active ≡ old.active
