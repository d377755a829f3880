-- Boards without posts, while their nodes become active. No public clause cites these words.
use Rattle.std.specs.Prelude.{◌≡◌, ℕ, ◌<◌, List, [], All, Contains, ◌↔◌}
use Rattle.grind_term_graph.specs.declared.node.Node.{Node}
use Rattle.grind_classes.specs.Classes.{IsActive}
use Rattle.grind_congruence.specs.Congruence as congruence
use Rattle.grind_journal.specs.Joins.{AreClassesOfPosts}
use Rattle.grind_board_state.specs.declared.beginning.Activation.{Activation}
use Rattle.grind_board_state.specs.declared.beginning.Begun.{Begun}
use Rattle.grind_board_state.specs.States.{active_nodes}

-- exactly the nodes below n are active, each in generation 0 and a class of its own
pub record AreActiveBelow (nodes : List Node) (it : Begun) (n : ℕ) : Type 0 where
  pub fits : congruence.Fits it.closure nodes
  pub active : (x : ℕ) → IsActive it.closure.lists x ↔ (x < n)
  pub listed : (x : ℕ) → Contains (active_nodes it.active) x ↔ (x < n)
  pub generations : All (λ (a : Activation). a.generation ≡ 0) it.active
  pub classes : AreClassesOfPosts (active_nodes it.active) [] it.closure.lists
  pub edges : it.closure.edges ≡ []
