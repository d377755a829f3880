-- Boards without posts, while their nodes become active.
use Rattle.std.specs.Prelude.{◌≡◌, ℕ, ◌+◌, ◌<◌, ◌≤◌, ◌⊎◌, ◌↔◌, List, [], ◌∷◌, ◌++◌, All, Contains, length, slice_get, Some, refl}
use Rattle.std.proofs.Common.{arith, sym, ap, subst, ◌∙◌, inl, inr}
use Rattle.std.proofs.lemmas.Bool.{cases_eq}
use Rattle.std.proofs.lemmas.List.{map-append}
use Rattle.std.proofs.lemmas.Option.{same_Some}
use Rattle.std.proofs.lemmas.List.Elements.{All-nil, All-push, All-weaker, Contains-push, Contains-push_cases, Contains-append_left}
use Rattle.grind_term_graph.specs.declared.node.Node.{Node}
use Rattle.grind_classes.specs.Classes.{IsActive, AreTogether}
use Rattle.grind_claims.specs.declared.claim.Claim.{Claim}
use Rattle.grind_claims.specs.declared.claim.Claim.TheVariants.{Same}
use Rattle.grind_congruence.specs.Congruence.{Congruence}
use Rattle.grind_congruence.specs.Congruence as congruence
use Rattle.grind_congruence.specs.declared.edge.Edge.{Edge}
use Rattle.grind_report_words.specs.declared.board.Post.{Post}
use Rattle.grind_truth_prop.specs.declared.types.Known.{Known}
use Rattle.grind_known_posts.specs.Known.{KnowsAll}
use Rattle.grind_board_state.specs.declared.agent.Agent.{Agent}
use Rattle.grind_board_state.specs.declared.agent.Agent.TheVariants as agents
use Rattle.grind_board_state.specs.Agents.{cursor_of}
use Rattle.grind_journal.specs.Posts.{Stands}
use Rattle.grind_journal.specs.Joins.{AreClassesOfPosts}
use Rattle.grind_journal.proofs.Growth.{no_posts_no_classes, classes_of_activated}
use Rattle.grind_board_state.specs.declared.beginning.Activation.{Activation}
use Rattle.grind_board_state.specs.declared.beginning.Begun.{Begun}
use Rattle.grind_board_state.specs.States.{active_nodes, IsBoard}
use Rattle.grind_board_state.specs.Beginnings.{AreActiveBelow}

none_active : (x : ℕ) → IsActive [] x → ⊥
none_active x h = omega (arith, h.1.1)

none_listed : (x : ℕ) → Contains [] x → ⊥
none_listed x h = omega (arith, h.1)

none_stands : (claim : Claim) → Stands [] claim → ⊥
none_stands claim h = none_at h.0 h.1.0 h.1.1
  where
    none_at : (n : ℕ) (post : Post) → slice_get [] n ≡ Some post → ⊥
    none_at n post e = absurd cc

-- the arguments of the next node are active
pub args_active : (nodes : List Node) (it : Begun) (n : ℕ) (found : Node) → AreActiveBelow nodes it n → slice_get nodes n ≡ Some found
    → All (λ arg. arg < n) found.args → (node : Node) → slice_get nodes n ≡ Some node → All (IsActive it.closure.lists) node.args
args_active nodes it n found below is lower node same =
    let e : found ≡ node = same_Some found node (sym is ∙ same) in
    subst (λ (k : Node). All (IsActive it.closure.lists) k.args) e
    (All-weaker (λ arg. arg < n) (IsActive it.closure.lists) (λ arg less. (below.active arg).1 less) found.args lower)

-- at first none is active
pub none_below : (nodes : List Node) (it : Begun) → congruence.Fits it.closure nodes → it.closure.lists ≡ [] → it.closure.edges ≡ []
    → it.active ≡ [] → AreActiveBelow nodes it 0
none_below nodes it fits lists edges active = record {
  fits = fits;
  active = λ x. (λ h. absurd (none_active x (subst (λ (ls : List (List ℕ)). IsActive ls x) lists h)), λ h. absurd (omega (arith, h)));
  listed = λ x. (
    λ h. absurd (none_listed x (subst (λ (xs : List Activation). Contains (active_nodes xs) x) active h)),
    λ h. absurd (omega (arith, h)),
  );
  generations = subst (λ (xs : List Activation). All (λ (a : Activation). a.generation ≡ 0) xs) (sym active)
      (All-nil (λ (a : Activation). a.generation ≡ 0));
  classes = subst (λ (xs : List Activation). AreClassesOfPosts (active_nodes xs) [] it.closure.lists) (sym active)
      (subst (λ (ls : List (List ℕ)). AreClassesOfPosts [] [] ls) (sym lists) no_posts_no_classes);
  edges = edges;
}

below_or_at : (x n : ℕ) → (x < n + 1) ↔ ((x < n) ⊎ (x ≡ n))
below_or_at x n = (
  λ h. elim (cases_eq x n) [
    | inl e ↦ inr e
    | inr other ↦ inl (omega arith)
  ],
  λ h. elim h [
    | inl less ↦ omega (arith, less)
    | inr e ↦ omega (arith, e)
  ],
)

-- and then one more
pub one_more_below : (nodes : List Node) (old new : Begun) (n : ℕ) → AreActiveBelow nodes old n → congruence.Fits new.closure nodes
    → ((x : ℕ) → IsActive new.closure.lists x ↔ (IsActive old.closure.lists x ⊎ (x ≡ n)))
    → ((x y : ℕ) → AreTogether new.closure.lists x y ↔ (AreTogether old.closure.lists x y ⊎ ((x ≡ n) × (y ≡ n))))
    → new.closure.edges ≡ old.closure.edges → new.active ≡ old.active ++ record { node = n; generation = 0 } ∷ []
    → AreActiveBelow nodes new (n + 1)
one_more_below nodes old new n it fits active together edges longer = record {
  fits = fits;
  active = λ x. (
    λ h. (below_or_at x n).1 (elim ((active x).0 h) [
      | inl old_is ↦ inl ((it.active x).0 old_is)
      | inr e ↦ inr e
    ]),
    λ h. (active x).1 (elim ((below_or_at x n).0 h) [
      | inl less ↦ inl ((it.active x).1 less)
      | inr e ↦ inr e
    ]),
  );
  listed = λ x. (
    λ h. (below_or_at x n).1 (elim (Contains-push_cases (active_nodes old.active) n x (subst (λ (xs : List ℕ). Contains xs x) nodes_are h)) [
      | inl old_is ↦ inl ((it.listed x).0 old_is)
      | inr e ↦ inr (sym e)
    ]),
    λ h. subst (λ (xs : List ℕ). Contains xs x) (sym nodes_are) (elim ((below_or_at x n).0 h) [
      | inl less ↦ Contains-append_left (active_nodes old.active) (n ∷ []) x ((it.listed x).1 less)
      | inr e ↦ subst (λ (k : ℕ). Contains (active_nodes old.active ++ n ∷ []) k) (sym e) (Contains-push (active_nodes old.active) n)
    ]),
  );
  generations = subst (λ (xs : List Activation). All (λ (a : Activation). a.generation ≡ 0) xs) (sym longer)
      (All-push (λ (a : Activation). a.generation ≡ 0) old.active (record { node = n; generation = 0 }) it.generations refl);
  classes = subst (λ (xs : List ℕ). AreClassesOfPosts xs [] new.closure.lists) (sym nodes_are)
      (classes_of_activated (active_nodes old.active) [] old.closure.lists new.closure.lists n
      (λ a b stands. absurd (none_stands (Same a b) stands)) it.classes fresh together);
  edges = edges ∙ it.edges;
}
  where
    nodes_are : active_nodes new.active ≡ active_nodes old.active ++ n ∷ []
    nodes_are = ap (λ (xs : List Activation). active_nodes xs) longer
        ∙ map-append (λ (a : Activation). a.node) old.active (record { node = n; generation = 0 } ∷ [])

    fresh : ¬ IsActive old.closure.lists n
    fresh h = let low = (it.active n).0 h in omega (arith, low)

-- a board without posts is one
pub begun_board : (nodes : List Node) (it : Begun) (known : Known) (posts : List Post) → AreActiveBelow nodes it (length nodes)
    → known.terms.nodes ≡ nodes → KnowsAll [] known → posts ≡ []
    → IsBoard (record {
      known = known;
      closure = it.closure;
      posts = posts;
      active = it.active;
      cursors = record { closure = 0; truth = 0; ring = 0; cutsat = 0; matching = 0 };
    })
begun_board nodes it known posts below terms knows none =
    subst (λ (ps : List Post). IsBoard (record {
      known = known;
      closure = it.closure;
      posts = ps;
      active = it.active;
      cursors = record { closure = 0; truth = 0; ring = 0; cutsat = 0; matching = 0 };
    })) (sym none) (record {
      knows = knows;
      speak = λ claim stands. absurd (none_stands claim stands);
      fits = subst (λ (ns : List Node). congruence.Fits it.closure ns) (sym terms) below.fits;
      active = λ n. (λ h. (below.listed n).1 ((below.active n).0 h), λ h. (below.active n).1 ((below.listed n).0 h));
      classes = below.classes;
      edges = λ k edge stands. absurd (no_edge k edge (subst (λ (es : List Edge). slice_get es k ≡ Some edge) below.edges stands));
      read = none_read;
    })
  where
    no_edge : (k : ℕ) (edge : Edge) → slice_get [] k ≡ Some edge → ⊥
    no_edge k edge h = absurd cc

    none_read : (agent : Agent) → cursor_of agent (record { closure = 0; truth = 0; ring = 0; cutsat = 0; matching = 0 }) ≤ 0
    none_read agents.Closure = omega arith
    none_read agents.Truth = omega arith
    none_read agents.Ring = omega arith
    none_read agents.Cutsat = omega arith
    none_read agents.Match = omega arith
