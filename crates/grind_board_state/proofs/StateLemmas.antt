-- What stays of a board where a post is made or read.
use Rattle.std.specs.Prelude.{◌≡◌, ℕ, zero, suc, ◌+◌, ◌<◌, ◌≤◌, ◌⊎◌, ◌↔◌, List, [], ◌∷◌, ◌++◌, Some, Contains, length, take, slice_get, refl}
use Rattle.std.proofs.Math.ListN.{get_or}
use Rattle.std.proofs.Common.{arith, sym, ap, subst, ◌∙◌, inl, inr}
use Rattle.std.proofs.lemmas.List.{take-append-le, take_more}
use Rattle.std.proofs.lemmas.Option.{same_Some, slice_get_within, slice_get_read, get_or_from_slice_get}
use Rattle.grind_term_graph.specs.declared.node.Node.{Node}
use Rattle.grind_classes.specs.Classes.{IsActive, AreTogether}
use Rattle.grind_claims.specs.declared.claim.Claim.{Claim}
use Rattle.grind_claims.specs.declared.claim.Claim.TheVariants as claims
use Rattle.grind_claims.specs.Claims.{IsFormed}
use Rattle.grind_congruence.specs.Congruence.{Congruence}
use Rattle.grind_congruence.specs.Congruence as congruence
use Rattle.grind_congruence.specs.Asserted.{IsJoined}
use Rattle.grind_congruence.specs.declared.edge.Edge.{Edge}
use Rattle.grind_report_words.specs.declared.board.Post.{Post}
use Rattle.grind_truth_prop.specs.declared.types.Known.{Known}
use Rattle.grind_truth_prop.specs.Given.{Fits}
use Rattle.grind_journal.specs.Posts.{IsClaimed}
use Rattle.grind_journal.specs.Joins.{AreClassesOfPosts}
use Rattle.grind_journal.proofs.Growth.{item_last, claimed_stays, stood_or_last, classes_of_merged, classes_of_known, classes_of_other}
use Rattle.grind_known_posts.proofs.FitLemmas.{known_fits}
use Rattle.grind_known_posts.specs.Known.{KnowsAll}
use Rattle.grind_known_posts.specs.Laws.{SpeaksOf, SpeakOfActive}
use Rattle.grind_board_state.specs.declared.agent.Agent.{Agent}
use Rattle.grind_board_state.specs.declared.agent.Agent.TheVariants as agents
use Rattle.grind_board_state.specs.declared.agent.Cursors.{Cursors}
use Rattle.grind_board_state.specs.Agents.{cursor_of, advanced}
use Rattle.grind_board_state.specs.Reads.{HasSides, IsTakenIn}
use Rattle.grind_board_state.specs.States.{BoardData, active_nodes, AreEdgesOfPosts, IsBoard, ReadsPost}

-- ---- what is known fits the classes

first_stands : (posts : List Post) (n k : ℕ) (post : Post) → slice_get (take n posts) k ≡ Some post → slice_get posts k ≡ Some post
first_stands [] zero k post h = h
first_stands [] (suc n) k post h = h
first_stands (x ∷ posts) zero k post h = absurd cc
first_stands (x ∷ posts) (suc n) zero post h = h
first_stands (x ∷ posts) (suc n) (suc k) post h = first_stands posts n k post h

pub board_fits : (it : BoardData) → IsBoard it → Fits it.known it.closure.lists
board_fits it board =
    known_fits (active_nodes it.active) it.posts (take it.cursors.closure it.posts) it.known it.closure board.knows board.speak
    (λ claim stands. board.speak claim
    (stands.0, (stands.1.0, first_stands it.posts it.cursors.closure stands.0 stands.1.0 stands.1.1, stands.1.2)))
    board.fits board.active board.classes

-- what stands at a place of a list
pub at_place : {X : Type 0} (xs : List X) (n : ℕ) → n < length xs → (x : X) × (slice_get xs n ≡ Some x)
at_place [] n within = absurd (omega (arith, within))
at_place (x ∷ xs) zero within = (x, refl)
at_place (x ∷ xs) (suc n) within = at_place xs n (omega (arith, within))

-- an item of a list that is read at its place
pub item_read : {X : Type 0} (xs ys : List X) (i : ℕ) (x : X) → ys ≡ xs → i < length xs → x ≡ get_or ys i x → slice_get xs i ≡ Some x
item_read {X} xs ys i x same within is =
    slice_get_read xs (length xs) i x refl within (is ∙ ap (λ (zs : List X). get_or zs i x) same)

-- the post that was made last
pub last_is : (old new : List Post) (post found : Post) (n : ℕ) → new ≡ old ++ post ∷ [] → n ≡ length old → found ≡ get_or new n found
    → found ≡ post
last_is old new post found n made count is =
    let there : slice_get new n ≡ Some found = slice_get_read new (length new) n found refl within is in
    same_Some found post (sym there ∙ ap (λ (xs : List Post). slice_get xs n) made ∙ ap (λ (k : ℕ). slice_get (old ++ post ∷ []) k) count
    ∙ item_last old post)
  where
    longer : (posts : List Post) → length (posts ++ post ∷ []) ≡ length posts + 1
    longer [] = refl
    longer (x ∷ posts) = let it = longer posts in omega (arith, it)

    within : n < length new
    within = let size = ap (λ (xs : List Post). length xs) made in let more = longer old in omega (arith, size, more, count)

-- ---- a post is made

speak_more : (nodes : List Node) (active : List ℕ) (posts : List Post) (post : Post) → SpeakOfActive nodes active posts
    → IsFormed nodes post.claim → SpeaksOf active post.claim → SpeakOfActive nodes active (posts ++ post ∷ [])
speak_more nodes active posts post speak formed speaks claim stands = elim (stood_or_last posts post claim stands) [
  | inl stood ↦ speak claim stood
  | inr last ↦ (
    subst (λ (c : Claim). IsFormed nodes c) last formed,
    subst (λ (c : Claim). SpeaksOf active c) last speaks,
  )
]

-- a board stays one where a post more is known
pub posted_board : (old : BoardData) (post : Post) (known : Known) → IsBoard old → known.terms ≡ old.known.terms
    → KnowsAll (old.posts ++ post ∷ []) known → IsFormed old.known.terms.nodes post.claim
    → SpeaksOf (active_nodes old.active) post.claim
    → IsBoard (record { known = known; closure = old.closure; posts = old.posts ++ post ∷ []; active = old.active; cursors = old.cursors })
posted_board old post known board terms knows formed speaks = record {
  knows = knows;
  speak = subst (λ (nodes : List Node). SpeakOfActive nodes (active_nodes old.active) (old.posts ++ post ∷ [])) (sym nodes_are)
      (speak_more old.known.terms.nodes (active_nodes old.active) old.posts post board.speak formed speaks);
  fits = subst (λ (nodes : List Node). congruence.Fits old.closure nodes) (sym nodes_are) board.fits;
  active = board.active;
  classes = subst (λ (posts : List Post). AreClassesOfPosts (active_nodes old.active) posts old.closure.lists)
      (sym (take-append-le old.cursors.closure old.posts (post ∷ []) (board.read agents.Closure))) board.classes;
  edges = λ k edge stands. let it = board.edges k edge stands in
      (it.0, claimed_stays old.posts (post ∷ []) edge.why (claims.Same edge.left edge.right) it.1);
  read = λ agent. let it = board.read agent in let long = longer old.posts in omega (arith, it, long);
}
  where
    nodes_are : known.terms.nodes ≡ old.known.terms.nodes
    nodes_are = ap (λ t. t.nodes) terms

    longer : (posts : List Post) → length (posts ++ post ∷ []) ≡ length posts + 1
    longer [] = refl
    longer (x ∷ posts) = let it = longer posts in omega (arith, it)

-- ---- a post is read

next_taken : (posts : List Post) (n : ℕ) (post : Post) → slice_get posts n ≡ Some post → take (n + 1) posts ≡ take n posts ++ post ∷ []
next_taken posts n post is =
    take_more posts n post (slice_get_within posts n post is)
    ∙ ap (λ (x : Post). take n posts ++ x ∷ []) (get_or_from_slice_get posts n post post is)

-- the sides of an equality that is read are active
pub sides_active : (it : BoardData) (n : ℕ) (post : Post) → IsBoard it → slice_get it.posts n ≡ Some post → HasSides it.closure post.claim
sides_active it n post board is = of_claim post.claim (board.speak post.claim (n, (post, is, refl))).1
  where
    of_claim : (claim : Claim) → SpeaksOf (active_nodes it.active) claim → HasSides it.closure claim
    of_claim (claims.Same left right) speaks = ((board.active left).1 speaks.0, (board.active right).1 speaks.1)
    of_claim (claims.Holds n) speaks = tt
    of_claim (claims.Fails n) speaks = tt
    of_claim (claims.Differ left right) speaks = tt
    of_claim (claims.AtMost form) speaks = tt
    of_claim (claims.Zero poly) speaks = tt
    of_claim claims.Absurd speaks = tt

-- what congruence closure has once it has taken in the post of number n
record IsTaken (posts : List Post) (active : List ℕ) (n : ℕ) (old new : Congruence) : Type 0 where
  pub nodes : (x : ℕ) → IsActive new.lists x ↔ IsActive old.lists x
  pub classes : AreClassesOfPosts active (take (n + 1) posts) new.lists
  pub edges : AreEdgesOfPosts posts (n + 1) new.edges

module _ (posts : List Post) (active : List ℕ) (n : ℕ) (post : Post) (old : Congruence) (is : slice_get posts n ≡ Some post)
    (among : (x : ℕ) → IsActive old.lists x ↔ Contains active x) (classes : AreClassesOfPosts active (take n posts) old.lists)
    (edges : AreEdgesOfPosts posts n old.edges) where
  later : AreEdgesOfPosts posts (n + 1) old.edges
  later k edge stands = let it = edges k edge stands in (omega (arith, it.0), it.1)

  with_next : (lists : List (List ℕ)) → AreClassesOfPosts active (take n posts ++ post ∷ []) lists
      → AreClassesOfPosts active (take (n + 1) posts) lists
  with_next lists h = subst (λ (ps : List Post). AreClassesOfPosts active ps lists) (sym (next_taken posts n post is)) h

  unchanged : (new : Congruence) → new ≡ old → ((a b : ℕ) → ¬ (post.claim ≡ claims.Same a b)) → IsTaken posts active n old new
  unchanged new same other = subst (λ (it : Congruence). IsTaken posts active n old it) (sym same) (record {
    nodes = λ x. (λ h. h, λ h. h);
    classes = with_next old.lists (classes_of_other active (take n posts) old.lists post classes other);
    edges = later;
  })

  known_equality : (new : Congruence) (a b : ℕ) → new ≡ old → post.claim ≡ claims.Same a b → AreTogether old.lists a b
      → IsTaken posts active n old new
  known_equality new a b same claim together = subst (λ (it : Congruence). IsTaken posts active n old it) (sym same) (record {
    nodes = λ x. (λ h. h, λ h. h);
    classes = with_next old.lists (classes_of_known active (take n posts) old.lists post a b classes claim together);
    edges = later;
  })

  new_equality : (new : Congruence) (a b : ℕ) → IsJoined old new a b n → post.claim ≡ claims.Same a b → IsActive old.lists a
      → IsActive old.lists b → IsTaken posts active n old new
  new_equality new a b joined claim first second = record {
    nodes = joined.active;
    classes = with_next new.lists (classes_of_merged active (take n posts) old.lists new.lists post a b classes claim ((among a).0 first)
        ((among b).0 second) joined.together);
    edges = λ k edge stands.
        elim (before_or_last old.edges (record { left = a; right = b; why = n }) k edge
        (subst (λ (es : List Edge). slice_get es k ≡ Some edge) joined.edges stands)) [
          | inl before ↦ later k edge before
          | inr last ↦ subst (λ (e : Edge). (e.why < n + 1) × IsClaimed posts e.why (claims.Same e.left e.right)) (sym last)
              (omega arith, (post, is, claim))
        ];
  }
    where
      before_or_last : (xs : List Edge) (x : Edge) (i : ℕ) (y : Edge) → slice_get (xs ++ x ∷ []) i ≡ Some y
          → (slice_get xs i ≡ Some y) ⊎ (y ≡ x)
      before_or_last [] x zero y h = inr (sym (same_Some x y h))
      before_or_last [] x (suc i) y h = absurd cc
      before_or_last (z ∷ xs) x zero y h = inl h
      before_or_last (z ∷ xs) x (suc i) y h = before_or_last xs x i y h

  taken : (new : Congruence) (claim : Claim) → post.claim ≡ claim → HasSides old claim → IsTakenIn n claim old new
      → IsTaken posts active n old new
  taken new (claims.Same a b) e sides it = elim it [
    | inl known ↦ known_equality new a b known.1 e known.0
    | inr joined ↦ new_equality new a b joined.1 e sides.0 sides.1
  ]
  taken new (claims.Holds m) e sides it = unchanged new it (λ a b f. absurd (differ (sym e ∙ f)))
    where
      differ : {a b : ℕ} → claims.Holds m ≡ claims.Same a b → ⊥
      differ f = absurd cc
  taken new (claims.Fails m) e sides it = unchanged new it (λ a b f. absurd (differ (sym e ∙ f)))
    where
      differ : {a b : ℕ} → claims.Fails m ≡ claims.Same a b → ⊥
      differ f = absurd cc
  taken new (claims.Differ l r) e sides it = unchanged new it (λ a b f. absurd (differ (sym e ∙ f)))
    where
      differ : {a b : ℕ} → claims.Differ l r ≡ claims.Same a b → ⊥
      differ f = absurd cc
  taken new (claims.AtMost form) e sides it = unchanged new it (λ a b f. absurd (differ (sym e ∙ f)))
    where
      differ : {a b : ℕ} → claims.AtMost form ≡ claims.Same a b → ⊥
      differ f = absurd cc
  taken new (claims.Zero poly) e sides it = unchanged new it (λ a b f. absurd (differ (sym e ∙ f)))
    where
      differ : {a b : ℕ} → claims.Zero poly ≡ claims.Same a b → ⊥
      differ f = absurd cc
  taken new claims.Absurd e sides it = unchanged new it (λ a b f. absurd (differ (sym e ∙ f)))
    where
      differ : {a b : ℕ} → claims.Absurd ≡ claims.Same a b → ⊥
      differ f = absurd cc

advanced_within : (agent : Agent) (it : Cursors) (count : ℕ) → ((a : Agent) → cursor_of a it ≤ count) → cursor_of agent it < count
    → (a : Agent) → cursor_of a (advanced agent it) ≤ count
advanced_within agents.Closure it count read less agents.Closure = omega (arith, less)
advanced_within agents.Closure it count read less agents.Truth = read agents.Truth
advanced_within agents.Closure it count read less agents.Ring = read agents.Ring
advanced_within agents.Closure it count read less agents.Cutsat = read agents.Cutsat
advanced_within agents.Closure it count read less agents.Match = read agents.Match
advanced_within agents.Truth it count read less agents.Closure = read agents.Closure
advanced_within agents.Truth it count read less agents.Truth = omega (arith, less)
advanced_within agents.Truth it count read less agents.Ring = read agents.Ring
advanced_within agents.Truth it count read less agents.Cutsat = read agents.Cutsat
advanced_within agents.Truth it count read less agents.Match = read agents.Match
advanced_within agents.Ring it count read less agents.Closure = read agents.Closure
advanced_within agents.Ring it count read less agents.Truth = read agents.Truth
advanced_within agents.Ring it count read less agents.Ring = omega (arith, less)
advanced_within agents.Ring it count read less agents.Cutsat = read agents.Cutsat
advanced_within agents.Ring it count read less agents.Match = read agents.Match
advanced_within agents.Cutsat it count read less agents.Closure = read agents.Closure
advanced_within agents.Cutsat it count read less agents.Truth = read agents.Truth
advanced_within agents.Cutsat it count read less agents.Ring = read agents.Ring
advanced_within agents.Cutsat it count read less agents.Cutsat = omega (arith, less)
advanced_within agents.Cutsat it count read less agents.Match = read agents.Match
advanced_within agents.Match it count read less agents.Closure = read agents.Closure
advanced_within agents.Match it count read less agents.Truth = read agents.Truth
advanced_within agents.Match it count read less agents.Ring = read agents.Ring
advanced_within agents.Match it count read less agents.Cutsat = read agents.Cutsat
advanced_within agents.Match it count read less agents.Match = omega (arith, less)

-- the other agents leave the closure and its cursor
same_closure : (agent : Agent) → ¬ (agent ≡ agents.Closure) → (it : Cursors) → (advanced agent it).closure ≡ it.closure
same_closure agents.Closure other it = absurd (other refl)
same_closure agents.Truth other it = refl
same_closure agents.Ring other it = refl
same_closure agents.Cutsat other it = refl
same_closure agents.Match other it = refl

pub reads_nothing : (agent : Agent) → ¬ (agent ≡ agents.Closure) → (number : ℕ) (post : Post) (it : Congruence) → ReadsPost agent number post it it
reads_nothing agents.Closure other number post it = absurd (other refl)
reads_nothing agents.Truth other number post it = refl
reads_nothing agents.Ring other number post it = refl
reads_nothing agents.Cutsat other number post it = refl
reads_nothing agents.Match other number post it = refl

-- a board stays one where congruence closure has read a post
pub read_by_closure : (old : BoardData) (post : Post) (new : Congruence) → IsBoard old
    → slice_get old.posts old.cursors.closure ≡ Some post → IsTakenIn old.cursors.closure post.claim old.closure new
    → congruence.Fits new old.known.terms.nodes
    → IsBoard (record {
      known = old.known;
      closure = new;
      posts = old.posts;
      active = old.active;
      cursors = advanced agents.Closure old.cursors;
    })
read_by_closure old post new board is it fits = record {
  knows = board.knows;
  speak = board.speak;
  fits = fits;
  active = λ n. (λ h. (board.active n).0 ((done.nodes n).0 h), λ h. (done.nodes n).1 ((board.active n).1 h));
  classes = done.classes;
  edges = done.edges;
  read = advanced_within agents.Closure old.cursors (length old.posts) board.read (slice_get_within old.posts old.cursors.closure post is);
}
  where
    done : IsTaken old.posts (active_nodes old.active) old.cursors.closure old.closure new
    done = taken old.posts (active_nodes old.active) old.cursors.closure post old.closure is board.active board.classes board.edges new
        post.claim refl (sides_active old old.cursors.closure post board is) it

-- and where another agent has
pub read_by_other : (old : BoardData) (agent : Agent) → IsBoard old → ¬ (agent ≡ agents.Closure)
    → cursor_of agent old.cursors < length old.posts
    → IsBoard (record {
      known = old.known;
      closure = old.closure;
      posts = old.posts;
      active = old.active;
      cursors = advanced agent old.cursors;
    })
read_by_other old agent board other less = record {
  knows = board.knows;
  speak = board.speak;
  fits = board.fits;
  active = board.active;
  classes = subst (λ (k : ℕ). AreClassesOfPosts (active_nodes old.active) (take k old.posts) old.closure.lists)
      (sym (same_closure agent other old.cursors)) board.classes;
  edges = subst (λ (k : ℕ). AreEdgesOfPosts old.posts k old.closure.edges) (sym (same_closure agent other old.cursors)) board.edges;
  read = advanced_within agent old.cursors (length old.posts) board.read less;
}
