-- What holds of the posts of a journal as they grow.
use Rattle.std.specs.Prelude.{◌≡◌, ℕ, List, [], ◌∷◌, ◌++◌, Contains, ◌⊎◌, ◌↔◌}
use Rattle.grind_term_graph.specs.declared.node.Node.{Node}
use Rattle.grind_schemes.specs.Goals.{GoalData}
use Rattle.grind_schemes.specs.declared.lemmas.Lemmas.{Lemmas}
use Rattle.grind_claims.specs.declared.claim.Claim.{Claim}
use Rattle.grind_claims.specs.declared.claim.Claim.TheVariants.{Same}
use Rattle.grind_report_words.specs.declared.board.Post.{Post}
use Rattle.grind_classes.specs.Classes.{AreTogether, IsActive, AreMergedAt}
use Rattle.grind_journal.specs.Posts.{IsFirst}
use Rattle.grind_journal.specs.Joins.{Joined, AreClassesOfPosts, EquationsAreActive}
use Rattle.grind_journal.specs.Typed.{IsTyped}

-- where there are no posts and no active nodes, no classes are right
abbrev pub NoPostsNoClasses : Type 0
NoPostsNoClasses = AreClassesOfPosts [] [] []

-- nodes that are joined stay so as nodes become active and posts are appended
abbrev pub JoinedStay : Type 0
JoinedStay = (active more : List ℕ) (posts later : List Post) (a b : ℕ) →
    Joined active posts a b → Joined (active ++ more) (posts ++ later) a b

-- a node that becomes active is a class of its own
abbrev pub ClassesOfActivated : Type 0
ClassesOfActivated = (active : List ℕ) (posts : List Post) (lists new : List (List ℕ)) (n : ℕ) →
    EquationsAreActive active posts → AreClassesOfPosts active posts lists → ¬ IsActive lists n →
    ((x y : ℕ) → AreTogether new x y ↔ (AreTogether lists x y ⊎ ((x ≡ n) × (y ≡ n)))) →
    AreClassesOfPosts (active ++ n ∷ []) posts new

-- a post that two active nodes are equal makes one class of theirs
abbrev pub ClassesOfMerged : Type 0
ClassesOfMerged = (active : List ℕ) (posts : List Post) (lists new : List (List ℕ)) (post : Post) (a b : ℕ) →
    AreClassesOfPosts active posts lists → post.claim ≡ Same a b → Contains active a → Contains active b →
    ((x y : ℕ) → AreMergedAt lists a b new x y) →
    AreClassesOfPosts active (posts ++ post ∷ []) new

-- a post that two nodes of one class are equal leaves the classes
abbrev pub ClassesOfKnown : Type 0
ClassesOfKnown = (active : List ℕ) (posts : List Post) (lists : List (List ℕ)) (post : Post) (a b : ℕ) →
    AreClassesOfPosts active posts lists → post.claim ≡ Same a b → AreTogether lists a b →
    AreClassesOfPosts active (posts ++ post ∷ []) lists

-- a post that claims something else leaves the classes
abbrev pub ClassesOfOther : Type 0
ClassesOfOther = (active : List ℕ) (posts : List Post) (lists : List (List ℕ)) (post : Post) →
    AreClassesOfPosts active posts lists → ((a b : ℕ) → ¬ (post.claim ≡ Same a b)) →
    AreClassesOfPosts active (posts ++ post ∷ []) lists

-- a typed post stays so as terms are appended, nodes become active and posts are appended
abbrev pub TypedStays : Type 0
TypedStays =
    (lemmas : Lemmas) (goal : GoalData) (nodes fresh : List Node) (active more : List ℕ) (earlier later : List Post) (post : Post) →
    IsTyped lemmas goal nodes active earlier post →
    IsTyped lemmas goal (nodes ++ fresh) (active ++ more) (earlier ++ later) post

-- a claim has one first post
abbrev pub OneFirst : Type 0
OneFirst = (posts : List Post) (claim : Claim) (m n : ℕ) → IsFirst posts claim m → IsFirst posts claim n → m ≡ n
