-- What stays, and what changes, as posts are appended and nodes become active.
use Rattle.std.proofs.Common.{◌≡◌, ◌⊎◌, inl, inr, ℕ, zero, suc, List, [], ◌∷◌, ◌++◌, length, Some, slice_get, Contains, refl, sym, ap, ◌∙◌, subst, arith}
use Rattle.std.proofs.lemmas.Option.{same_Some}
use Rattle.std.proofs.lemmas.List.Elements.{Contains-append_left, Contains-push, Contains-push_cases}
use Rattle.grind_claims.specs.declared.claim.Claim.{Claim}
use Rattle.grind_claims.specs.declared.claim.Claim.TheVariants.{Same}
use Rattle.grind_claims.specs.Laws.{FormedStays}
use Rattle.grind_rules.specs.Laws.{AllowedStays}
use Rattle.grind_report_words.specs.declared.board.Post.{Post}
use Rattle.grind_report_words.specs.declared.board.Premise.{Premise}
use Rattle.grind_report_words.specs.declared.board.Premise.TheVariants as premises
use Rattle.grind_classes.specs.Classes.{AreTogether}
use Rattle.grind_journal.specs.Posts.{IsClaimed, Stands}
use Rattle.grind_journal.specs.Joins.{Joined, posted, itself, turned, chained}
use Rattle.grind_journal.specs.Typed.{CountsAs, CountAs}
use Rattle.grind_journal.specs.Laws.{NoPostsNoClasses, JoinedStay, ClassesOfActivated, ClassesOfMerged, ClassesOfKnown, ClassesOfOther, TypedStays, OneFirst}

item_stays : {X : Type 0} (xs ys : List X) (i : ℕ) (x : X) → slice_get xs i ≡ Some x → slice_get (xs ++ ys) i ≡ Some x
item_stays [] ys i x h = absurd cc
item_stays (y ∷ xs) ys zero x h = h
item_stays (y ∷ xs) ys (suc i) x h = item_stays xs ys i x h

pub item_last : {X : Type 0} (xs : List X) (x : X) → slice_get (xs ++ x ∷ []) (length xs) ≡ Some x
item_last [] x = refl
item_last (y ∷ xs) x = item_last xs x

-- an item of a list with one more is one of the list, or the last
before_or_last : {X : Type 0} (xs : List X) (x : X) (i : ℕ) (y : X) → slice_get (xs ++ x ∷ []) i ≡ Some y
    → (slice_get xs i ≡ Some y) ⊎ (y ≡ x)
before_or_last [] x zero y h = inr (sym (same_Some x y h))
before_or_last [] x (suc i) y h = absurd cc
before_or_last (z ∷ xs) x zero y h = inl h
before_or_last (z ∷ xs) x (suc i) y h = before_or_last xs x i y h

-- what is claimed stays claimed
pub claimed_stays : (posts later : List Post) (n : ℕ) (claim : Claim) → IsClaimed posts n claim → IsClaimed (posts ++ later) n claim
claimed_stays posts later n claim h = (h.0, item_stays posts later n h.0 h.1, h.2)

pub stands_stays : (posts later : List Post) (claim : Claim) → Stands posts claim → Stands (posts ++ later) claim
stands_stays posts later claim h = (h.0, claimed_stays posts later h.0 claim h.1)

pub last_stands : (posts : List Post) (post : Post) (claim : Claim) → post.claim ≡ claim → Stands (posts ++ post ∷ []) claim
last_stands posts post claim e = (length posts, (post, item_last posts post, e))

pub stood_or_last : (posts : List Post) (post : Post) (claim : Claim) → Stands (posts ++ post ∷ []) claim
    → Stands posts claim ⊎ (post.claim ≡ claim)
stood_or_last posts post claim h = elim (before_or_last posts post h.0 h.1.0 h.1.1) [
  | inl before ↦ inl (h.0, (h.1.0, before, h.1.2))
  | inr last ↦ inr (ap (λ (it : Post). it.claim) (sym last) ∙ h.1.2)
]

-- joined nodes stay joined
joined_more : (active more : List ℕ) (posts later : List Post) {a b : ℕ} → Joined active posts a b
    → Joined (active ++ more) (posts ++ later) a b
joined_more active more posts later (posted {a = a} {b = b} stands left right) =
    posted (stands_stays posts later (Same a b) stands) (Contains-append_left active more a left) (Contains-append_left active more b right)
joined_more active more posts later (itself {a = a} here) = itself (Contains-append_left active more a here)
joined_more active more posts later (turned d) = turned (joined_more active more posts later d)
joined_more active more posts later (chained first second) =
    chained (joined_more active more posts later first) (joined_more active more posts later second)

pub joined_stay : JoinedStay
joined_stay active more posts later a b d = joined_more active more posts later d

-- with one post more, and with one active node more
joined_longer : (active : List ℕ) (posts : List Post) (post : Post) {a b : ℕ} → Joined active posts a b
    → Joined active (posts ++ post ∷ []) a b
joined_longer active posts post (posted {a = a} {b = b} stands left right) =
    posted (stands_stays posts (post ∷ []) (Same a b) stands) left right
joined_longer active posts post (itself here) = itself here
joined_longer active posts post (turned d) = turned (joined_longer active posts post d)
joined_longer active posts post (chained first second) =
    chained (joined_longer active posts post first) (joined_longer active posts post second)

joined_wider : (active : List ℕ) (n : ℕ) (posts : List Post) {a b : ℕ} → Joined active posts a b
    → Joined (active ++ n ∷ []) posts a b
joined_wider active n posts (posted {a = a} {b = b} stands left right) =
    posted stands (Contains-append_left active (n ∷ []) a left) (Contains-append_left active (n ∷ []) b right)
joined_wider active n posts (itself {a = a} here) = itself (Contains-append_left active (n ∷ []) a here)
joined_wider active n posts (turned d) = turned (joined_wider active n posts d)
joined_wider active n posts (chained first second) = chained (joined_wider active n posts first) (joined_wider active n posts second)

-- what is joined is in a relation that holds each equality posted and is an equivalence over the active nodes
module _ (active : List ℕ) (posts : List Post) (R : ℕ → ℕ → Type 0)
    (known : (a b : ℕ) → Stands posts (Same a b) → Contains active a → Contains active b → R a b)
    (alone : (a : ℕ) → Contains active a → R a a)
    (back : (a b : ℕ) → R a b → R b a)
    (through : (a b c : ℕ) → R a b → R b c → R a c) where
  joined_in : {a b : ℕ} → Joined active posts a b → R a b
  joined_in (posted {a = a} {b = b} stands left right) = known a b stands left right
  joined_in (itself {a = a} here) = alone a here
  joined_in (turned {a = a} {b = b} d) = back a b (joined_in d)
  joined_in (chained {a = a} {b = b} {c = c} first second) = through a b c (joined_in first) (joined_in second)

-- of nothing, nothing is joined
none_joined : {a b : ℕ} → Joined [] [] a b → ⊥
none_joined (posted stands left right) = omega (arith, left.1)
none_joined (itself here) = omega (arith, here.1)
none_joined (turned d) = none_joined d
none_joined (chained first second) = none_joined first

none_together : (a b : ℕ) → AreTogether [] a b → ⊥
none_together a b h = omega (arith, h.1.1)

pub no_posts_no_classes : NoPostsNoClasses
no_posts_no_classes a b = (λ h. absurd (none_together a b h), λ d. absurd (none_joined d))

pub classes_of_other : ClassesOfOther
classes_of_other active posts lists post right other a b = (
  λ h. joined_longer active posts post ((right a b).0 h),
  λ d. (right a b).1 (fewer d),
)
  where
    fewer : {x y : ℕ} → Joined active (posts ++ post ∷ []) x y → Joined active posts x y
    fewer (posted {a = x} {b = y} stands first second) = elim (stood_or_last posts post (Same x y) stands) [
      | inl stood ↦ posted stood first second
      | inr last ↦ absurd (other x y last)
    ]
    fewer (itself here) = itself here
    fewer (turned d) = turned (fewer d)
    fewer (chained first second) = chained (fewer first) (fewer second)

left_same : (a b c d : ℕ) → Same a b ≡ Same c d → a ≡ c
left_same a b c d e = cc

right_same : (a b c d : ℕ) → Same a b ≡ Same c d → b ≡ d
right_same a b c d e = cc

-- x and y are joined, or across a and b
abbrev Across : List ℕ → List Post → ℕ → ℕ → ℕ → ℕ → Type 0
Across active posts a b x y = Joined active posts x y
    ⊎ ((Joined active posts x a × Joined active posts b y) ⊎ (Joined active posts x b × Joined active posts a y))

across_back : (active : List ℕ) (posts : List Post) (a b x y : ℕ) → Across active posts a b x y → Across active posts a b y x
across_back active posts a b x y h = elim h [
  | inl d ↦ inl (turned d)
  | inr crossed ↦ elim crossed [
    | inl along ↦ inr (inr (turned along.1, turned along.0))
    | inr against ↦ inr (inl (turned against.1, turned against.0))
  ]
]

across_through : (active : List ℕ) (posts : List Post) (a b x y z : ℕ) → Across active posts a b x y → Across active posts a b y z
    → Across active posts a b x z
across_through active posts a b x y z h k = elim h [
  | inl d ↦ elim k [
    | inl e ↦ inl (chained d e)
    | inr crossed ↦ elim crossed [
      | inl along ↦ inr (inl (chained d along.0, along.1))
      | inr against ↦ inr (inr (chained d against.0, against.1))
    ]
  ]
  | inr first ↦ elim first [
    | inl along ↦ elim k [
      | inl e ↦ inr (inl (along.0, chained along.1 e))
      | inr crossed ↦ elim crossed [
        | inl more ↦ inl (chained along.0 (chained (turned more.0) (chained (turned along.1) more.1)))
        | inr less ↦ inl (chained along.0 less.1)
      ]
    ]
    | inr against ↦ elim k [
      | inl e ↦ inr (inr (against.0, chained against.1 e))
      | inr crossed ↦ elim crossed [
        | inl more ↦ inl (chained against.0 more.1)
        | inr less ↦ inl (chained against.0 (chained (turned less.0) (chained (turned against.1) less.1)))
      ]
    ]
  ]
]

pub classes_of_merged : ClassesOfMerged
classes_of_merged active posts lists new post a b right is left_in right_in merged x y = (
  λ h. elim ((merged x y).0 h) [
    | inl before ↦ joined_longer active posts post ((right x y).0 before)
    | inr crossed ↦ elim crossed [
      | inl along ↦ chained (joined_longer active posts post ((right x a).0 along.0))
          (chained here (joined_longer active posts post ((right b y).0 along.1)))
      | inr against ↦ chained (joined_longer active posts post ((right x b).0 against.0))
          (chained (turned here) (joined_longer active posts post ((right a y).0 against.1)))
    ]
  ],
  λ d. together x y (joined_in active (posts ++ post ∷ []) (Across active posts a b) known (λ n within. inl (itself within))
      (across_back active posts a b) (across_through active posts a b) d),
)
  where
    here : Joined active (posts ++ post ∷ []) a b
    here = posted (last_stands posts post (Same a b) is) left_in right_in

    together : (m n : ℕ) → Across active posts a b m n → AreTogether new m n
    together m n h = (merged m n).1 (elim h [
      | inl d ↦ inl ((right m n).1 d)
      | inr crossed ↦ elim crossed [
        | inl along ↦ inr (inl ((right m a).1 along.0, (right b n).1 along.1))
        | inr against ↦ inr (inr ((right m b).1 against.0, (right a n).1 against.1))
      ]
    ])

    known : (m n : ℕ) → Stands (posts ++ post ∷ []) (Same m n) → Contains active m → Contains active n → Across active posts a b m n
    known m n stands first second = elim (stood_or_last posts post (Same m n) stands) [
      | inl stood ↦ inl (posted stood first second)
      | inr last ↦
          let e : Same a b ≡ Same m n = sym is ∙ last in
          inr (inl (
            subst (λ (k : ℕ). Joined active posts m k) (sym (left_same a b m n e)) (itself first),
            subst (λ (k : ℕ). Joined active posts k n) (sym (right_same a b m n e)) (itself second),
          ))
    ]

pub classes_of_known : ClassesOfKnown
classes_of_known active posts lists post a b right is together x y = (
  λ h. joined_longer active posts post ((right x y).0 h),
  λ d. (right x y).1 (joined_in active (posts ++ post ∷ []) (Joined active posts) known (λ n within. itself within)
      (λ m n e. turned e) (λ l m n e f. chained e f) d),
)
  where
    known : (m n : ℕ) → Stands (posts ++ post ∷ []) (Same m n) → Contains active m → Contains active n → Joined active posts m n
    known m n stands first second = elim (stood_or_last posts post (Same m n) stands) [
      | inl stood ↦ posted stood first second
      | inr last ↦
          let e : Same a b ≡ Same m n = sym is ∙ last in
          subst (λ (k : ℕ). Joined active posts k n) (left_same a b m n e)
          (subst (λ (k : ℕ). Joined active posts a k) (right_same a b m n e) ((right a b).0 together))
    ]

-- joined by what was posted before, or both the new node
abbrev WithOwn : List ℕ → List Post → ℕ → ℕ → ℕ → Type 0
WithOwn active posts n x y = Joined active posts x y ⊎ ((x ≡ n) × (y ≡ n))

pub classes_of_activated : ClassesOfActivated
classes_of_activated active posts lists new n equations right fresh after x y = (
  λ h. elim ((after x y).0 h) [
    | inl before ↦ joined_wider active n posts ((right x y).0 before)
    | inr own ↦ subst (λ (k : ℕ). Joined (active ++ n ∷ []) posts k y) (sym own.0)
        (subst (λ (k : ℕ). Joined (active ++ n ∷ []) posts n k) (sym own.1) (itself (Contains-push active n)))
  ],
  λ d. together x y (joined_in (active ++ n ∷ []) posts (WithOwn active posts n) known alone back through d),
)
  where
    together : (k m : ℕ) → WithOwn active posts n k m → AreTogether new k m
    together k m h = (after k m).1 (elim h [
      | inl d ↦ inl ((right k m).1 d)
      | inr own ↦ inr own
    ])

    known : (a b : ℕ) → Stands posts (Same a b) → Contains (active ++ n ∷ []) a → Contains (active ++ n ∷ []) b → WithOwn active posts n a b
    known a b stands first second = let both = equations a b stands in inl (posted stands both.0 both.1)

    alone : (k : ℕ) → Contains (active ++ n ∷ []) k → WithOwn active posts n k k
    alone k within = elim (Contains-push_cases active n k within) [
      | inl old ↦ inl (itself old)
      | inr own ↦ inr (sym own, sym own)
    ]

    back : (k m : ℕ) → WithOwn active posts n k m → WithOwn active posts n m k
    back k m h = elim h [
      | inl d ↦ inl (turned d)
      | inr own ↦ inr (own.1, own.0)
    ]

    -- the new node is joined with none
    never : (k : ℕ) → Joined active posts k n → ⊥
    never k d = let t = (right k n).1 d in fresh (t.0, t.2)

    through : (k l m : ℕ) → WithOwn active posts n k l → WithOwn active posts n l m → WithOwn active posts n k m
    through k l m h i = elim h [
      | inl d ↦ elim i [
        | inl e ↦ inl (chained d e)
        | inr own ↦ absurd (never k (subst (λ (j : ℕ). Joined active posts k j) own.0 d))
      ]
      | inr own ↦ elim i [
        | inl e ↦ absurd (never m (turned (subst (λ (j : ℕ). Joined active posts j m) own.1 e)))
        | inr also ↦ inr (own.0, also.1)
      ]
    ]

-- what a premise counts as it still counts as
counts_still : (active more : List ℕ) (earlier later : List Post) (premise : Premise) (claim : Claim)
    → CountsAs active earlier premise claim → CountsAs (active ++ more) (earlier ++ later) premise claim
counts_still active more earlier later (premises.Post n) claim h = claimed_stays earlier later n claim h
counts_still active more earlier later (premises.Pair a b) claim h = (joined_more active more earlier later h.0, h.1)

count_still : (active more : List ℕ) (earlier later : List Post) (list : List Premise) (claims : List Claim)
    → CountAs active earlier list claims → CountAs (active ++ more) (earlier ++ later) list claims
count_still active more earlier later [] [] h = tt
count_still active more earlier later [] (claim ∷ claims) h = absurd h
count_still active more earlier later (premise ∷ list) [] h = absurd h
count_still active more earlier later (premise ∷ list) (claim ∷ claims) h =
    (counts_still active more earlier later premise claim h.0, count_still active more earlier later list claims h.1)

pub typed_stays : FormedStays → AllowedStays → TypedStays
typed_stays formed allowed lemmas goal nodes fresh active more earlier later post it = record {
  formed = formed nodes fresh post.claim it.formed;
  claims = it.claims;
  counted = count_still active more earlier later post.premises it.claims it.counted;
  allowed = allowed lemmas goal nodes fresh (Some post.claim) post.rule it.claims post.claim it.allowed;
}

pub one_first : OneFirst
one_first posts claim m n left right = omega (arith, left.first n right.claimed, right.first m left.claimed)
