-- What marks say, fact by fact and pair by pair.
use Rattle.std.proofs.Common.{◌≡◌, ◌⊎◌, inl, inr, ℕ, Bool, IsTrue, List, [], ◌∷◌, length, Contains, Option, Some, None, MatchOption, arith, sym, refl, subst}
use Rattle.grind_ring_basis.specs.declared.types.Fact.{Fact}
use Rattle.grind_ring_basis.specs.declared.types.Places.{Places}
use Rattle.grind_ring_units.specs.declared.types.State.{State}
use Rattle.grind_ring_units.specs.declared.findings.Finding.{Finding}
use Rattle.grind_ring_units.specs.declared.findings.Finding.TheVariants as finding
use Rattle.grind_ring_units.specs.declared.findings.Marks.{Marks}
use Rattle.grind_ring_units.specs.declared.findings.Posts.{Posts}
use Rattle.grind_ring_units.specs.declared.findings.Scan.{Scan}
use Rattle.grind_ring_units.specs.PostUnits.{IsJoining, IsPostTooLarge, IsPostDone, WouldReduce}
use Rattle.grind_ring_units.specs.PairUnits.{IsPairTooLarge, IsPairDone, WouldJoinPair, ArePostsAt}
use Rattle.grind_ring_units.specs.Findings.{IsFoundAtPost, IsFoundAtPair, IsCase, IsCaseScan, IsFormScan, marked}
use Rattle.grind_ring_units.specs.Scans.{posts_of, no_marks, OnlyLater, IsOneOf, AreMarked, MayJoin, ArePostsOf, AreMarkedPosts, no_posts, IsPostScan, ArePostsOfPair, IsWithin, AreMarkedPairs, IsPairScan, no_pairs}
use Rattle.grind_ring_units.proofs.ListLemmas.{none_listed, first_or_rest, at_first, in_rest}
use Rattle.grind_ring_units.proofs.FindingLemmas.{settled_done, done_not_joining, done_not_large, done_not_reduced, reducible_not_joining, reduced_not_large, large_not_joining, large_not_reduced, done_pair_not_large, done_pair_not_joining, joining_pair_not_large, large_pair_not_joining}

-- ---- marks of anything
module _ (K : Type 0) (all done own large joins : K → Type 0) (are_posts : K → Posts → Type 0) (free : Type 0) where
  begin_mark : (later : K → Type 0) → ((k : K) → all k → later k) → AreMarked K all later done own large joins are_posts free no_marks
  begin_mark later each = record {
    judged = λ k there. inl (inl (each k there));
    none_own = λ k there it. each k there;
    too_large = λ k there it. each k there;
    would_join = λ k there it. each k there;
    none_left = λ it. refl;
  }

  module _ (later next : K → Type 0) (marks : Marks) (so_far : AreMarked K all later done own large joins are_posts free marks) where
    -- what is later is later still, or none of P
    moved : (P : K → Type 0) → ((k : K) → all k → P k → later k → next k) → (mark : Option Posts)
        → MatchOption mark (OnlyLater K all later P) (λ posts. IsOneOf K all P are_posts posts)
        → MatchOption mark (OnlyLater K all next P) (λ posts. IsOneOf K all P are_posts posts)
    moved P step None h = λ k there it. step k there it (h k there it)
    moved P step (Some posts) h = h

    -- each is judged still
    judged_on : ((k : K) → all k → later k → (next k ⊎ done k) ⊎ (large k ⊎ joins k)) → (k : K) → all k
        → (next k ⊎ done k) ⊎ (large k ⊎ joins k)
    judged_on step k there = elim (so_far.judged k there) [
      | inl one ↦ elim one [
        | inl is_later ↦ step k there is_later
        | inr is_done ↦ inl (inr is_done)
      ]
      | inr other ↦ inr other
    ]

    same_marks : ((k : K) → all k → later k → (next k ⊎ done k) ⊎ (large k ⊎ joins k))
        → ((k : K) → all k → own k → later k → next k) → ((k : K) → all k → large k → later k → next k)
        → ((k : K) → all k → joins k → later k → next k) → AreMarked K all next done own large joins are_posts free marks
    same_marks each first second third = record {
      judged = judged_on each;
      none_own = λ k there it. first k there it (so_far.none_own k there it);
      too_large = moved large second marks.too_large so_far.too_large;
      would_join = moved joins third marks.left so_far.would_join;
      none_left = so_far.none_left;
    }

    pub marked_on : ((k : K) → all k → later k → next k) → AreMarked K all next done own large joins are_posts free marks
    marked_on step = same_marks (λ k there it. inl (inl (step k there it))) (λ k there it. step k there) (λ k there it. step k there) (λ k there it. step k there)

    module _ (one : K) (there_one : all one) (passes : (k : K) → later k → (one ≡ k) ⊎ next k) where
      passed : (P : K → Type 0) → ¬ P one → (k : K) → all k → P k → later k → next k
      passed P other k there it is_later = elim (passes k is_later) [
        | inl same ↦ absurd (other (subst P (sym same) it))
        | inr more ↦ more
      ]

      past : done one ⊎ (large one ⊎ joins one) → (k : K) → all k → later k → (next k ⊎ done k) ⊎ (large k ⊎ joins k)
      past is k there is_later = elim (passes k is_later) [
        | inl same ↦ subst (λ (x : K). (next x ⊎ done x) ⊎ (large x ⊎ joins x)) same (elim is [
          | inl here ↦ inl (inr here)
          | inr here ↦ inr here
        ])
        | inr more ↦ inl (inl more)
      ]

      marked_done : done one → ¬ own one → ¬ large one → ¬ joins one → AreMarked K all next done own large joins are_posts free marks
      marked_done is first second third = same_marks (past (inl is)) (passed own first) (passed large second) (passed joins third)

      marked_large : (posts : Posts) → are_posts one posts → ¬ own one → large one → ¬ joins one
          → AreMarked K all next done own large joins are_posts free (record { too_large = Some posts; left = marks.left })
      marked_large posts are first second third = record {
        judged = judged_on (past (inr (inl second)));
        none_own = λ k there it. passed own first k there it (so_far.none_own k there it);
        too_large = (one, there_one, second, are);
        would_join = moved joins (passed joins third) marks.left so_far.would_join;
        none_left = so_far.none_left;
      }

      marked_left : (posts : Posts) → are_posts one posts → ¬ own one → ¬ large one → joins one → ¬ free
          → AreMarked K all next done own large joins are_posts free (record { too_large = marks.too_large; left = Some posts })
      marked_left posts are first second third busy = record {
        judged = judged_on (past (inr (inr third)));
        none_own = λ k there it. passed own first k there it (so_far.none_own k there it);
        too_large = moved large (passed large second) marks.too_large so_far.too_large;
        would_join = (one, there_one, third, are);
        none_left = λ it. absurd (busy it);
      }

-- ---- facts
-- the facts that are left are of those that were taken, and what the marks say of the others
pub record PostsSoFar (state : State) (rest : List Fact) (marks : Marks) : Type 0 where
  pub within : (it : Fact) → Contains rest it → Contains state.taken it
  pub are_marked : AreMarkedPosts state (λ (it : Fact). Contains rest it) marks

module _ (state : State) where
  pub posts_begin : (rest : List Fact) (marks : Marks) → rest ≡ state.taken → marks ≡ no_marks → PostsSoFar state rest marks
  posts_begin rest marks is none = record {
    within = λ it there. subst (λ (xs : List Fact). Contains xs it) is there;
    are_marked =
        subst (AreMarkedPosts state (λ (it : Fact). Contains rest it)) (sym none)
        (begin_mark Fact (λ (it : Fact). Contains state.taken it) (IsPostDone state) (IsJoining state) (IsPostTooLarge state) (WouldReduce state) ArePostsOf
        (MayJoin state) (λ (it : Fact). Contains rest it) (λ it there. subst (λ (xs : List Fact). Contains xs it) (sym is) there));
  }

  module _ (rest tail : List Fact) (it : Fact) (marks : Marks) (is : rest ≡ it ∷ tail) (so_far : PostsSoFar state rest marks) where
    pub post_there : Contains state.taken it
    post_there = so_far.within it (subst (λ (xs : List Fact). Contains xs it) (sym is) (at_first it tail))

    post_passes : (k : Fact) → Contains rest k → (it ≡ k) ⊎ Contains tail k
    post_passes k there = first_or_rest it tail k (subst (λ (xs : List Fact). Contains xs k) is there)

    still_within : (k : Fact) → Contains tail k → Contains state.taken k
    still_within k there = so_far.within k (subst (λ (xs : List Fact). Contains xs k) (sym is) (in_rest it tail k there))

    marked_posts : (finding : Finding) (free : Bool) → IsFoundAtPost state it finding → (IsTrue free → MayJoin state) → (MayJoin state → IsTrue free)
        → ¬ IsCase free finding → AreMarkedPosts state (λ (k : Fact). Contains tail k) (marked marks finding (posts_of it.post it.post))
    marked_posts finding.Done free found is_free may no_case =
        marked_done Fact (λ (k : Fact). Contains state.taken k) (IsPostDone state) (IsJoining state) (IsPostTooLarge state) (WouldReduce state) ArePostsOf (MayJoin state)
        (λ (k : Fact). Contains rest k) (λ (k : Fact). Contains tail k) marks so_far.are_marked it post_there post_passes
        found (done_not_joining state it found) (done_not_large state it found) (done_not_reduced state it found)
    marked_posts finding.Settled free found is_free may no_case = absurd found
    marked_posts finding.Own free found is_free may no_case = absurd (no_case tt)
    marked_posts (finding.Form form line) free found is_free may no_case =
        marked_left Fact (λ (k : Fact). Contains state.taken k) (IsPostDone state) (IsJoining state) (IsPostTooLarge state) (WouldReduce state) ArePostsOf (MayJoin state)
        (λ (k : Fact). Contains rest k) (λ (k : Fact). Contains tail k) marks so_far.are_marked it post_there post_passes
        (posts_of it.post it.post) refl (reducible_not_joining state it form found.reducible) (reduced_not_large state it form line found)
        (form, line, found) (λ it_may. no_case (may it_may))
    marked_posts finding.TooLarge free found is_free may no_case =
        marked_large Fact (λ (k : Fact). Contains state.taken k) (IsPostDone state) (IsJoining state) (IsPostTooLarge state) (WouldReduce state) ArePostsOf (MayJoin state)
        (λ (k : Fact). Contains rest k) (λ (k : Fact). Contains tail k) marks so_far.are_marked it post_there post_passes
        (posts_of it.post it.post) refl (large_not_joining state it found) found (large_not_reduced state it found)

    pub posts_step : (finding : Finding) (free : Bool) (new : Marks) → IsFoundAtPost state it finding → (IsTrue free → MayJoin state)
        → (MayJoin state → IsTrue free) → ¬ IsCase free finding → new ≡ marked marks finding (posts_of it.post it.post)
        → PostsSoFar state tail new
    posts_step finding free new found is_free may no_case new_is = record {
      within = still_within;
      are_marked =
          subst (AreMarkedPosts state (λ (k : Fact). Contains tail k)) (sym new_is) (marked_posts finding free found is_free may no_case);
    }

    pub posts_case : (finding : Finding) (free : Bool) (end : Scan) → IsFoundAtPost state it finding → (IsTrue free → MayJoin state)
        → IsCase free finding → IsCaseScan finding it end → IsPostScan state end
    posts_case finding.Done free end found is_free case ends = absurd case
    posts_case finding.Settled free end found is_free case ends = absurd case
    posts_case finding.Own free end found is_free case ends = subst (IsPostScan state) (sym ends) (post_there, found)
    posts_case (finding.Form form line) free end found is_free case ends =
        subst (IsPostScan state) (sym ends) (is_free case, it, post_there, found)
    posts_case finding.TooLarge free end found is_free case ends = absurd case

  pub posts_end : (rest : List Fact) (marks : Marks) → length rest ≡ 0 → PostsSoFar state rest marks → AreMarkedPosts state no_posts marks
  posts_end [] marks none so_far =
      marked_on Fact (λ (k : Fact). Contains state.taken k) (IsPostDone state) (IsJoining state) (IsPostTooLarge state) (WouldReduce state) ArePostsOf (MayJoin state)
      (λ (k : Fact). Contains [] k) no_posts marks so_far.are_marked (λ k there later. none_listed k later)
  posts_end (x ∷ xs) marks none so_far = absurd (omega arith)

-- ---- pairs
module _ (state : State) (count : ℕ) where
  -- where nothing was looked at, each pair is done or still to come
  pub pairs_begin : (later : Places → Type 0) (marks : Marks) → marks ≡ no_marks
      → ((k : Places) → IsWithin count k → IsPairDone state k ⊎ later k) → AreMarkedPairs state count later marks
  pairs_begin later marks none each =
      subst (AreMarkedPairs state count later) (sym none) (record {
        judged = λ k there. elim (each k there) [
          | inl done ↦ inl (inr done)
          | inr is_later ↦ inl (inl is_later)
        ];
        none_own = λ k there it. absurd it;
        too_large = λ k there large. elim (each k there) [
          | inl done ↦ absurd (done_pair_not_large state k done large)
          | inr is_later ↦ is_later
        ];
        would_join = λ k there joins. elim (each k there) [
          | inl done ↦ absurd (done_pair_not_joining state k done joins)
          | inr is_later ↦ is_later
        ];
        none_left = λ it. refl;
      })

  pub pairs_end : (later : Places → Type 0) (marks : Marks) → ((k : Places) → ¬ later k) → AreMarkedPairs state count later marks
      → AreMarkedPairs state count no_pairs marks
  pairs_end later marks none so_far =
      marked_on Places (IsWithin count) (IsPairDone state) (λ (k : Places). ⊥) (IsPairTooLarge state) (WouldJoinPair state) (ArePostsOfPair state) (MayJoin state)
      later no_pairs marks so_far (λ k there is_later. none k is_later)

  module _ (later next : Places → Type 0) (it : Places) (marks : Marks) (within : IsWithin count it)
      (passes : (k : Places) → later k → (it ≡ k) ⊎ next k) (so_far : AreMarkedPairs state count later marks) where
    marked_pair : IsPairDone state it → AreMarkedPairs state count next marks
    marked_pair done =
        marked_done Places (IsWithin count) (IsPairDone state) (λ (k : Places). ⊥) (IsPairTooLarge state) (WouldJoinPair state) (ArePostsOfPair state) (MayJoin state)
        later next marks so_far it within passes done (λ own. own) (done_pair_not_large state it done) (done_pair_not_joining state it done)

    marked_pairs : (finding : Finding) (free : Bool) (posts : Posts) → IsFoundAtPair state it finding → (MayJoin state → IsTrue free)
        → ¬ IsCase free finding → ArePostsAt state it posts.first posts.second → AreMarkedPairs state count next (marked marks finding posts)
    marked_pairs finding.Done free posts found may no_case are = marked_pair found
    marked_pairs finding.Settled free posts found may no_case are = marked_pair (settled_done state it found)
    marked_pairs finding.Own free posts found may no_case are = absurd found
    marked_pairs (finding.Form form line) free posts found may no_case are =
        marked_left Places (IsWithin count) (IsPairDone state) (λ (k : Places). ⊥) (IsPairTooLarge state) (WouldJoinPair state) (ArePostsOfPair state) (MayJoin state)
        later next marks so_far it within passes posts are (λ own. own)
        (joining_pair_not_large state it found.0 form line found.1) (found.0, form, line, found.1) (λ it_may. no_case (may it_may))
    marked_pairs finding.TooLarge free posts found may no_case are =
        marked_large Places (IsWithin count) (IsPairDone state) (λ (k : Places). ⊥) (IsPairTooLarge state) (WouldJoinPair state) (ArePostsOfPair state) (MayJoin state)
        later next marks so_far it within passes posts are (λ own. own) found (large_pair_not_joining state it found)

    pub pairs_step : (finding : Finding) (free : Bool) (posts : Posts) (new : Marks) → IsFoundAtPair state it finding
        → (MayJoin state → IsTrue free) → ¬ IsCase free finding → ArePostsAt state it posts.first posts.second
        → new ≡ marked marks finding posts → AreMarkedPairs state count next new
    pairs_step finding free posts new found may no_case are new_is =
        subst (AreMarkedPairs state count next) (sym new_is) (marked_pairs finding free posts found may no_case are)

pub pairs_case : (state : State) (count : ℕ) (later : Places → Type 0) (places : Places) (finding : Finding) (free : Bool) (end : Scan)
    → IsFoundAtPair state places finding → (IsTrue free → MayJoin state) → IsCase free finding → IsFormScan finding end
    → IsPairScan state count later end
pairs_case state count later places finding.Done free end found is_free case ends = absurd case
pairs_case state count later places finding.Settled free end found is_free case ends = absurd case
pairs_case state count later places finding.Own free end found is_free case ends = absurd found
pairs_case state count later places (finding.Form form line) free end found is_free case ends =
    subst (IsPairScan state count later) (sym ends) (is_free case, places, found.0, found.1)
pairs_case state count later places finding.TooLarge free end found is_free case ends = absurd case
