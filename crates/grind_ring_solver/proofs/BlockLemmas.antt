-- What two passes without a case say together.
use Rattle.std.proofs.Common.{◌≡◌, inl, inr, ℕ, List, length, Contains, Option, Some, None, MatchOption, sym, ap, refl, subst}
use Rattle.std.proofs.lemmas.Option.{none-some, slice_get_within}
use Rattle.grind_polynomials.specs.declared.poly.Term.{Term}
use Rattle.grind_ring_basis.specs.declared.types.Fact.{Fact}
use Rattle.grind_ring_basis.specs.declared.types.Places.{Places}
use Rattle.grind_ring_basis.specs.declared.types.Combination.{Combination}
use Rattle.grind_ring_units.specs.declared.types.State.{State}
use Rattle.grind_ring_units.specs.declared.findings.Marks.{Marks}
use Rattle.grind_ring_units.specs.declared.findings.Posts.{Posts}
use Rattle.grind_ring_units.specs.declared.findings.Scan.TheVariants as scan
use Rattle.grind_ring_units.specs.PostUnits.{IsPostTooLarge, IsPostDone, WouldReduce}
use Rattle.grind_ring_units.specs.PairUnits.{IsPairTooLarge, IsPairDone, WouldJoinPair}
use Rattle.grind_ring_units.specs.Scans.{OnlyLater, IsOneOf, MayJoin, ArePostsOf, AreMarkedPosts, no_posts, ArePostsOfPair, IsWithin, AreMarkedPairs, IsPairScan, no_pairs}
use Rattle.grind_ring_solver.specs.Steps.{NoneAtPosts, IsJoiningForm, WouldJoin, WouldNotFit, FormsFit, NoneWouldJoin, EachIsDone}
use Rattle.grind_ring_solver.specs.Decisions.{first_of, both_of, AreBlocked}

module _ (state : State) where
  none_at_posts : (posts : Marks) → AreMarkedPosts state no_posts posts → MayJoin state → NoneAtPosts state
  none_at_posts posts marked may = record {
    joining = λ it there joins. marked.none_own it there joins;
    reduced = λ it there would. none it there would;
  }
    where
      none : OnlyLater Fact (λ (it : Fact). Contains state.taken it) no_posts (WouldReduce state)
      none =
          subst (λ (mark : Option Posts). MatchOption mark (OnlyLater Fact (λ (it : Fact). Contains state.taken it) no_posts (WouldReduce state))
          (λ at_posts. IsOneOf Fact (λ (it : Fact). Contains state.taken it) (WouldReduce state) ArePostsOf at_posts)) (marked.none_left may)
          marked.would_join

  pub joining_form : (posts : Marks) (count : ℕ) (rest : List Term) (line : Combination) → AreMarkedPosts state no_posts posts
      → IsPairScan state count no_pairs (scan.Form rest line) → IsJoiningForm state rest line
  joining_form posts count rest line marked found = inr (none_at_posts posts marked found.0, found.1, found.2, found.3)

  -- ---- both elements of a pair are there
  large_within : (places : Places) → IsPairTooLarge state places → IsWithin (length state.basis.elements) places
  large_within places large = elim large [
    | inl made ↦ (made.2.rising, slice_get_within state.basis.elements places.second made.1 made.2.second_is)
    | inr later ↦ elim later [
      | inl over ↦ (over.1, slice_get_within state.basis.elements places.second over.2.second over.2.second_is)
      | inr some ↦
          (some.2.rising, slice_get_within state.basis.elements places.second some.2.pair_is.second some.2.pair_is.second_is)
    ]
  ]

  joins_within : (places : Places) → WouldJoinPair state places → IsWithin (length state.basis.elements) places
  joins_within places would =
      let it = would.3.reducible in (it.rising, slice_get_within state.basis.elements places.second it.pair_is.second it.pair_is.second_is)

  -- ---- marks of both
  large_of : (one other : Option Posts)
      → MatchOption one (OnlyLater Fact (λ (it : Fact). Contains state.taken it) no_posts (IsPostTooLarge state))
      (λ posts. IsOneOf Fact (λ (it : Fact). Contains state.taken it) (IsPostTooLarge state) ArePostsOf posts)
      → MatchOption other (OnlyLater Places (IsWithin (length state.basis.elements)) no_pairs (IsPairTooLarge state))
      (λ posts. IsOneOf Places (IsWithin (length state.basis.elements)) (IsPairTooLarge state) (ArePostsOfPair state) posts)
      → MatchOption (first_of one other) (FormsFit state) (λ posts. WouldNotFit state posts.first posts.second)
  large_of None None p q = record {
    posts = λ it there large. p it there large;
    pairs = λ places large. q places (large_within places large) large;
  }
  large_of None (Some b) p q = inr (q.0, q.2, q.3)
  large_of (Some a) other p q =
      inl (p.0, p.1, p.2, ap (λ (posts : Posts). posts.first) p.3, ap (λ (posts : Posts). posts.second) p.3)

  joins_of : (one other : Option Posts)
      → MatchOption one (OnlyLater Fact (λ (it : Fact). Contains state.taken it) no_posts (WouldReduce state))
      (λ posts. IsOneOf Fact (λ (it : Fact). Contains state.taken it) (WouldReduce state) ArePostsOf posts)
      → MatchOption other (OnlyLater Places (IsWithin (length state.basis.elements)) no_pairs (WouldJoinPair state))
      (λ posts. IsOneOf Places (IsWithin (length state.basis.elements)) (WouldJoinPair state) (ArePostsOfPair state) posts)
      → MatchOption (first_of one other) (NoneWouldJoin state) (λ posts. WouldJoin state posts.first posts.second)
  joins_of None None p q = record {
    posts = λ it there would. p it there would;
    pairs = λ places would. q places (joins_within places would) would;
  }
  joins_of None (Some b) p q = inr (q.0, q.2, q.3)
  joins_of (Some a) other p q =
      inl (p.0, p.1, p.2, ap (λ (posts : Posts). posts.first) p.3, ap (λ (posts : Posts). posts.second) p.3)

  -- ---- nothing is in the way
  none_of : (K : Type 0) (all later P : K → Type 0) (are_posts : K → Posts → Type 0) (mark : Option Posts) → mark ≡ None
      → MatchOption mark (OnlyLater K all later P) (λ posts. IsOneOf K all P are_posts posts) → OnlyLater K all later P
  none_of K all later P are_posts mark none h =
      subst (λ (m : Option Posts). MatchOption m (OnlyLater K all later P) (λ posts. IsOneOf K all P are_posts posts)) none h

  post_done : (posts : Marks) → AreMarkedPosts state no_posts posts → posts.too_large ≡ None → posts.left ≡ None
      → (it : Fact) → Contains state.taken it → IsPostDone state it
  post_done posts marked fits none it there = elim (marked.judged it there) [
    | inl one ↦ elim one [
      | inl later ↦ absurd later
      | inr is_done ↦ is_done
    ]
    | inr other ↦ absurd (elim other [
      | inl large ↦
          none_of Fact (λ (k : Fact). Contains state.taken k) no_posts (IsPostTooLarge state) ArePostsOf posts.too_large fits marked.too_large
          it there large
      | inr joins ↦
          none_of Fact (λ (k : Fact). Contains state.taken k) no_posts (WouldReduce state) ArePostsOf posts.left none marked.would_join
          it there joins
    ])
  ]

  pair_done : (pairs : Marks) → AreMarkedPairs state (length state.basis.elements) no_pairs pairs → pairs.too_large ≡ None
      → pairs.left ≡ None → (places : Places) → IsWithin (length state.basis.elements) places → IsPairDone state places
  pair_done pairs marked fits none places there = elim (marked.judged places there) [
    | inl one ↦ elim one [
      | inl later ↦ absurd later
      | inr is_done ↦ is_done
    ]
    | inr other ↦ absurd (elim other [
      | inl large ↦
          none_of Places (IsWithin (length state.basis.elements)) no_pairs (IsPairTooLarge state) (ArePostsOfPair state) pairs.too_large
          fits marked.too_large places there large
      | inr joins ↦
          none_of Places (IsWithin (length state.basis.elements)) no_pairs (WouldJoinPair state) (ArePostsOfPair state) pairs.left none
          marked.would_join places there joins
    ])
  ]

  none_first : (one other : Option Posts) → first_of one other ≡ None → one ≡ None
  none_first None other e = refl
  none_first (Some a) other e = e

  none_second : (one other : Option Posts) → first_of one other ≡ None → other ≡ None
  none_second None other e = e
  none_second (Some a) other e = absurd (none-some a (sym e))

  done_of : (posts pairs : Marks) → AreMarkedPosts state no_posts posts → AreMarkedPairs state (length state.basis.elements) no_pairs pairs
      → first_of posts.too_large pairs.too_large ≡ None → first_of posts.left pairs.left ≡ None → EachIsDone state
  done_of posts pairs one two fits none = record {
    posts =
        post_done posts one (none_first posts.too_large pairs.too_large fits) (none_first posts.left pairs.left none);
    pairs = λ places first second are.
        pair_done pairs two (none_second posts.too_large pairs.too_large fits) (none_second posts.left pairs.left none) places
        (are.rising, slice_get_within state.basis.elements places.second second are.second_is);
  }

  pub blocked : (posts pairs marks : Marks) → AreMarkedPosts state no_posts posts
      → AreMarkedPairs state (length state.basis.elements) no_pairs pairs → marks ≡ both_of posts pairs → AreBlocked state marks
  blocked posts pairs marks one two is = subst (AreBlocked state) (sym is) (record {
    joining = λ it there joins. one.none_own it there joins;
    too_large = large_of posts.too_large pairs.too_large one.too_large two.too_large;
    would_join = joins_of posts.left pairs.left one.would_join two.would_join;
    none_left = λ may. λ i. first_of (one.none_left may i) (two.none_left may i);
    done = λ fits none. done_of posts pairs one two fits none;
  })
