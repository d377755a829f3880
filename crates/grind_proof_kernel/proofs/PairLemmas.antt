-- Which pair goes on from a branch, pair after pair.
use Rattle.std.proofs.Common.{◌≡◌, ◌≢◌, ◌↔◌, ◌⊎◌, ℕ, zero, suc, ◌+◌, ◌-◌, ◌<◌, ◌≤◌, min, leb, ltb, Bool, IsTrue, List, [], ◌∷◌, ◌++◌, Option, Some, None, length, length-append, slice_index_or, slice_get, slice_set, refl, sym, ap, ◌∙◌, subst, arith, inl, inr}
use Rattle.std.proofs.Math.ListN.{get_or-append}
use Rattle.std.proofs.lemmas.Bool.{cases_eq, ltb-true, lt-ltb}
use Rattle.std.proofs.lemmas.List.{get_or-set_same, get_or-set_other}
use Rattle.std.proofs.lemmas.Option.{same_Some, get_or_from_slice_get}
use Rattle.grind_claims.specs.declared.proof.Branch.{Branch}
use Rattle.grind_proof_kernel.specs.Typing.{parent_of, IsPairOf, IsParent}
use Rattle.grind_proof_kernel.specs.Layouts.{IsFirstPair, IsFirstPairSoFar, AreFirstPairs, AreFirstPairsSoFar, NotesPair}

below_or_not : (a b : ℕ) → (a < b) ⊎ (b ≤ a)
below_or_not a zero = inr (omega arith)
below_or_not zero (suc b) = inl (omega arith)
below_or_not (suc a) (suc b) = elim (below_or_not a b) [ inl low ↦ inl (omega arith) | inr high ↦ inr (omega arith) ]

module _ (branches : List Branch) where
  -- no pair is known yet
  pub none_known : (branch first : ℕ) → first ≡ 4294967295 → IsFirstPairSoFar branches 0 branch first
  none_known branch first is count few = (λ low. absurd (omega arith), λ found. let none = found.2 in absurd (omega arith))

  -- the pair goes on from the branch
  first_here : (done branch first next : ℕ) → IsPairOf branches done branch → next ≡ min first done →
      IsFirstPairSoFar branches done branch first → IsFirstPairSoFar branches (done + 1) branch next
  first_here done branch first next here is h count few = (
    λ low. elim (below_or_not first count) [
      | inl before ↦
          let found = (h count few).0 before in
          let early = found.2 in
          (found.0, found.1, omega arith, found.3)
      | inr past ↦ (done, omega arith, omega arith, here)
    ],
    λ found. elim (below_or_not found.0 done) [
      | inl before ↦
          let low = (h count few).1 (found.0, found.1, before, found.3) in
          omega arith
      | inr at ↦
          let low = found.1 in
          omega arith
    ],
  )

  -- the pair goes on from another branch
  first_elsewhere : (done branch other first : ℕ) → IsPairOf branches done other → branch ≢ other →
      IsFirstPairSoFar branches done branch first → IsFirstPairSoFar branches (done + 1) branch first
  first_elsewhere done branch other first here apart h count few = (
    λ low.
        let found = (h count few).0 low in
        let early = found.2 in
        (found.0, found.1, omega arith, found.3),
    λ found. elim (below_or_not found.0 done) [
      | inl before ↦ (h count few).1 (found.0, found.1, before, found.3)
      | inr at ↦
          let early = found.2 in
          let same : found.0 ≡ done = omega arith in
          let parent = subst (λ (k : ℕ). IsPairOf branches k branch) same found.3 in
          absurd (apart (same_Some branch other (sym parent.1 ∙ here.1)))
    ],
  )

  -- all pairs are known
  pub all_known : (done branch first : ℕ) → length branches ≤ done + done + 1 → IsFirstPairSoFar branches done branch first →
      IsFirstPair branches branch first
  all_known done branch first all h count few = (
    λ low. let found = (h count few).0 low in (found.0, found.1, found.3),
    λ found.
        let within = found.2.0 in
        (h count few).1 (found.0, found.1, omega arith, found.2),
  )

  pub all_pairs : (done : ℕ) (firsts : List ℕ) → length branches ≤ done + done + 1 → AreFirstPairsSoFar branches done firsts →
      AreFirstPairs branches firsts
  all_pairs done firsts all h branch d below = all_known done branch (slice_index_or firsts branch d) all (h branch d below)

  -- one number more, where no pair is known
  pub one_unknown_more : (old new : List ℕ) (first : ℕ) → new ≡ old ++ first ∷ [] → first ≡ 4294967295 →
      AreFirstPairsSoFar branches 0 old → AreFirstPairsSoFar branches 0 new
  one_unknown_more old new first is none h = subst (AreFirstPairsSoFar branches 0) (sym is) each
    where
      last_at : (xs : List ℕ) (n : ℕ) (d : ℕ) → n ≡ length xs → slice_index_or (xs ++ first ∷ []) n d ≡ first
      last_at [] zero d e = refl
      last_at [] (suc n) d e = absurd (omega arith)
      last_at (x ∷ xs) zero d e = absurd (omega arith)
      last_at (x ∷ xs) (suc n) d e = last_at xs n d (omega arith)

      one_more : length (old ++ first ∷ []) ≡ length old + 1
      one_more = simp length-append (omega arith)

      each : AreFirstPairsSoFar branches 0 (old ++ first ∷ [])
      each b d below =
          let count = one_more in
          elim (cases_eq b (length old)) [
            | inl e ↦ subst (IsFirstPairSoFar branches 0 b) (sym (last_at old b d e)) (none_known b first none)
            | inr other ↦
                let low : b < length old = omega (arith, below, count, other) in
                subst (IsFirstPairSoFar branches 0 b) (sym (get_or-append old (first ∷ []) d b low)) (h b d low)
          ]

-- the pair is noted at its parent
pub noted_at : (old new : List ℕ) (k parent first next : ℕ) → parent < length old → slice_get old parent ≡ Some first →
    next ≡ min first k → new ≡ slice_set old parent next → NotesPair k parent old new
noted_at old new k parent first next within read least set branches here h = subst (AreFirstPairsSoFar branches (k + 1)) (sym set) each
  where
    same_length : (xs : List ℕ) (n x : ℕ) → length (slice_set xs n x) ≡ length xs
    same_length [] n x = refl
    same_length (y ∷ xs) zero x = refl
    same_length (y ∷ xs) (suc n) x = ap suc (same_length xs n x)

    each : AreFirstPairsSoFar branches (k + 1) (slice_set old parent next)
    each b d below =
        let same = same_length old parent next in
        let low : b < length old = omega (arith, below, same) in
        elim (cases_eq b parent) [
          | inl e ↦
              let at : slice_index_or (slice_set old parent next) b d ≡ next =
              ap (λ (n : ℕ). slice_index_or (slice_set old parent next) n d) e ∙ get_or-set_same old parent next d within in
              let before : IsFirstPairSoFar branches k parent first =
              subst (IsFirstPairSoFar branches k parent) (get_or_from_slice_get old parent first first read) (h parent first within) in
              subst (IsFirstPairSoFar branches (k + 1) b) (sym at)
              (subst (λ (n : ℕ). IsFirstPairSoFar branches (k + 1) n next) (sym e) (first_here branches k parent first next here least before))
          | inr other ↦
              let at : slice_index_or (slice_set old parent next) b d ≡ slice_index_or old b d = get_or-set_other old parent b next d other in
              subst (IsFirstPairSoFar branches (k + 1) b) (sym at)
              (first_elsewhere branches k b parent (slice_index_or old b d) here other (h b d low))
        ]

-- its parent is no branch of those that are told
pub noted_nowhere_else : (firsts : List ℕ) (k parent : ℕ) → length firsts ≤ parent → NotesPair k parent firsts firsts
noted_nowhere_else firsts k parent past branches here h b d below =
    first_elsewhere branches k b parent (slice_index_or firsts b d) here (λ e. omega arith) (h b d below)

-- the number at a place is that of the branch
pub first_is : (branches : List Branch) (firsts : List ℕ) (branch first : ℕ) → branch < length firsts → AreFirstPairs branches firsts →
    slice_get firsts branch ≡ Some first → IsFirstPair branches branch first
first_is branches firsts branch first within are read =
    subst (IsFirstPair branches branch) (get_or_from_slice_get firsts branch first first read) (are branch first within)

-- a test of an order, read as what the order means
pub ltb_tells : {P : Type 0} (a b : ℕ) → ((a < b) ↔ P) → IsTrue (ltb a b) ↔ P
ltb_tells a b is = (λ y. is.0 (ltb-true a b y), λ h. lt-ltb a b (is.1 h))

-- among as many pairs as there are branches are all pairs
pub parent_tells : (branches : List Branch) (branch count : ℕ) (answer : Bool) → count ≡ length branches →
    (IsTrue answer ↔ ((k : ℕ) × (k < count) × IsPairOf branches k branch)) → IsTrue answer ↔ IsParent branches branch
parent_tells branches branch count answer all told = (
  λ y. let found = told.0 y in (found.0, found.2),
  λ is. let within = is.1.0 in told.1 (is.0, omega arith, is.1),
)
