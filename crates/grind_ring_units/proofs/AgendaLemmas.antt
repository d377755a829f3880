-- Pairs that are gone through, and which of them are left.
use Rattle.std.proofs.Common.{◌≡◌, ◌⊎◌, inl, inr, ℕ, ◌+◌, ◌<◌, ◌≤◌, Bool, IsTrue, true, false, List, [], ◌∷◌, ◌++◌, length, Contains, nat_lt, arith, sym, refl, subst}
use Rattle.std.proofs.lemmas.Bool.{ltb-true, ltb-false}
use Rattle.std.proofs.lemmas.List.Elements.{Contains-append_left, Contains-append_right, Contains-append_cases, Contains-push, Contains-push_cases}
use Rattle.grind_ring_basis.specs.declared.types.Basis.{Basis}
use Rattle.grind_ring_basis.specs.declared.types.Places.{Places}
use Rattle.grind_ring_units.specs.declared.types.State.{State}
use Rattle.grind_ring_units.specs.declared.findings.Finding.{Finding}
use Rattle.grind_ring_units.specs.declared.findings.Finding.TheVariants as finding
use Rattle.grind_ring_units.specs.declared.findings.Marks.{Marks}
use Rattle.grind_ring_units.specs.declared.findings.Posts.{Posts}
use Rattle.grind_ring_units.specs.Agendas.{IsPairSettled, AreLeftOf, AreLeft}
use Rattle.grind_ring_units.specs.PairUnits.{IsPairDone, ArePostsAt}
use Rattle.grind_ring_units.specs.Findings.{kept, marked, IsCase, IsFoundAtPair, IsRowEntered}
use Rattle.grind_ring_units.specs.Scans.{no_marks, MayJoin, AreMarkedPairs, no_pairs, IsWithin}
use Rattle.grind_ring_units.proofs.FindingLemmas.{settled_done}
use Rattle.grind_ring_units.proofs.ListLemmas.{none_listed, first_or_rest, at_first, in_rest}
use Rattle.grind_ring_units.proofs.MarkLemmas.{pairs_begin, pairs_step, pairs_end}

-- those that are left now were left before, and each other one of these is settled
left_on : (basis : Basis) (rows : ℕ) (P Q : Places → Type 0) → AreLeftOf basis rows P → ((k : Places) → Q k → P k)
    → ((k : Places) → P k → IsPairSettled basis k ⊎ Q k) → AreLeftOf basis rows Q
left_on basis rows P Q before only each = record {
  rising = λ k there. before.rising k (only k there);
  within = λ k there. before.within k (only k there);
  each = λ k rising low. elim (before.each k rising low) [
    | inl settled ↦ inl settled
    | inr was ↦ each k was
  ];
}

-- ---- a pass over those that are left
-- what is to come and what was passed over and is left are left, and what the marks say of those that are not to come
pub record PairsSoFar (state : State) (rest left : List Places) (marks : Marks) : Type 0 where
  pub are_left : AreLeftOf state.basis (length state.basis.elements) (λ (k : Places). Contains rest k ⊎ Contains left k)
  pub are_marked : AreMarkedPairs state (length state.basis.elements) (λ (k : Places). Contains rest k) marks

module _ (state : State) where
  pub look_begin : (pairs rest left : List Places) (marks : Marks) → AreLeft state.basis (length state.basis.elements) pairs → rest ≡ pairs
      → left ≡ [] → marks ≡ no_marks → PairsSoFar state rest left marks
  look_begin pairs rest left marks are rest_is left_is marks_are = record {
    are_left =
        left_on state.basis (length state.basis.elements) (λ (k : Places). Contains pairs k) (λ (k : Places). Contains rest k ⊎ Contains left k)
        are only (λ k there. inr (inl (subst (λ (xs : List Places). Contains xs k) (sym rest_is) there)));
    are_marked = pairs_begin state (length state.basis.elements) (λ (k : Places). Contains rest k) marks marks_are each;
  }
    where
      only : (k : Places) → Contains rest k ⊎ Contains left k → Contains pairs k
      only k there = elim there [
        | inl one ↦ subst (λ (xs : List Places). Contains xs k) rest_is one
        | inr other ↦ absurd (none_listed k (subst (λ (xs : List Places). Contains xs k) left_is other))
      ]

      each : (k : Places) → IsWithin (length state.basis.elements) k → IsPairDone state k ⊎ Contains rest k
      each k within = elim (are.each k within.0 within.1) [
        | inl settled ↦ inl (settled_done state k settled)
        | inr there ↦ inr (subst (λ (xs : List Places). Contains xs k) (sym rest_is) there)
      ]

  module _ (rest tail left : List Places) (it : Places) (marks : Marks) (is : rest ≡ it ∷ tail) (so_far : PairsSoFar state rest left marks) where
    here : Contains rest it
    here = subst (λ (xs : List Places). Contains xs it) (sym is) (at_first it tail)

    pub look_rising : it.first < it.second
    look_rising = so_far.are_left.rising it (inl here)

    pub look_within : it.second < length state.basis.elements
    look_within = so_far.are_left.within it (inl here)

    -- the pair is left still, or it is settled
    kept_cases : (finding : Finding) → IsFoundAtPair state it finding → IsPairSettled state.basis it ⊎ Contains (kept left it finding) it
    kept_cases finding.Settled found = inl found
    kept_cases finding.Done found = inr (Contains-push left it)
    kept_cases finding.Own found = inr (Contains-push left it)
    kept_cases (finding.Form form line) found = inr (Contains-push left it)
    kept_cases finding.TooLarge found = inr (Contains-push left it)

    kept_stays : (finding : Finding) (k : Places) → Contains left k → Contains (kept left it finding) k
    kept_stays finding.Settled k there = there
    kept_stays finding.Done k there = Contains-append_left left (it ∷ []) k there
    kept_stays finding.Own k there = Contains-append_left left (it ∷ []) k there
    kept_stays (finding.Form form line) k there = Contains-append_left left (it ∷ []) k there
    kept_stays finding.TooLarge k there = Contains-append_left left (it ∷ []) k there

    kept_only : (finding : Finding) (k : Places) → Contains (kept left it finding) k → Contains left k ⊎ (it ≡ k)
    kept_only finding.Settled k there = inl there
    kept_only finding.Done k there = Contains-push_cases left it k there
    kept_only finding.Own k there = Contains-push_cases left it k there
    kept_only (finding.Form form line) k there = Contains-push_cases left it k there
    kept_only finding.TooLarge k there = Contains-push_cases left it k there

    still_left : (finding : Finding) → IsFoundAtPair state it finding
        → AreLeftOf state.basis (length state.basis.elements) (λ (k : Places). Contains tail k ⊎ Contains (kept left it finding) k)
    still_left finding found =
        left_on state.basis (length state.basis.elements) (λ (k : Places). Contains rest k ⊎ Contains left k)
        (λ (k : Places). Contains tail k ⊎ Contains (kept left it finding) k) so_far.are_left only each
      where
        only : (k : Places) → Contains tail k ⊎ Contains (kept left it finding) k → Contains rest k ⊎ Contains left k
        only k there = elim there [
          | inl one ↦ inl (subst (λ (xs : List Places). Contains xs k) (sym is) (in_rest it tail k one))
          | inr other ↦ elim (kept_only finding k other) [
            | inl old ↦ inr old
            | inr same ↦ inl (subst (Contains rest) same here)
          ]
        ]

        each : (k : Places) → Contains rest k ⊎ Contains left k
            → IsPairSettled state.basis k ⊎ (Contains tail k ⊎ Contains (kept left it finding) k)
        each k there = elim there [
          | inl one ↦ elim (first_or_rest it tail k (subst (λ (xs : List Places). Contains xs k) is one)) [
            | inl same ↦
                subst (λ (x : Places). IsPairSettled state.basis x ⊎ (Contains tail x ⊎ Contains (kept left it finding) x)) same
                (elim (kept_cases finding found) [
                  | inl settled ↦ inl settled
                  | inr more ↦ inr (inr more)
                ])
            | inr more ↦ inr (inl more)
          ]
          | inr other ↦ inr (inr (kept_stays finding k other))
        ]

    pub look_step : (finding : Finding) (free : Bool) (posts : Posts) (new_marks : Marks) (new_left : List Places) → IsFoundAtPair state it finding
        → (MayJoin state → IsTrue free) → ¬ IsCase free finding → ArePostsAt state it posts.first posts.second
        → new_marks ≡ marked marks finding posts → new_left ≡ kept left it finding → PairsSoFar state tail new_left new_marks
    look_step finding free posts new_marks new_left found may no_case are marks_are left_is = record {
      are_left =
          subst (λ (xs : List Places). AreLeftOf state.basis (length state.basis.elements) (λ (k : Places). Contains tail k ⊎ Contains xs k)) (sym left_is)
          (still_left finding found);
      are_marked =
          pairs_step state (length state.basis.elements) (λ (k : Places). Contains rest k) (λ (k : Places). Contains tail k) it marks
          (look_rising, look_within) (λ k there. first_or_rest it tail k (subst (λ (xs : List Places). Contains xs k) is there)) so_far.are_marked finding
          free posts new_marks found may no_case are marks_are;
    }

  module _ (rest left : List Places) (marks : Marks) (so_far : PairsSoFar state rest left marks) where
    -- where a normal form joins, what is to come is left
    pub look_case : (all : List Places) → all ≡ left ++ rest → AreLeft state.basis (length state.basis.elements) all
    look_case all is =
        subst (AreLeft state.basis (length state.basis.elements)) (sym is)
        (left_on state.basis (length state.basis.elements) (λ (k : Places). Contains rest k ⊎ Contains left k) (λ (k : Places). Contains (left ++ rest) k)
        so_far.are_left only each)
      where
        only : (k : Places) → Contains (left ++ rest) k → Contains rest k ⊎ Contains left k
        only k there = elim (Contains-append_cases left rest k there) [
          | inl one ↦ inr one
          | inr other ↦ inl other
        ]

        each : (k : Places) → Contains rest k ⊎ Contains left k → IsPairSettled state.basis k ⊎ Contains (left ++ rest) k
        each k there = elim there [
          | inl one ↦ inr (Contains-append_right left rest k one)
          | inr other ↦ inr (Contains-append_left left rest k other)
        ]

  pub look_marks : (rest left : List Places) (marks : Marks) → length rest ≡ 0 → PairsSoFar state rest left marks
      → AreMarkedPairs state (length state.basis.elements) no_pairs marks
  look_marks [] left marks none so_far =
      pairs_end state (length state.basis.elements) (λ (k : Places). Contains [] k) marks (λ k there. none_listed k there) so_far.are_marked
  look_marks (x ∷ xs) left marks none so_far = absurd (omega arith)

  pub look_end : (rest left : List Places) (marks : Marks) → length rest ≡ 0 → PairsSoFar state rest left marks
      → AreLeft state.basis (length state.basis.elements) left
  look_end [] left marks none so_far =
      left_on state.basis (length state.basis.elements) (λ (k : Places). Contains [] k ⊎ Contains left k) (λ (k : Places). Contains left k)
      so_far.are_left (λ k there. inr there) (λ k there. elim there [
        | inl one ↦ absurd (none_listed k one)
        | inr other ↦ inr other
      ])
  look_end (x ∷ xs) left marks none so_far = absurd (omega arith)

-- ---- rows that are entered
pub row_begin : (pairs new : List Places) (second : ℕ) → new ≡ pairs → IsRowEntered pairs second 0 new
row_begin pairs new second is = record {
  stays = λ k there. subst (λ (xs : List Places). Contains xs k) (sym is) there;
  only = λ k there. inl (subst (λ (xs : List Places). Contains xs k) is there);
  each = λ k low same. absurd (omega (arith, low));
}

pub row_step : (old pairs new : List Places) (first second : ℕ) → first < second → IsRowEntered old second first pairs
    → new ≡ pairs ++ record { first = first; second = second } ∷ [] → IsRowEntered old second (first + 1) new
row_step old pairs new first second rising so_far is =
    subst (IsRowEntered old second (first + 1)) (sym is) (record {
      stays = λ k there. Contains-append_left pairs (it ∷ []) k (so_far.stays k there);
      only = λ k there. elim (Contains-push_cases pairs it k there) [
        | inl before ↦ so_far.only k before
        | inr same ↦ inr (subst (λ (x : Places). (x.first < x.second) × (x.second ≡ second)) same (rising, refl))
      ];
      each = λ k low same. at_test k low same (nat_lt k.first first) refl;
    })
  where
    it : Places
    it = record { first = first; second = second }

    at_test : (k : Places) → k.first < first + 1 → k.second ≡ second → (t : Bool) → nat_lt k.first first ≡ t → Contains (pairs ++ it ∷ []) k
    at_test k low same true less = Contains-append_left pairs (it ∷ []) k (so_far.each k (ltb-true k.first first less) same)
    at_test k low same false not_less =
        let least = ltb-false k.first first not_less in
        let last : first ≡ k.first = omega arith in
        let whole : it ≡ k = λ i. record { first = last i; second = sym same i } in
        subst (Contains (pairs ++ it ∷ [])) whole (Contains-push pairs it)

module _ (basis : Basis) where
  -- with one more row
  pub rows_step : (rows : ℕ) (pairs new : List Places) → rows < length basis.elements → AreLeft basis rows pairs → IsRowEntered pairs rows rows new
      → AreLeft basis (rows + 1) new
  rows_step rows pairs new low are entered = record {
    rising = λ k there. elim (entered.only k there) [
      | inl before ↦ are.rising k before
      | inr now ↦ now.0
    ];
    within = λ k there. elim (entered.only k there) [
      | inl before ↦ are.within k before
      | inr now ↦ let same : k.second ≡ rows = now.1 in omega arith
    ];
    each = λ k rising below. at_test k rising below (nat_lt k.second rows) refl;
  }
    where
      at_test : (k : Places) → k.first < k.second → k.second < rows + 1 → (t : Bool) → nat_lt k.second rows ≡ t
          → IsPairSettled basis k ⊎ Contains new k
      at_test k rising below true less = elim (are.each k rising (ltb-true k.second rows less)) [
        | inl settled ↦ inl settled
        | inr there ↦ inr (entered.stays k there)
      ]
      at_test k rising below false not_less =
          let least = ltb-false k.second rows not_less in
          let same : k.second ≡ rows = omega arith in
          let first_low : k.first < rows = omega arith in
          inr (entered.each k first_low same)

  -- at least so many rows
  pub rows_end : (rows count : ℕ) (pairs : List Places) → count ≤ rows → AreLeft basis rows pairs → AreLeft basis count pairs
  rows_end rows count pairs all are = record {
    rising = λ k there. are.rising k there;
    within = λ k there. are.within k there;
    each = λ k rising low. are.each k rising (omega arith);
  }
