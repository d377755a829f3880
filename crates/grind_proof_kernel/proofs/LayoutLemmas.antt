-- Where the lines of a branch stand, line after line.
use Rattle.std.proofs.Common.{◌≡◌, ◌≢◌, ◌↔◌, ◌⊎◌, ◌==◌, ℕ, zero, suc, ◌+◌, ◌-◌, ◌<◌, ◌≤◌, leb, min, Bool, true, false, true≢false, IsTrue, List, [], ◌∷◌, ◌++◌, Option, Some, None, length, length-append, reverse, take, slice_index_or, slice_set, refl, sym, ap, ◌∙◌, subst, arith, inl, inr}
use Rattle.std.specs.Prelude.{slice_get}
use Rattle.std.specs.Option.{IsSomeAnd}
use Rattle.std.proofs.Math.Seq.{take-suc}
use Rattle.std.proofs.Math.ListN.{get_or-append}
use Rattle.std.proofs.lemmas.Bool.{cases_eq, ne_eqb, eq-eqb, leb-true, le-leb}
use Rattle.std.proofs.lemmas.List.{reverse-append, length-take-le, get_or-set_same, get_or-set_other}
use Rattle.std.proofs.lemmas.Option.{none-some, get_or_from_slice_get}
use Rattle.grind_claims.specs.declared.claim.Claim.TheVariants.{Absurd}
use Rattle.grind_claims.specs.declared.proof.Branch.{Branch}
use Rattle.grind_claims.specs.declared.proof.Line.{Line}
use Rattle.grind_claims.specs.declared.proof.Proof.{Proof}
use Rattle.grind_claims.proofs.Growth.{some_and_stays}
use Rattle.grind_proof_kernel.specs.declared.spans.Span.{Span}
use Rattle.grind_proof_kernel.specs.Typing.{branch_at, StandsBefore, StandsBehind, IsClosed, IsWhole, IsInPair, IsInPlace, IsGoodBranch, last_in}
use Rattle.grind_proof_kernel.specs.Layouts.{IsSpan, AreSpans, NotesLine}

-- an item of a longer list is one of the list, or the last
item_more : {X : Type 0} (P : X → Type 0) (xs : List X) (x : X) (i : ℕ) → IsSomeAnd (slice_get (xs ++ x ∷ []) i) P →
    IsSomeAnd (slice_get xs i) P ⊎ ((i ≡ length xs) × P x)
item_more P [] x zero h = inr (refl, h)
item_more P [] x (suc i) h = absurd h
item_more P (y ∷ xs) x zero h = inl h
item_more P (y ∷ xs) x (suc i) h = elim (item_more P xs x i h) [
  | inl k ↦ inl k
  | inr k ↦ let e = k.0 in inr (omega arith, k.1)
]

last_is : {X : Type 0} (P : X → Type 0) (xs : List X) (x : X) → P x → IsSomeAnd (slice_get (xs ++ x ∷ []) (length xs)) P
last_is P [] x h = h
last_is P (y ∷ xs) x h = last_is P xs x h

within_some : {X : Type 0} (P : X → Type 0) (xs : List X) (i : ℕ) → IsSomeAnd (slice_get xs i) P → i < length xs
within_some P [] i h = absurd h
within_some P (x ∷ xs) zero h = omega arith
within_some P (x ∷ xs) (suc i) h = let below = within_some P xs i h in omega arith

module _ (lines : List Line) (line : Line) (branch : ℕ) where
  -- a line of the branch
  abbrev IsIn : Line → Type 0
  IsIn it = it.branch ≡ branch

  behind_less : (after : ℕ) → StandsBehind (lines ++ line ∷ []) branch after → StandsBehind lines branch after
  behind_less after h = λ i here. h i (some_and_stays IsIn lines (line ∷ []) i here)

  before_less : (after : ℕ) → StandsBefore (lines ++ line ∷ []) branch after → StandsBefore lines branch after
  before_less after h = λ i here. h i (some_and_stays IsIn lines (line ∷ []) i here)

  behind_more : (after : ℕ) → (line.branch ≡ branch → after ≤ length lines) → StandsBehind lines branch after →
      StandsBehind (lines ++ line ∷ []) branch after
  behind_more after last h = λ i here. elim (item_more IsIn lines line i here) [
    | inl k ↦ h i k
    | inr k ↦ let e = k.0 in let low = last k.1 in omega arith
  ]

  before_more : (after : ℕ) → (line.branch ≡ branch → length lines < after) → StandsBefore lines branch after →
      StandsBefore (lines ++ line ∷ []) branch after
  before_more after last h = λ i here. elim (item_more IsIn lines line i here) [
    | inl k ↦ h i k
    | inr k ↦ let e = k.0 in let low = last k.1 in omega arith
  ]

  turned : reverse (lines ++ line ∷ []) ≡ line ∷ reverse lines
  turned = reverse-append lines (line ∷ [])

  abbrev Contradicts : Option Line → Type 0
  Contradicts o = IsSomeAnd o (λ (it : Line). it.claim ≡ Absurd)

  -- the last line of the branch is this one
  closed_here : line.branch ≡ branch → IsClosed (lines ++ line ∷ []) branch ↔ (line.claim ≡ Absurd)
  closed_here is =
      let turn = turned in
      let test : (line.branch == branch) ≡ true = eq-eqb line.branch branch is in
      let found : last_in (lines ++ line ∷ []) branch ≡ Some line = cc in
      (λ h. subst Contradicts found h, λ h. subst Contradicts (sym found) h)

  closed_other : (line.branch ≡ branch → ⊥) → IsClosed (lines ++ line ∷ []) branch ↔ IsClosed lines branch
  closed_other other =
      let turn = turned in
      let test : (line.branch == branch) ≡ false = ne_eqb line.branch branch other in
      let found : last_in (lines ++ line ∷ []) branch ≡ last_in lines branch = cc in
      (λ h. subst Contradicts found h, λ h. subst Contradicts (sym found) h)

  -- the span of another branch
  pub span_other : (span : Span) → (line.branch ≡ branch → ⊥) → IsSpan lines branch span → IsSpan (lines ++ line ∷ []) branch span
  span_other span other h = record {
    begins = λ after low.
        let is = h.begins after low in
        (λ le. behind_more after (λ e. absurd (other e)) (is.0 le), λ k. is.1 (behind_less after k));
    ends = λ after.
        let is = h.ends after in
        (λ le. before_more after (λ e. absurd (other e)) (is.0 le), λ k. is.1 (before_less after k));
    closes =
        let same = closed_other other in
        (λ y. same.1 (h.closes.0 y), λ k. h.closes.1 (same.0 k));
  }

  -- and of the branch of the line
  pub span_here : (span new : Span) → line.branch ≡ branch → new.begin ≡ min span.begin (length lines) → new.end ≡ length lines + 1 →
      (IsTrue new.closed ↔ (line.claim ≡ Absurd)) → IsSpan lines branch span → IsSpan (lines ++ line ∷ []) branch new
  span_here span new is begin end closed h = record {
    begins = λ after low. (
      λ le. behind_more after (λ e. omega arith) ((h.begins after low).0 (omega arith)),
      λ k.
          let first = (h.begins after low).1 (behind_less after k) in
          let last = k (length lines) (last_is IsIn lines line is) in
          omega arith,
    );
    ends = λ after. (
      λ le. before_more after (λ e. omega arith)
          (λ i here. let within = within_some IsIn lines i here in omega arith),
      λ k. let last = k (length lines) (last_is IsIn lines line is) in omega arith,
    );
    closes =
        let same = closed_here is in
        (λ y. same.1 (closed.0 y), λ k. closed.1 (same.0 k));
  }

-- one more line, noted in the span of its branch
pub noted_here : (line : Line) (old new : List Span) (branch i : ℕ) (span next : Span) (absurd : Bool) → branch < length old →
    branch ≡ line.branch → slice_get old branch ≡ Some span → new ≡ slice_set old branch next →
    next.begin ≡ min span.begin i → next.end ≡ i + 1 → next.closed ≡ absurd → (IsTrue absurd ↔ (line.claim ≡ Absurd)) →
    NotesLine line i old new
noted_here line old new branch i span next closes within is read set begin end closing tells lines count h =
    subst (AreSpans (lines ++ line ∷ [])) (sym set) each
  where
    same_length : (xs : List Span) (n : ℕ) (x : Span) → length (slice_set xs n x) ≡ length xs
    same_length [] n x = refl
    same_length (y ∷ xs) zero x = refl
    same_length (y ∷ xs) (suc n) x = ap suc (same_length xs n x)

    each : AreSpans (lines ++ line ∷ []) (slice_set old branch next)
    each b d below =
        let same = same_length old branch next in
        let low : b < length old = omega (arith, below, same) in
        elim (cases_eq b branch) [
          | inl e ↦
              let at : slice_index_or (slice_set old branch next) b d ≡ next =
              ap (λ (n : ℕ). slice_index_or (slice_set old branch next) n d) e ∙ get_or-set_same old branch next d within in
              let before : IsSpan lines b span = subst (λ (n : ℕ). IsSpan lines n span) (sym e)
              (subst (IsSpan lines branch) (get_or_from_slice_get old branch span span read) (h branch span within)) in
              subst (IsSpan (lines ++ line ∷ []) b) (sym at)
              (span_here lines line b span next (sym (e ∙ is)) (begin ∙ ap (min span.begin) (sym count)) (end ∙ ap (λ n. n + 1) (sym count))
              (subst (λ (t : Bool). IsTrue t ↔ (line.claim ≡ Absurd)) (sym closing) tells) before)
          | inr other ↦
              let at : slice_index_or (slice_set old branch next) b d ≡ slice_index_or old b d = get_or-set_other old branch b next d other in
              subst (IsSpan (lines ++ line ∷ []) b) (sym at)
              (span_other lines line b (slice_index_or old b d) (λ e. other (sym (is ∙ e))) (h b d low))
        ]

-- a line of no branch that has a span
pub noted_nowhere : (line : Line) (spans : List Span) (i : ℕ) → length spans ≤ line.branch → NotesLine line i spans spans
noted_nowhere line spans i past lines count h b d below =
    span_other lines line b (slice_index_or spans b d) (λ e. omega arith) (h b d below)

-- where there is no line
pub empty_span : (branch : ℕ) (span : Span) → span.begin ≡ 4294967295 → span.end ≡ 0 → span.closed ≡ false → IsSpan [] branch span
empty_span branch span begin end closed = record {
  begins = λ after low. (λ le i here. absurd here, λ k. omega arith);
  ends = λ after. (λ le i here. absurd here, λ k. omega arith);
  closes = (λ y. absurd (cc (y, closed)), λ k. absurd k);
}

pub one_more_empty : (old new : List Span) (span : Span) → new ≡ old ++ span ∷ [] → span.begin ≡ 4294967295 → span.end ≡ 0 →
    span.closed ≡ false → AreSpans [] old → AreSpans [] new
one_more_empty old new span is begin end closed h = subst (AreSpans []) (sym is) each
  where
    last_at : (xs : List Span) (n : ℕ) (d : Span) → n ≡ length xs → slice_index_or (xs ++ span ∷ []) n d ≡ span
    last_at [] zero d e = refl
    last_at [] (suc n) d e = absurd (omega arith)
    last_at (x ∷ xs) zero d e = absurd (omega arith)
    last_at (x ∷ xs) (suc n) d e = last_at xs n d (omega arith)

    one_more : length (old ++ span ∷ []) ≡ length old + 1
    one_more = simp length-append (omega arith)

    each : AreSpans [] (old ++ span ∷ [])
    each b d below =
        let count = one_more in
        elim (cases_eq b (length old)) [
          | inl e ↦ subst (IsSpan [] b) (sym (last_at old b d e)) (empty_span b span begin end closed)
          | inr other ↦
              let low : b < length old = omega (arith, below, count, other) in
              subst (IsSpan [] b) (sym (get_or-append old (span ∷ []) d b low)) (h b d low)
        ]

-- the first lines, and one more
pub next_line : (lines : List Line) (n : ℕ) (line : Line) (old new : List Span) → n < length lines → line ≡ slice_index_or lines n line →
    NotesLine line n old new → AreSpans (take n lines) old → AreSpans (take (n + 1) lines) new
next_line lines n line old new within is note h =
    let count : length (take n lines) ≡ n = length-take-le n lines (omega arith) in
    let next : suc n ≡ n + 1 = omega arith in
    let front : take n lines ++ line ∷ [] ≡ take (n + 1) lines =
    ap (λ (it : Line). take n lines ++ it ∷ []) is ∙ sym (take-suc lines n line within) ∙ ap (λ (k : ℕ). take k lines) next in
    subst (λ (all : List Line). AreSpans all new) front (note (take n lines) count h)

-- one item more
pub one_item_more : {X : Type 0} (old new : List X) (item : X) (n : ℕ) → new ≡ old ++ item ∷ [] → length old ≡ n → length new ≡ n + 1
one_item_more {X} old new item n e count =
    let more : length (old ++ item ∷ []) ≡ length old + 1 = simp length-append (omega arith) in
    ap (λ (items : List X). length items) e ∙ more ∙ ap (λ k. k + 1) count

-- the span at a place is that of the branch
pub span_is : (lines : List Line) (spans : List Span) (branch : ℕ) (span : Span) → branch < length spans → AreSpans lines spans →
    slice_get spans branch ≡ Some span → IsSpan lines branch span
span_is lines spans branch span within are read =
    subst (IsSpan lines branch) (get_or_from_slice_get spans branch span span read) (are branch span within)

-- a test of an order, read as what the order means
pub leb_tells : {P : Type 0} (a b : ℕ) → ((a ≤ b) ↔ P) → IsTrue (leb a b) ↔ P
leb_tells a b is = (λ y. is.0 (leb-true a b y), λ h. le-leb a b (is.1 h))

-- a listed branch is good where it is as its place asks, and whole
module _ (proof : Proof) (branch : ℕ) (it : Branch) (stands : branch_at proof.branches branch ≡ Some it) where
  abbrev IsPlaced : Type 0
  IsPlaced = (k : ℕ) × IsInPair proof.terms.nodes proof.branches proof.lines k branch it

  is_listed : IsGoodBranch proof branch ↔ IsInPlace proof.terms.nodes proof.branches proof.lines branch it
  is_listed = by_number branch stands
    where
      by_number : (n : ℕ) → branch_at proof.branches n ≡ Some it →
          IsGoodBranch proof n ↔ IsInPlace proof.terms.nodes proof.branches proof.lines n it
      by_number zero there = absurd (none-some it there)
      by_number (suc b) there =
          let P : Branch → Type 0 = IsInPlace proof.terms.nodes proof.branches proof.lines (suc b) in
          let Q : Option Branch → Type 0 = λ o. IsSomeAnd o P in
          (λ h. subst Q there h, λ h. subst Q (sym there) h)

  pub good_where_placed : (placed whole : Bool) → placed ≡ true → (IsTrue placed ↔ IsPlaced) →
      (IsTrue whole ↔ IsWhole proof.branches proof.lines branch it.after) → IsTrue whole ↔ IsGoodBranch proof branch
  good_where_placed placed whole yes_placed told is =
      let good = is_listed in
      (λ y. good.1 (record { pair = told.0 yes_placed; whole = is.0 y }), λ h. is.1 (good.0 h).whole)

  pub bad_where_not_placed : (placed : Bool) → placed ≡ false → (IsTrue placed ↔ IsPlaced) → IsTrue placed ↔ IsGoodBranch proof branch
  bad_where_not_placed placed not_placed told =
      let good = is_listed in
      (λ y. absurd (true≢false (sym y ∙ not_placed)), λ h. told.1 (good.0 h).pair)

-- no branch that is not listed is good but the root
pub bad_where_none : (proof : Proof) (branch : ℕ) → 0 < branch → branch_at proof.branches branch ≡ None → IsTrue false ↔ IsGoodBranch proof branch
bad_where_none proof zero some none = absurd (omega arith)
bad_where_none proof (suc b) some none =
    let Q : Option Branch → Type 0 = λ o. IsSomeAnd o (IsInPlace proof.terms.nodes proof.branches proof.lines (suc b)) in
    (λ wrong. absurd (true≢false (sym wrong)), λ h. absurd (subst Q none h))
