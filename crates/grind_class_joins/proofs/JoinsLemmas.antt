-- Merges of pairs, one after the other.
use Rattle.std.specs.Prelude.{◌≡◌, ◌≢◌, ℕ, ◌+◌, ◌*◌, ◌<◌, ◌≤◌, ◌^◌, List, [], ◌∷◌, ◌++◌, All, Contains, length, ◌↔◌, Result, Ok, Err, OnErr, refl}
use Rattle.std.specs.List.{sum_by}
use Rattle.std.proofs.Common.{arith, sym, ap, ◌∙◌, subst, inl, inr, append_assoc}
use Rattle.std.proofs.lemmas.Bool.{cases_lt}
use Rattle.std.proofs.lemmas.List.{append-nil}
use Rattle.std.proofs.lemmas.List.Elements.{All-head, All-tail, All-same, All-weaker}
use Rattle.grind_classes.specs.Classes.{members_of, IsIn, IsActive, AreTogether, joined}
use Rattle.grind_classes.proofs.ListLemmas.{members_within, Contains-nil}
use Rattle.grind_class_joins.specs.declared.joins.Pair.{Pair}
use Rattle.grind_class_joins.specs.Joins.{IsActivePair, BecomeOne, MergesPair, Merges, MergesFirst, member_count, IsGreatestPower}
use Rattle.grind_class_joins.proofs.WeightLemmas.{weight, weight-joined, member_count-joined, weight-bound}

-- what the loop keeps: the pairs so far are merged, and merges of others lead on
pub record AreMergedSoFar (old : List (List ℕ)) (pairs rest : List Pair) (now : List (List ℕ)) (moved : ℕ) : Type 0 where
  pub done : List Pair
  pub split : pairs ≡ done ++ rest
  pub leads : (others : List Pair) (new : List (List ℕ)) (more : ℕ) → Merges now others new more → Merges old (done ++ others) new (moved + more)

pub AreMergedSoFar-start : (old : List (List ℕ)) (pairs : List Pair) → AreMergedSoFar old pairs pairs old 0
AreMergedSoFar-start old pairs = record {
  done = [];
  split = refl;
  leads = λ others new more merges.
      let none : more ≡ 0 + more = omega arith in subst (λ (n : ℕ). Merges old others new n) none merges;
}

pub AreMergedSoFar-step : (old : List (List ℕ)) (pairs rest tail : List Pair) (pair : Pair) (now next : List (List ℕ)) (moved more later : ℕ) →
    rest ≡ pair ∷ tail → later ≡ moved + more → AreMergedSoFar old pairs rest now moved → MergesPair now pair next more →
    AreMergedSoFar old pairs tail next later
AreMergedSoFar-step old pairs rest tail pair now next moved more later is sum_is before merged = record {
  done = before.done ++ pair ∷ [];
  split = before.split ∙ ap (λ (ps : List Pair). before.done ++ ps) is ∙ sym (append_assoc before.done (pair ∷ []) tail);
  leads = λ others new k merges.
      let on : Merges now (pair ∷ others) new (more + k) = (next, more, k, merged, merges, refl) in
      let whole : Merges old (before.done ++ pair ∷ others) new (moved + (more + k)) = before.leads (pair ∷ others) new (more + k) on in
      let sums : moved + (more + k) ≡ later + k = omega (arith, sum_is) in
      subst (λ (n : ℕ). Merges old ((before.done ++ pair ∷ []) ++ others) new n) sums
      (subst (λ (ps : List Pair). Merges old ps new (moved + (more + k))) (sym (append_assoc before.done (pair ∷ []) others)) whole);
}

-- where no pair is left
pub AreMergedSoFar-end : (old : List (List ℕ)) (pairs rest : List Pair) (now : List (List ℕ)) (moved : ℕ) → length rest ≡ 0 →
    AreMergedSoFar old pairs rest now moved → Merges old pairs now moved
AreMergedSoFar-end old pairs rest now moved none h =
    let whole : Merges old (h.done ++ []) now (moved + 0) = h.leads [] now 0 (refl, refl) in
    let sums : moved + 0 ≡ moved = omega arith in
    let all : pairs ≡ h.done ++ [] = h.split ∙ ap (λ (ps : List Pair). h.done ++ ps) (empty rest none) in
    subst (λ (n : ℕ). Merges old pairs now n) sums (subst (λ (ps : List Pair). Merges old ps now (moved + 0)) (sym all) whole)
  where
    empty : (ps : List Pair) → length ps ≡ 0 → ps ≡ []
    empty [] e = refl
    empty (p ∷ ps) e = absurd (omega arith)

-- and where the loop ends early
pub AreMergedSoFar-first : (old : List (List ℕ)) (pairs rest : List Pair) (now : List (List ℕ)) (moved : ℕ) →
    AreMergedSoFar old pairs rest now moved → MergesFirst old pairs now
AreMergedSoFar-first old pairs rest now moved h =
    let whole : Merges old (h.done ++ []) now (moved + 0) = h.leads [] now 0 (refl, refl) in
    (h.done, rest, moved + 0, h.split, subst (λ (ps : List Pair). Merges old ps now (moved + 0)) (append-nil h.done) whole)

pub on_err : {T E P : Type 0} (result : Result T E) → P → OnErr result P
on_err (Ok value) holds = tt
on_err (Err error) holds = holds

-- pairs of active nodes stay so
pub still_active : (old new : List (List ℕ)) (rest tail : List Pair) (pair : Pair) → rest ≡ pair ∷ tail →
    ((n : ℕ) → IsActive new n ↔ IsActive old n) → All (IsActivePair old) rest → All (IsActivePair new) tail
still_active old new rest tail pair is same all =
    All-weaker (IsActivePair old) (IsActivePair new) (λ p h. ((same p.left).1 h.0, (same p.right).1 h.1)) tail
    (All-tail (IsActivePair old) pair tail (All-same (IsActivePair old) (pair ∷ tail) rest (sym is) all))

pub first_active : (old : List (List ℕ)) (rest tail : List Pair) (pair : Pair) → rest ≡ pair ∷ tail → All (IsActivePair old) rest →
    IsActivePair old pair
first_active old rest tail pair is all =
    All-head (IsActivePair old) pair tail (All-same (IsActivePair old) (pair ∷ tail) rest (sym is) all)

some_in : (members : List ℕ) (n : ℕ) → Contains members n → 1 ≤ length members
some_in [] n has = absurd (Contains-nil n has)
some_in (m ∷ members) n has = omega arith

-- ---- the bound
-- a merge keeps the number of nodes, and the classes weigh more by what was moved
record Grows (b : ℕ) (old new : List (List ℕ)) (moved : ℕ) : Type 0 where
  count : member_count new ≡ member_count old
  weighs : sum_by (weight b) old + moved ≤ sum_by (weight b) new

merge_grows : (b : ℕ) (old new : List (List ℕ)) (pair : Pair) (moved : ℕ) → member_count old < 2 ^ (b + 1) →
    ¬ AreTogether old pair.left pair.right → BecomeOne old pair new moved → Grows b old new moved
merge_grows b old new pair moved bound apart (ra, rb, root, left, right, merge) = elim (cases_lt (length (members_of old ra)) (length (members_of old rb))) [
  | inl less ↦
      let it = merge.1 less in
      let weighs = weight-joined b old rb ra right_in left_in (λ e. differ (sym e)) (some_in (members_of old ra) pair.left left) (omega (arith, less)) bound in record {
        count = ap member_count it.0 ∙ member_count-joined old rb ra right_in left_in (λ e. differ (sym e));
        weighs = subst (λ (lists : List (List ℕ)). sum_by (weight b) old + moved ≤ sum_by (weight b) lists) (sym it.0)
            (subst (λ (n : ℕ). sum_by (weight b) old + n ≤ sum_by (weight b) (joined old rb ra)) (sym it.2) weighs);
      }
  | inr more ↦
      let it = merge.0 more in
      let weighs = weight-joined b old ra rb left_in right_in differ (some_in (members_of old rb) pair.right right) more bound in record {
        count = ap member_count it.0 ∙ member_count-joined old ra rb left_in right_in differ;
        weighs = subst (λ (lists : List (List ℕ)). sum_by (weight b) old + moved ≤ sum_by (weight b) lists) (sym it.0)
            (subst (λ (n : ℕ). sum_by (weight b) old + n ≤ sum_by (weight b) (joined old ra rb)) (sym it.2) weighs);
      }
]
  where
    differ : ra ≢ rb
    differ e = apart (rb, subst (λ (r : ℕ). IsIn old r pair.left) e left, right)

    left_in : ra < length old
    left_in = members_within old ra pair.left left

    right_in : rb < length old
    right_in = members_within old rb pair.right right

pair_grows : (b : ℕ) (old new : List (List ℕ)) (pair : Pair) (moved : ℕ) → member_count old < 2 ^ (b + 1) → MergesPair old pair new moved →
    Grows b old new moved
pair_grows b old new pair moved bound (inl same) = record {
  count = ap member_count same.1;
  weighs = subst (λ (lists : List (List ℕ)). sum_by (weight b) old + moved ≤ sum_by (weight b) lists) (sym same.1) (omega (arith, same.2));
}
pair_grows b old new pair moved bound (inr merged) = merge_grows b old new pair moved bound merged.0 merged.1

all_grow : (b : ℕ) (old new : List (List ℕ)) (pairs : List Pair) (moved : ℕ) → member_count old < 2 ^ (b + 1) → Merges old pairs new moved →
    Grows b old new moved
all_grow b old new [] moved bound (same, none) = record {
  count = ap member_count same;
  weighs = subst (λ (lists : List (List ℕ)). sum_by (weight b) old + moved ≤ sum_by (weight b) lists) (sym same) (omega (arith, none));
}
all_grow b old new (pair ∷ pairs) moved bound (mid, first, others, here, rest, sum_is) =
    let one = pair_grows b old mid pair first bound here in
    let two = all_grow b mid new pairs others (subst (λ (n : ℕ). n < 2 ^ (b + 1)) (sym one.count) bound) rest in record {
      count = two.count ∙ one.count;
      weighs = let a = one.weighs in let c = two.weighs in omega (arith, a, c, sum_is);
    }

pub Merges-bound : (b : ℕ) (old new : List (List ℕ)) (pairs : List Pair) (moved : ℕ) → IsGreatestPower (member_count old) b →
    Merges old pairs new moved → moved ≤ member_count old * b
Merges-bound b old new pairs moved power merges =
    let grown = all_grow b old new pairs moved power.1 merges in
    let weighs = grown.weighs in
    let most = weight-bound b new in
    let product : member_count new * b ≡ member_count old * b = ap (λ n. n * b) grown.count in
    omega (arith, weighs, most, product)
