-- Lines rest on what they may, in rising order; and zeros stay.
use Rattle.std.proofs.Common.{◌≡◌, ◌≢◌, inl, inr, ℕ, suc, ◌<◌, Bool, true, false, List, [], ◌∷◌, length, slice_get, Some, Ok, All, ℤ, pos, arith, sym, ap, refl, subst}
use Rattle.std.proofs.lemmas.Bool.{cond-true, cond-false}
use Rattle.std.proofs.lemmas.Cmp.{ranked}
use Rattle.std.proofs.lemmas.List.Elements.{All-head, All-tail}
use Rattle.std.specs.BTreeMap.{insert_entry}
use Rattle.std.specs.Ordering.{nat_cmp, match_ordering}
use Rattle.std.specs.declared.cmp.Ordering.{Ordering}
use Rattle.std.specs.declared.cmp.Ordering.TheVariants.{Less, Equal, Greater}
use Rattle.grind_polynomials.specs.declared.poly.Term.{Term}
use Rattle.grind_normal_forms.specs.declared.reduction.Reduced.{Reduced}
use Rattle.grind_polynomials.specs.Polynomials.{IsPoly}
use Rattle.grind_normal_forms.specs.Gathering.{has_terms}
use Rattle.grind_polynomials.specs.Readings.{number_poly}
use Rattle.grind_normal_forms.specs.Reduction.{reduced_of, terms_by}
use Rattle.grind_normal_forms.specs.FinalFactors.{ArePolys}
use Rattle.grind_claims.specs.declared.claim.Claim.TheVariants.{Zero}
use Rattle.grind_arithmetic_rules.specs.PolyRules.{IsIdeal}
use Rattle.grind_ring_basis.specs.declared.types.Share.{Share}
use Rattle.grind_ring_basis.specs.declared.types.Combination.{Combination}
use Rattle.grind_ring_basis.specs.Bases.{fact, IsElement}
use Rattle.grind_ring_basis.specs.Shares.{share, shares_of, with_share, with_shares, in_order, posts_in, claims_in, IsLineOver}
use Rattle.grind_ring_basis.specs.Lines.{fact_shares}
use Rattle.grind_ring_basis.specs.Laws.{RisesAbove, IsRising, ArePremises, IsTypedLine, IsFactOrElement, PostLinesAreTyped, PairLinesAreTyped, DifferenceLinesAreTyped, ZerosStay}
use Rattle.grind_ring_basis.proofs.StayLemmas.{AreSome, zero-stays}

some-terms : (terms : List Term) → has_terms terms ≡ true → terms ≢ []
some-terms [] e none = absurd cc
some-terms (t ∷ ts) e none = absurd (let size : length (t ∷ ts) ≡ 0 = ap length none in omega arith)

-- ---- one more premise
module _ (may_be : ℕ → List Term → Type 0) where
  insert-keeps : (n : ℕ) (s : Share) (all : List (ℕ × Share)) → may_be n s.poly → s.factor ≢ [] → ArePremises may_be all
      → ArePremises may_be (insert_entry nat_cmp all n s)
  insert-keeps n s [] one some are = (one, some, tt)
  insert-keeps n s (e ∷ es) one some are =
      at_order (nat_cmp n e.0) refl (insert-keeps n s es one some are.2)
    where
      at_order : (r : Ordering) → r ≡ nat_cmp n e.0 → ArePremises may_be (insert_entry nat_cmp es n s)
          → ArePremises may_be (match_ordering r ((n, s) ∷ e ∷ es) ((e.0, s) ∷ es) (e ∷ insert_entry nat_cmp es n s))
      at_order Less is later = (one, some, are)
      at_order Equal is later =
          let same : n ≡ e.0 = ranked n e.0 Equal is in (subst (λ (k : ℕ). may_be k s.poly) same one, some, are.2)
      at_order Greater is later = (are.0, are.1, later)

  with-keeps : (all : List (ℕ × Share)) (one : ℕ × Share) → may_be one.0 one.1.poly → ArePremises may_be all
      → ArePremises may_be (with_share all one)
  with-keeps all one it are = at_test (has_terms one.1.factor) refl
    where
      at_test : (t : Bool) → has_terms one.1.factor ≡ t → ArePremises may_be (with_share all one)
      at_test true has =
          subst (ArePremises may_be) (sym (cond-true (has_terms one.1.factor) (insert_entry nat_cmp all one.0 one.1) all has))
          (insert-keeps one.0 one.1 all it (some-terms one.1.factor has) are)
      at_test false none =
          subst (ArePremises may_be) (sym (cond-false (has_terms one.1.factor) (insert_entry nat_cmp all one.0 one.1) all none)) are

  -- each of the shares is one that may be
  AreGiven : List (ℕ × Share) → Type 0
  AreGiven [] = Unit {0}
  AreGiven (one ∷ rest) = may_be one.0 one.1.poly × AreGiven rest

  shares-keep : (shares all : List (ℕ × Share)) → AreGiven shares → ArePremises may_be all → ArePremises may_be (with_shares all shares)
  unfolding AreGiven
  shares-keep [] all given are = are
  shares-keep (one ∷ rest) all given are = shares-keep rest (with_share all one) given.1 (with-keeps all one given.0 are)

  elements-given : (ns : List ℕ) (bs qs : List (List Term))
      → ((k n : ℕ) (b : List Term) → slice_get ns k ≡ Some n → slice_get bs k ≡ Some b → may_be n b) → AreGiven (shares_of ns bs qs)
  unfolding AreGiven
  elements-given [] bs qs each = tt
  elements-given (n ∷ ns) [] qs each = tt
  elements-given (n ∷ ns) (b ∷ bs) [] each = tt
  elements-given (n ∷ ns) (b ∷ bs) (q ∷ qs) each =
      (each 0 n b refl refl, elements-given ns bs qs (λ k m c one two. each (suc k) m c one two))

  given-first : (one : ℕ × Share) (rest : List (ℕ × Share)) → may_be one.0 one.1.poly → AreGiven rest → AreGiven (one ∷ rest)
  unfolding AreGiven
  given-first one rest it given = (it, given)

-- ---- in rising order
above-insert : (low n : ℕ) (s : Share) (all : List (ℕ × Share)) → low < n → RisesAbove low (posts_in all)
    → RisesAbove low (posts_in (insert_entry nat_cmp all n s))
above-insert low n s [] less above = (less, tt)
above-insert low n s (e ∷ es) less above =
    at_order (nat_cmp n e.0) refl (λ lower. above-insert e.0 n s es lower above.1)
  where
    at_order : (r : Ordering) → r ≡ nat_cmp n e.0 → (e.0 < n → RisesAbove e.0 (posts_in (insert_entry nat_cmp es n s)))
        → RisesAbove low (posts_in (match_ordering r ((n, s) ∷ e ∷ es) ((e.0, s) ∷ es) (e ∷ insert_entry nat_cmp es n s)))
    at_order Less is later = (less, (ranked n e.0 Less is, above.1))
    at_order Equal is later = above
    at_order Greater is later = (above.0, later (ranked n e.0 Greater is))

rising-insert : (n : ℕ) (s : Share) (all : List (ℕ × Share)) → IsRising (posts_in all) → IsRising (posts_in (insert_entry nat_cmp all n s))
rising-insert n s [] rising = tt
rising-insert n s (e ∷ es) rising = at_order (nat_cmp n e.0) refl
  where
    at_order : (r : Ordering) → r ≡ nat_cmp n e.0
        → IsRising (posts_in (match_ordering r ((n, s) ∷ e ∷ es) ((e.0, s) ∷ es) (e ∷ insert_entry nat_cmp es n s)))
    at_order Less is = (ranked n e.0 Less is, rising)
    at_order Equal is = rising
    at_order Greater is = above-insert e.0 n s es (ranked n e.0 Greater is) rising

rising-shares : (shares all : List (ℕ × Share)) → IsRising (posts_in all) → IsRising (posts_in (with_shares all shares))
rising-shares [] all rising = rising
rising-shares (one ∷ rest) all rising = rising-shares rest (with_share all one) (at_test (has_terms one.1.factor) refl)
  where
    at_test : (t : Bool) → has_terms one.1.factor ≡ t → IsRising (posts_in (with_share all one))
    at_test true has =
        subst (λ (x : List (ℕ × Share)). IsRising (posts_in x))
        (sym (cond-true (has_terms one.1.factor) (insert_entry nat_cmp all one.0 one.1) all has)) (rising-insert one.0 one.1 all rising)
    at_test false none =
        subst (λ (x : List (ℕ × Share)). IsRising (posts_in x))
        (sym (cond-false (has_terms one.1.factor) (insert_entry nat_cmp all one.0 one.1) all none)) rising

-- ---- the lines
typed : (may_be : ℕ → List Term → Type 0) (divisor : ℤ) (shares : List (ℕ × Share)) (rest : List Term) (line : Combination)
    → AreGiven may_be shares → IsLineOver divisor (in_order shares) rest line → IsTypedLine may_be rest line
typed may_be divisor shares rest line given over = record {
  premises = in_order shares;
  from_are = ap (λ (l : Combination). l.from) over.line_is;
  factors_are = ap (λ (l : Combination). l.factors) over.line_is;
  given = shares-keep may_be shares [] given tt;
  rising = subst IsRising (sym (ap (λ (l : Combination). l.from) over.line_is)) (rising-shares shares [] tt);
  allowed =
      subst (λ (l : Combination). IsIdeal l.divisor l.factors (claims_in (in_order shares)) (Zero rest)) (sym over.line_is) over.allowed;
}

pub post_typed : PostLinesAreTyped
post_typed basis it rest line is =
    typed (IsFactOrElement basis it) is.factors.divisor (fact_shares basis it is.factors) rest line
    (given-first (IsFactOrElement basis it) (share it.post it.poly (number_poly is.factors.own))
    (shares_of basis.posts basis.elements is.factors.list) (inl (refl, refl))
    (elements-given (IsFactOrElement basis it) basis.posts basis.elements is.factors.list
    (λ k n b one two. inr (k, record { post = one; poly = two })))) is.line_is

pub pair_typed : PairLinesAreTyped
pair_typed basis places pair rest line is =
    typed (λ post poly. IsElement basis (fact post poly)) is.factors.divisor (shares_of basis.posts basis.elements is.all) rest line
    (elements-given (λ post poly. IsElement basis (fact post poly)) basis.posts basis.elements is.all
    (λ k n b one two. (k, record { post = one; poly = two }))) is.line_is

pub difference_typed : DifferenceLinesAreTyped
difference_typed basis poly line is =
    typed (λ post poly. IsElement basis (fact post poly)) is.factors.divisor (shares_of basis.posts basis.elements is.factors.list) poly line
    (elements-given (λ post poly. IsElement basis (fact post poly)) basis.posts basis.elements is.factors.list
    (λ k n b one two. (k, record { post = one; poly = two }))) is.line_is

-- ---- zeros stay
polys_of : (bs : List (List Term)) → All (λ b. IsPoly b × (b ≢ [])) bs → ArePolys bs
polys_of [] all = tt
polys_of (b ∷ bs) all =
    ((All-head (λ b. IsPoly b × (b ≢ [])) b bs all).0, polys_of bs (All-tail (λ b. IsPoly b × (b ≢ [])) b bs all))

some_of : (bs : List (List Term)) → All (λ b. IsPoly b × (b ≢ [])) bs → AreSome bs
unfolding AreSome
some_of [] all = tt
some_of (b ∷ bs) all =
    ((All-head (λ b. IsPoly b × (b ≢ [])) b bs all).1, some_of bs (All-tail (λ b. IsPoly b × (b ≢ [])) b bs all))

no-terms : (h : ℕ) (terms : List Term) → [] ≡ terms_by h terms → terms ≡ []
no-terms h [] e = refl
no-terms h (t ∷ ts) e = absurd (let size : 0 ≡ suc (length (terms_by h ts)) = ap length e in omega arith)

pub zeros_stay : ZerosStay
zeros_stay basis posts elements poly all is_poly old = record {
  made = old.made;
  content = old.content;
  made_is =
      zero-stays basis.elements (polys_of basis.elements all) (some_of basis.elements all) elements (reduced_of (pos 1) poly) (Ok old.made)
      old.made old.made_is refl (no-terms old.content old.made.rest (ap (λ (r : Reduced). r.rest) old.normal_is)) is_poly;
  content_is = old.content_is;
  content_positive = old.content_positive;
  normal_is = old.normal_is;
}
