-- After a step, only lesser monomials are left to reduce.
use Rattle.std.proofs.Common.{◌≡◌, ◌≢◌, ◌⊎◌, inl, inr, ℕ, zero, suc, ◌<◌, Bool, true, false, List, [], ◌∷◌, ℤ, pos, negsuc, ◌+ℤ◌, ◌*ℤ◌, neg_ℤ, unsigned_abs, Option, Some, None, Ok, arith, sym, ap, ◌∙◌, refl, subst}
use Rattle.std.specs.Int.{IsGcd}
use Rattle.std.proofs.lemmas.Bool.{cond-true, cond-false}
use Rattle.std.proofs.lemmas.Option.{none-some, same_Some}
use borrow.Author.Differences.{ints}
use Rattle.grind_lemmas.proofs.Orders.{int_mul-zero_out}
use Rattle.grind_monomials.specs.declared.order.Place.{Place}
use Rattle.grind_monomials.specs.declared.order.Place.TheVariants.{Above, Same, Below}
use Rattle.grind_monomials.specs.Order.{place}
use Rattle.grind_monomials.specs.Monomials.{IsMonomial, product, quotient}
use Rattle.grind_monomials.proofs.Clauses.{place-one}
use Rattle.grind_monomials.proofs.Orders.{nodes-itself}
use Rattle.grind_monomials.proofs.CountLemmas.{rises-quotient, product-quotient, place-product}
use Rattle.grind_polynomials.specs.declared.poly.Term.{Term}
use Rattle.grind_polynomials.specs.Polynomials.{StartsBelow, IsPoly, fit_or_refuse}
use Rattle.grind_polynomials.specs.Sums.{signed, in_front, front, with_more, with_multiple, with_multiples}
use Rattle.grind_normal_forms.specs.Pairs.{lead_coefficient, lead_monomial}
use Rattle.grind_normal_forms.specs.declared.reduction.Reduced.{Reduced}
use Rattle.grind_normal_forms.specs.Reduction.{factor_after, is_one, reducer, Target, target_of, target, IsTargetGcd, unit, weight, scaled, rest_after, StepsBy}
use Rattle.grind_normal_forms.specs.Ranks.{IsLow, AreLow, BasisIsLow, rank, rank_of_target, left_to_do, Descends}
use Rattle.grind_polynomials.proofs.Fits.{fit_is, same_Ok}
use Rattle.grind_polynomials.proofs.Putting.{more-nil, more-above, more-same, more-below}
use Rattle.grind_polynomials.proofs.Products.{multiples-nil, multiples-cons}
use Rattle.grind_polynomials.proofs.Falling.{made_of, front-made, behind-made, multiple-made, starts-chain}
use Rattle.grind_polynomials.proofs.Rows.{product-turned}
use Rattle.grind_normal_forms.proofs.Divisors.{weight-times_lead}
use Rattle.grind_normal_forms.proofs.ReductionLemmas.{unit-nonzero, one-empty, reducer-none, reducer-cons, target-here, target-later, target-none, scaled-nil, scaled-made, rest-made}
use Rattle.grind_normal_forms.proofs.RankLemmas.{low-product, low-quotient, rank-falls}

-- ---- monomials
pub place-itself : (m : List ℕ) → place m m ≡ Same
place-itself m = place-one m m (omega arith) (omega arith) ∙ nodes-itself m

-- ---- what of a list is still reduced
module _ (basis : List (List Term)) (m : List ℕ) where
  -- each monomial is below m, or nothing reduces it
  IsCalm : Term → Type 0
  IsCalm t = (place m t.monomial ≡ Above) ⊎ (reducer basis t.monomial ≡ None)

  AreCalm : List Term → Type 0
  AreCalm [] = Unit {0}
  AreCalm (t ∷ ts) = IsCalm t × AreCalm ts

  -- the monomial m stands there with this coefficient, and all others are calm
  Has : ℤ → List Term → Type 0
  Has k [] = ⊥
  Has k (t ∷ ts) = ((t.monomial ≡ m) × (t.coefficient ≡ k) × AreCalm ts)
      ⊎ ((place t.monomial m ≡ Above) × (reducer basis t.monomial ≡ None) × Has k ts)

  -- each product of further terms with this monomial is below m
  AreBelow : List ℕ → List Term → Type 0
  AreBelow further [] = Unit {0}
  AreBelow further (t ∷ ts) = (place m (product further t.monomial) ≡ Above) × AreBelow further ts

  calm-in_front : (c : ℤ) (n : List ℕ) (rest : List Term) → place m n ≡ Above → AreCalm rest → AreCalm (in_front c n rest)
  unfolding IsCalm AreCalm
  calm-in_front (pos zero) n rest below calm = calm
  calm-in_front (pos (suc k)) n rest below calm = (inl below, calm)
  calm-in_front (negsuc k) n rest below calm = (inl below, calm)

  calm-front : (z : ℤ) (n : List ℕ) (rest all : List Term) → place m n ≡ Above → AreCalm rest → front z n rest ≡ Ok all → AreCalm all
  calm-front z n rest all below calm e =
      let w = front-made z n rest all e in subst AreCalm w.2 (calm-in_front w.0 n rest below calm)

  calm-more : (z : ℤ) (n : List ℕ) (terms all : List Term) → place m n ≡ Above → AreCalm terms → with_more z n terms ≡ Ok all → AreCalm all
  unfolding AreCalm
  calm-more z n [] all below calm e = calm-front z n [] all below tt (sym (more-nil z n) ∙ e)
  calm-more z n (x ∷ xs) all below calm e =
      at_place (place x.monomial n) refl (λ later is. calm-more z n xs later below calm.1 is)
    where
      at_place : (p : Place) → place x.monomial n ≡ p → ((later : List Term) → with_more z n xs ≡ Ok later → AreCalm later) → AreCalm all
      at_place Above above later =
          let w = behind-made (x ∷ []) (with_more z n xs) all (sym (more-above z n x xs above) ∙ e) in
          subst AreCalm w.2 (calm.0, later w.0 w.1)
      at_place Same same later = calm-front (x.coefficient +ℤ z) n xs all below calm.1 (sym (more-same z n x xs same) ∙ e)
      at_place Below lower later = calm-front z n (x ∷ xs) all below calm (sym (more-below z n x xs lower) ∙ e)

  calm-multiples : (minus : Bool) (c : ℤ) (further : List ℕ) (bs terms all : List Term) → AreBelow further bs → AreCalm terms
      → with_multiples minus c further bs terms ≡ Ok all → AreCalm all
  unfolding AreBelow
  calm-multiples minus c further [] terms all below calm e =
      subst AreCalm (same_Ok (with_multiples minus c further [] terms) terms all (multiples-nil minus c further terms) e) calm
  calm-multiples minus c further (b ∷ bs) terms all below calm e =
      let w = made_of (with_multiples minus c further bs) (with_multiple minus c further b terms) all
      (sym (multiples-cons minus c further b bs terms) ∙ e) in
      let p = multiple-made minus c further b terms w.0 w.1 in
      calm-multiples minus c further bs w.0 all below.1
      (calm-more (signed minus p.0) (product further b.monomial) terms w.0 below.0 calm p.2) w.2

  -- the coefficient of m is taken off
  calm-cancelled : (k z : ℤ) (terms all : List Term) → k +ℤ z ≡ pos 0 → Has k terms → with_more z m terms ≡ Ok all → AreCalm all
  unfolding IsCalm AreCalm Has
  calm-cancelled k z [] all none has e = absurd has
  calm-cancelled k z (x ∷ xs) all none has e = elim has [
    | inl here ↦
        let same : place x.monomial m ≡ Same = ap (λ (n : List ℕ). place n m) here.0 ∙ place-itself m in
        let w = front-made (x.coefficient +ℤ z) m xs all (sym (more-same z m x xs same) ∙ e) in
        let zeroed : w.0 ≡ pos 0 = fit_is (x.coefficient +ℤ z) w.0 w.1 ∙ ap (λ (c : ℤ). c +ℤ z) here.1 ∙ none in
        subst AreCalm (ap (λ (c : ℤ). in_front c m xs) (sym zeroed) ∙ w.2) here.2
    | inr there ↦
        let w = behind-made (x ∷ []) (with_more z m xs) all (sym (more-above z m x xs there.0) ∙ e) in
        subst AreCalm w.2 (inr there.1, calm-cancelled k z xs w.0 none there.2 w.1)
  ]

  -- what is scaled
  calm-scaled : (u : ℤ) (terms all : List Term) → AreCalm terms → scaled u terms ≡ Ok all → AreCalm all
  unfolding IsCalm AreCalm
  calm-scaled u [] all calm e = subst AreCalm (same_Ok (scaled u []) [] all (scaled-nil u) e) tt
  calm-scaled u (t ∷ ts) all calm e =
      let w = scaled-made u t ts all e in subst AreCalm w.4 (calm.0, calm-scaled u ts w.1 calm.1 w.3)

  has-scaled : (u k : ℤ) (terms all : List Term) → Has k terms → scaled u terms ≡ Ok all → Has (u *ℤ k) all
  unfolding Has
  has-scaled u k [] all has e = absurd has
  has-scaled u k (t ∷ ts) all has e =
      let w = scaled-made u t ts all e in
      subst (Has (u *ℤ k)) w.4 (elim has [
        | inl here ↦ inl (here.0, w.2 ∙ ap (λ (c : ℤ). u *ℤ c) here.1, calm-scaled u ts w.1 here.2 w.3)
        | inr there ↦ inr (there.0, there.1, has-scaled u k ts w.1 there.2 w.3)
      ])

  -- what falls from below m is calm
  calm-falls : (terms : List Term) → IsPoly terms → StartsBelow m terms → AreCalm terms
  unfolding IsCalm AreCalm
  calm-falls [] poly starts = tt
  calm-falls (t ∷ ts) poly starts = (inl starts, calm-falls ts poly.3 (starts-chain m t.monomial ts starts poly.2))

  -- where all is calm, the target is below m
  calm-target : (terms : List Term) (found : Target) → AreCalm terms → target basis terms ≡ Some found → place m found.term.monomial ≡ Above
  unfolding IsCalm AreCalm
  calm-target [] found calm e = absurd (none-some found (sym (target-none basis [] refl) ∙ e))
  calm-target (t ∷ ts) found calm e = at_reducer (reducer basis t.monomial) refl (λ later. calm-target ts found calm.1 later)
    where
      at_reducer : (r : Option (List Term)) → reducer basis t.monomial ≡ r
          → (target basis ts ≡ Some found → place m found.term.monomial ≡ Above) → place m found.term.monomial ≡ Above
      at_reducer None none later = later (sym (target-later basis t ts (t ∷ ts) refl none) ∙ e)
      at_reducer (Some b) some later = elim calm.0 [
        | inl below ↦
            let is : target_of t b ≡ found = same_Some (target_of t b) found (sym (target-here basis t ts (t ∷ ts) b refl some) ∙ e) in
            ap (λ (f : Target). place m f.term.monomial) (sym is) ∙ below
        | inr none ↦ absurd (none-some b (sym none ∙ some))
      ]

has_here : (basis : List (List Term)) (t : Term) (ts : List Term) → AreCalm basis t.monomial ts
    → Has basis t.monomial t.coefficient (t ∷ ts)
unfolding Has
has_here basis t ts calm = inl (refl, refl, calm)

has_later : (basis : List (List Term)) (m : List ℕ) (k : ℤ) (t : Term) (ts : List Term) → place t.monomial m ≡ Above
    → reducer basis t.monomial ≡ None → Has basis m k ts → Has basis m k (t ∷ ts)
unfolding Has
has_later basis m k t ts above none has = inr (above, none, has)

-- ---- the target
-- what reduces a monomial divides it
reducer-divides : (basis : List (List Term)) (m : List ℕ) (e : List Term) → reducer basis m ≡ Some e → quotient (lead_monomial e) m ≡ []
reducer-divides [] m e is = absurd (none-some e (sym (reducer-none [] m refl) ∙ is))
reducer-divides (b ∷ bs) m e is = at_test (is_one (quotient (lead_monomial b) m)) refl (λ later. reducer-divides bs m e later)
  where
    at_test : (t : Bool) → is_one (quotient (lead_monomial b) m) ≡ t → (reducer bs m ≡ Some e → quotient (lead_monomial e) m ≡ [])
        → quotient (lead_monomial e) m ≡ []
    at_test true yes_here later =
        ap (λ (x : List Term). quotient (lead_monomial x) m)
        (sym (same_Some b e (sym (reducer-cons b bs m ∙ cond-true (is_one (quotient (lead_monomial b) m)) _ _ yes_here) ∙ is)))
        ∙ one-empty (quotient (lead_monomial b) m) yes_here
    at_test false not_here later =
        later (sym (reducer-cons b bs m ∙ cond-false (is_one (quotient (lead_monomial b) m)) _ _ not_here) ∙ is)

-- what is found in terms that all stand below m is below m
found-below : (basis : List (List Term)) (m : List ℕ) (terms : List Term) (found : Target) → IsPoly terms → StartsBelow m terms
    → target basis terms ≡ Some found → place m found.term.monomial ≡ Above
found-below basis m terms found poly starts e = calm-target basis m terms found (calm-falls basis m terms poly starts) e

record IsFound (basis : List (List Term)) (terms : List Term) (found : Target) : Type 0 where
  has : Has basis found.term.monomial found.term.coefficient terms
  mono : IsMonomial found.term.monomial
  by : reducer basis found.term.monomial ≡ Some found.element

is-found : (basis : List (List Term)) (terms : List Term) (found : Target) → IsPoly terms → target basis terms ≡ Some found
    → IsFound basis terms found
is-found basis [] found poly e = absurd (none-some found (sym (target-none basis [] refl) ∙ e))
is-found basis (t ∷ ts) found poly e =
    at_reducer basis t ts found poly e (reducer basis t.monomial) refl (λ later. is-found basis ts found poly.3 later)
  where
    at_reducer : (basis : List (List Term)) (t : Term) (ts : List Term) (found : Target) → IsPoly (t ∷ ts)
        → target basis (t ∷ ts) ≡ Some found → (r : Option (List Term)) → reducer basis t.monomial ≡ r
        → (target basis ts ≡ Some found → IsFound basis ts found) → IsFound basis (t ∷ ts) found
    at_reducer basis t ts found poly e None none later =
        let rest = sym (target-later basis t ts (t ∷ ts) refl none) ∙ e in
        let there = later rest in record {
          has = has_later basis found.term.monomial found.term.coefficient t ts
              (found-below basis t.monomial ts found poly.3 poly.2 rest) none there.has;
          mono = there.mono;
          by = there.by;
        }
    at_reducer basis t ts found poly e (Some b) some later =
        subst (IsFound basis (t ∷ ts)) (same_Some (target_of t b) found (sym (target-here basis t ts (t ∷ ts) b refl some) ∙ e))
        (record {
          has = has_here basis t ts (calm-falls basis t.monomial ts poly.3 poly.2);
          mono = poly.0;
          by = some;
        })

-- ---- the step
-- the products with the terms after the leading one are below m
below-falls : (basis : List (List Term)) (m further lead : List ℕ) (bs : List Term) → IsMonomial further → IsMonomial lead
    → product further lead ≡ m → IsPoly bs → StartsBelow lead bs → AreBelow basis m further bs
unfolding AreBelow
below-falls basis m further lead [] one two is poly starts = tt
below-falls basis m further lead (b ∷ bs) one two is poly starts = (
  ap (λ (n : List ℕ). place n (product further b.monomial)) (sym is ∙ product-turned further lead one two)
      ∙ ap (place (product lead further)) (product-turned further b.monomial one poly.0)
      ∙ place-product lead b.monomial further two poly.0 one starts,
  below-falls basis m further lead bs one two is poly.3 (starts-chain lead b.monomial bs starts poly.2),
)

vanish : (a b : ℤ) → b ≡ a → a +ℤ neg_ℤ b ≡ pos 0
vanish a b e = omega (arith, ints)

module _ (basis : List (List Term)) (found : Target) (h : ℕ) (rest next : List Term) (gcd : IsTargetGcd found h)
    (found_is : target basis rest ≡ Some found) (poly : IsPoly rest) (element : IsPoly found.element) (some : found.element ≢ [])
    (rest_is : rest_after found h rest ≡ Ok next) where
  calm-after : AreCalm basis found.term.monomial next
  calm-after =
      let there = is-found basis rest found poly found_is in
      let w = rest-made found h rest next rest_is in
      by_element found.element element some (reducer-divides basis found.term.monomial found.element there.by) gcd w.0 w.1 w.3 w.4 w.2
      (has-scaled basis found.term.monomial w.0 found.term.coefficient rest w.2 there.has w.5) there.mono w.6
    where
      by_element : (e : List Term) → IsPoly e → e ≢ [] → quotient (lead_monomial e) found.term.monomial ≡ []
          → IsGcd (unsigned_abs (lead_coefficient e)) (unsigned_abs found.term.coefficient) h
          → (u w : ℤ) → u ≡ unit (target_of found.term e) h → w ≡ weight (target_of found.term e) h
          → (start : List Term) → Has basis found.term.monomial (u *ℤ found.term.coefficient) start → IsMonomial found.term.monomial
          → with_multiples true w (quotient found.term.monomial (lead_monomial e)) e start ≡ Ok next
          → AreCalm basis found.term.monomial next
      by_element [] poly some divides gcd u w u_is w_is start has mono made = absurd (some refl)
      by_element (x ∷ xs) poly some divides gcd u w u_is w_is start has mono made =
          let further = quotient found.term.monomial x.monomial in
          let further_mono = rises-quotient found.term.monomial x.monomial 0 mono in
          let whole : product further x.monomial ≡ found.term.monomial =
          product-turned further x.monomial further_mono poly.0 ∙ product-quotient x.monomial found.term.monomial poly.0 mono divides in
          let first = made_of (with_multiples true w further xs) (with_multiple true w further x start) next
          (sym (multiples-cons true w further x xs start) ∙ made) in
          let product_is = multiple-made true w further x start first.0 first.1 in
          let number : product_is.0 ≡ u *ℤ found.term.coefficient =
          fit_is (w *ℤ x.coefficient) product_is.0 product_is.1 ∙ ap (λ (z : ℤ). z *ℤ x.coefficient) w_is
          ∙ weight-times_lead x.coefficient found.term.coefficient h gcd.0 gcd.1
          ∙ ap (λ (z : ℤ). z *ℤ found.term.coefficient) (sym u_is) in
          let cancelled = calm-cancelled basis found.term.monomial (u *ℤ found.term.coefficient) (neg_ℤ product_is.0) start first.0
          (vanish (u *ℤ found.term.coefficient) product_is.0 number) has
          (ap (λ (n : List ℕ). with_more (neg_ℤ product_is.0) n start) (sym whole) ∙ product_is.2) in
          calm-multiples basis found.term.monomial true w further xs first.0 next
          (below-falls basis found.term.monomial further x.monomial xs further_mono poly.0 whole poly.3 poly.2) cancelled first.2

-- ---- nodes below a number
module _ (n : ℕ) where
  low-in_front : (c : ℤ) (m : List ℕ) (rest : List Term) → IsLow n m → AreLow n rest → AreLow n (in_front c m rest)
  low-in_front (pos zero) m rest one low = low
  low-in_front (pos (suc k)) m rest one low = (one, low)
  low-in_front (negsuc k) m rest one low = (one, low)

  low-front : (z : ℤ) (m : List ℕ) (rest all : List Term) → IsLow n m → AreLow n rest → front z m rest ≡ Ok all → AreLow n all
  low-front z m rest all one low e =
      let w = front-made z m rest all e in subst (AreLow n) w.2 (low-in_front w.0 m rest one low)

  low-more : (z : ℤ) (m : List ℕ) (terms all : List Term) → IsLow n m → AreLow n terms → with_more z m terms ≡ Ok all → AreLow n all
  low-more z m [] all one low e = low-front z m [] all one tt (sym (more-nil z m) ∙ e)
  low-more z m (x ∷ xs) all one low e =
      at_place (place x.monomial m) refl (λ later is. low-more z m xs later one low.1 is)
    where
      at_place : (p : Place) → place x.monomial m ≡ p → ((later : List Term) → with_more z m xs ≡ Ok later → AreLow n later) → AreLow n all
      at_place Above above later =
          let w = behind-made (x ∷ []) (with_more z m xs) all (sym (more-above z m x xs above) ∙ e) in
          subst (AreLow n) w.2 (low.0, later w.0 w.1)
      at_place Same same later = low-front (x.coefficient +ℤ z) m xs all one low.1 (sym (more-same z m x xs same) ∙ e)
      at_place Below lower later = low-front z m (x ∷ xs) all one low (sym (more-below z m x xs lower) ∙ e)

  low-multiples : (minus : Bool) (c : ℤ) (m : List ℕ) (bs terms all : List Term) → IsLow n m → AreLow n bs → AreLow n terms
      → with_multiples minus c m bs terms ≡ Ok all → AreLow n all
  low-multiples minus c m [] terms all one others low e =
      subst (AreLow n) (same_Ok (with_multiples minus c m [] terms) terms all (multiples-nil minus c m terms) e) low
  low-multiples minus c m (b ∷ bs) terms all one others low e =
      let w = made_of (with_multiples minus c m bs) (with_multiple minus c m b terms) all
      (sym (multiples-cons minus c m b bs terms) ∙ e) in
      let p = multiple-made minus c m b terms w.0 w.1 in
      low-multiples minus c m bs w.0 all one others.1
      (low-more (signed minus p.0) (product m b.monomial) terms w.0 (low-product n m b.monomial one others.0) low p.2) w.2

  low-scaled : (u : ℤ) (terms all : List Term) → AreLow n terms → scaled u terms ≡ Ok all → AreLow n all
  low-scaled u [] all low e = subst (AreLow n) (same_Ok (scaled u []) [] all (scaled-nil u) e) tt
  low-scaled u (t ∷ ts) all low e =
      let w = scaled-made u t ts all e in subst (AreLow n) w.4 (low.0, low-scaled u ts w.1 low.1 w.3)

  low-target : (basis : List (List Term)) (terms : List Term) (found : Target) → AreLow n terms → target basis terms ≡ Some found
      → IsLow n found.term.monomial
  low-target basis [] found low e = absurd (none-some found (sym (target-none basis [] refl) ∙ e))
  low-target basis (t ∷ ts) found low e = at_reducer (reducer basis t.monomial) refl (λ later. low-target basis ts found low.1 later)
    where
      at_reducer : (r : Option (List Term)) → reducer basis t.monomial ≡ r
          → (target basis ts ≡ Some found → IsLow n found.term.monomial) → IsLow n found.term.monomial
      at_reducer None none later = later (sym (target-later basis t ts (t ∷ ts) refl none) ∙ e)
      at_reducer (Some b) some later =
          subst (λ (f : Target). IsLow n f.term.monomial)
          (same_Some (target_of t b) found (sym (target-here basis t ts (t ∷ ts) b refl some) ∙ e)) low.0

  low-reducer : (basis : List (List Term)) (m : List ℕ) (e : List Term) → BasisIsLow n basis → reducer basis m ≡ Some e → AreLow n e
  low-reducer [] m e low is = absurd (none-some e (sym (reducer-none [] m refl) ∙ is))
  low-reducer (b ∷ bs) m e low is = at_test (is_one (quotient (lead_monomial b) m)) refl (λ later. low-reducer bs m e low.1 later)
    where
      at_test : (t : Bool) → is_one (quotient (lead_monomial b) m) ≡ t → (reducer bs m ≡ Some e → AreLow n e) → AreLow n e
      at_test true yes_here later =
          subst (AreLow n) (same_Some b e (sym (reducer-cons b bs m ∙ cond-true (is_one (quotient (lead_monomial b) m)) _ _ yes_here) ∙ is)) low.0
      at_test false not_here later =
          later (sym (reducer-cons b bs m ∙ cond-false (is_one (quotient (lead_monomial b) m)) _ _ not_here) ∙ is)

lead-low : (n : ℕ) (e : List Term) → AreLow n e → IsLow n (lead_monomial e)
lead-low n [] low = tt
lead-low n (t ∷ ts) low = low.0

-- ---- the descent
pub descends : (basis : List (List Term)) (found : Target) (now next : Reduced) → target basis now.rest ≡ Some found
    → IsPoly now.rest → IsPoly found.element → found.element ≢ [] → StepsBy found now next → Descends basis now.rest next.rest
descends basis found now next found_is poly element some by = record {
  low = lowered;
  less = λ n basis_low low. at_target n basis_low low (target basis next.rest) refl;
}
  where
    lowered : (n : ℕ) → BasisIsLow n basis → AreLow n now.rest → AreLow n next.rest
    lowered n basis_low low =
        let w = rest-made found by.divisor now.rest next.rest by.rest_is in
        let mono = low-target n basis now.rest found low found_is in
        low-multiples n true w.1 (quotient found.term.monomial (lead_monomial found.element)) found.element w.2 next.rest
        (low-quotient n found.term.monomial (lead_monomial found.element) mono)
        (low-reducer n basis found.term.monomial found.element basis_low (is-found basis now.rest found poly found_is).by)
        (low-scaled n w.0 now.rest w.2 low w.5) w.6

    at_target : (n : ℕ) → BasisIsLow n basis → AreLow n now.rest → (t : Option Target) → target basis next.rest ≡ t
        → left_to_do n basis next.rest < left_to_do n basis now.rest
    at_target n basis_low low t is =
        let here : left_to_do n basis now.rest ≡ suc (rank n found.term.monomial) = ap (rank_of_target n) found_is in
        let there : left_to_do n basis next.rest ≡ rank_of_target n t = ap (rank_of_target n) is in
        let below = by_case n basis_low low t is in omega arith
      where
        by_case : (n : ℕ) → BasisIsLow n basis → AreLow n now.rest → (t : Option Target) → target basis next.rest ≡ t
            → rank_of_target n t < suc (rank n found.term.monomial)
        by_case n basis_low low None is = omega arith
        by_case n basis_low low (Some f) is =
            let falls = rank-falls n found.term.monomial f.term.monomial (low-target n basis now.rest found low found_is)
            (low-target n basis next.rest f (lowered n basis_low low) is)
            (calm-target basis found.term.monomial next.rest f
            (calm-after basis found by.divisor now.rest next.rest by.divisor_is found_is poly element some by.rest_is) is) in omega arith

pub factor-nonzero : (found : Target) (now next : Reduced) → IsPoly found.element → found.element ≢ [] → StepsBy found now next
    → now.factor ≢ pos 0 → next.factor ≢ pos 0
unfolding factor_after
factor-nonzero found now next element some by before none =
    let w = made_of (λ u. fit_or_refuse (u *ℤ now.factor)) (fit_or_refuse (unit found by.divisor)) next.factor by.factor_is in
    let unit_is = fit_is (unit found by.divisor) w.0 w.1 in
    let product_is = fit_is (w.0 *ℤ now.factor) next.factor w.2 in
    before (int_mul-zero_out w.0 now.factor (sym product_is ∙ none)
    (λ e. unit-nonzero found by.divisor by.divisor_is element some (sym unit_is ∙ e)))

-- ---- what a step tells
pub found-mono : (basis : List (List Term)) (terms : List Term) (found : Target) → IsPoly terms → target basis terms ≡ Some found
    → IsMonomial found.term.monomial
found-mono basis terms found poly e = (is-found basis terms found poly e).mono

pub reducer-found : (basis : List (List Term)) (terms : List Term) (found : Target) → IsPoly terms → target basis terms ≡ Some found
    → reducer basis found.term.monomial ≡ Some found.element
reducer-found basis terms found poly e = (is-found basis terms found poly e).by

pub next-lower : (basis : List (List Term)) (found other : Target) (h : ℕ) (rest next : List Term) → IsTargetGcd found h
    → target basis rest ≡ Some found → IsPoly rest → IsPoly found.element → found.element ≢ [] → rest_after found h rest ≡ Ok next
    → target basis next ≡ Some other → place found.term.monomial other.term.monomial ≡ Above
next-lower basis found other h rest next gcd found_is poly element some rest_is e =
    calm-target basis found.term.monomial next other (calm-after basis found h rest next gcd found_is poly element some rest_is) e
