-- Numbers and terms of factors, over whole numbers without bound.
use Rattle.std.proofs.Common.{◌≡◌, ◌≢◌, inl, inr, ℕ, zero, suc, ◌+◌, ◌*◌, ◌<◌, ◌^◌, ltb, Bool, true, false, List, [], ◌∷◌, ◌++◌, ℤ, pos, negsuc, ◌*ℤ◌, neg_ℤ, Result, Ok, Err, arith, sym, ap, ◌∙◌, refl, subst}
use Rattle.std.proofs.lemmas.Bool.{cond-false, ltb-true}
use borrow.Author.Differences.{ints}
use Rattle.grind_lemmas.proofs.Rings.{int_mul-assoc, int_mul-comm}
use Rattle.grind_monomials.specs.declared.order.Place.{Place}
use Rattle.grind_monomials.specs.declared.order.Place.TheVariants.{Above, Same, Below}
use Rattle.grind_monomials.specs.Order.{place}
use Rattle.grind_monomials.specs.Monomials.{IsMonomial, product, quotient}
use Rattle.grind_monomials.proofs.Orders.{place-same, place-turn, place-chain, same-not_above}
use Rattle.grind_monomials.proofs.CountLemmas.{rises-quotient, product-quotient, place-product}
use Rattle.grind_polynomials.specs.declared.poly.Term.{Term}
use Rattle.grind_polynomials.specs.declared.poly.PolyRefusal.{PolyRefusal}
use Rattle.grind_polynomials.specs.declared.poly.PolyRefusal.TheVariants.{Overflow}
use Rattle.grind_polynomials.specs.Polynomials.{term_of, fit_or_refuse}
use Rattle.grind_polynomials.specs.Sums.{in_front, front, behind, with_more}
use Rattle.grind_normal_forms.specs.Reduction.{scaled}
use Rattle.grind_normal_forms.specs.FinalFactors.{EachFits}
use Rattle.grind_polynomials.proofs.Fits.{ok-err, same_Ok, fit_is, fit_in}
use Rattle.grind_polynomials.proofs.Rows.{product-turned}
use Rattle.grind_polynomials.proofs.Putting.{more-nil, more-above, behind-nil}
use Rattle.grind_polynomials.proofs.Falling.{made_of, front-made, behind-made}
use Rattle.grind_polynomials.proofs.Degrees.{refused}
use Rattle.grind_normal_forms.proofs.ReductionLemmas.{scaled-nil, scaled-cons, scaled-made}
use Rattle.grind_normal_forms.proofs.Descent.{place-itself}

-- ---- numbers
abbrev pub IsPositive : ℤ → Type 0
IsPositive u = (n : ℕ) × (u ≡ pos (suc n))

natural_product : (a b : ℕ) → pos a *ℤ pos b ≡ pos (a * b)
natural_product a b = refl

negative_product : (a n : ℕ) → negsuc a *ℤ pos (suc n) ≡ negsuc (a + suc a * n)
negative_product a n = ap (λ (k : ℕ). neg_ℤ (pos k)) (more a n)
  where
    more : (a n : ℕ) → suc a * suc n ≡ suc (a + suc a * n)
    more a n = grind arith

pub positive-product : (a b : ℤ) → IsPositive a → IsPositive b → IsPositive (a *ℤ b)
positive-product a b one two = (
  two.0 + one.0 * suc two.0,
  (λ i. one.1 i *ℤ two.1 i) ∙ natural_product (suc one.0) (suc two.0) ∙ ap pos (more one.0 two.0),
)
  where
    more : (n m : ℕ) → suc n * suc m ≡ suc (m + n * suc m)
    more n m = grind arith

fits-below : (m : ℕ) → fit_or_refuse (pos m) ≡ Ok (pos m) → m < 2 ^ 127
unfolding fit_or_refuse
fits-below m e = at_test (ltb m (2 ^ 127)) refl
  where
    at_test : (b : Bool) → ltb m (2 ^ 127) ≡ b → m < 2 ^ 127
    at_test true is = ltb-true m (2 ^ 127) is
    at_test false is = absurd (ok-err (fit_or_refuse (pos m)) (pos m) Overflow e (cond-false (ltb m (2 ^ 127)) _ _ is))

fits-above : (m : ℕ) → fit_or_refuse (negsuc m) ≡ Ok (negsuc m) → m < 2 ^ 127
unfolding fit_or_refuse
fits-above m e = at_test (ltb m (2 ^ 127)) refl
  where
    at_test : (b : Bool) → ltb m (2 ^ 127) ≡ b → m < 2 ^ 127
    at_test true is = ltb-true m (2 ^ 127) is
    at_test false is = absurd (ok-err (fit_or_refuse (negsuc m)) (negsuc m) Overflow e (cond-false (ltb m (2 ^ 127)) _ _ is))

below-less : (a b m : ℕ) → a + b < m → a < m
below-less a b m h = omega arith

-- where a positive multiple of a number fits, the number does
pub fits-less : (z u : ℤ) → IsPositive u → fit_or_refuse (z *ℤ u) ≡ Ok (z *ℤ u) → fit_or_refuse z ≡ Ok z
fits-less (pos a) u positive e =
    let whole : pos a *ℤ u ≡ pos (a + a * positive.0) =
    ap (λ (k : ℤ). pos a *ℤ k) positive.1 ∙ natural_product a (suc positive.0) ∙ ap pos (more a positive.0) in
    fit_in (pos a) (record { sfits = below-less a (a * positive.0) (2 ^ 127) (fits-below (a + a * positive.0) (subst (λ (k : ℤ). fit_or_refuse k ≡ Ok k) whole e)) })
  where
    more : (n m : ℕ) → n * suc m ≡ n + n * m
    more n m = grind arith
fits-less (negsuc a) u positive e =
    let whole : negsuc a *ℤ u ≡ negsuc (a + suc a * positive.0) =
    ap (λ (k : ℤ). negsuc a *ℤ k) positive.1 ∙ negative_product a positive.0 in
    fit_in (negsuc a) (record { sfits = below-less a (suc a * positive.0) (2 ^ 127) (fits-above (a + suc a * positive.0) (subst (λ (k : ℤ). fit_or_refuse k ≡ Ok k) whole e)) })

fits-again : (z y : ℤ) → fit_or_refuse z ≡ Ok y → fit_or_refuse y ≡ Ok y
fits-again z y e = subst (λ (x : ℤ). fit_or_refuse x ≡ Ok y) (sym (fit_is z y e)) e

swapped : (u k c : ℤ) → (u *ℤ k) *ℤ c ≡ (u *ℤ c) *ℤ k
swapped u k c = int_mul-assoc u k c ∙ ap (λ (z : ℤ). u *ℤ z) (int_mul-comm k c) ∙ sym (int_mul-assoc u c k)

one_times : (c : ℤ) → pos 1 *ℤ c ≡ c
one_times c = omega (arith, ints)

-- ---- terms, each taken so often
abbrev pub times : ℤ → List Term → List Term
times u [] = []
times u (t ∷ ts) = term_of (u *ℤ t.coefficient) t.monomial ∷ times u ts

pub times-one : (ts : List Term) → times (pos 1) ts ≡ ts
times-one [] = refl
times-one (t ∷ ts) = λ i. term_of (one_times t.coefficient i) t.monomial ∷ times-one ts i

pub times-times : (u k : ℤ) (ts : List Term) → times u (times k ts) ≡ times (k *ℤ u) ts
times-times u k [] = refl
times-times u k (t ∷ ts) =
    λ i. term_of ((int_mul-comm u (k *ℤ t.coefficient) ∙ sym (swapped k u t.coefficient)) i) t.monomial ∷ times-times u k ts i

pub times-append : (u : ℤ) (one two : List Term) → times u (one ++ two) ≡ times u one ++ times u two
times-append u [] two = refl
times-append u (t ∷ ts) two = λ i. term_of (u *ℤ t.coefficient) t.monomial ∷ times-append u ts two i

pub scaled-is : (u : ℤ) (ts all : List Term) → scaled u ts ≡ Ok all → all ≡ times u ts
scaled-is u [] all e = same_Ok (scaled u []) all [] e (scaled-nil u)
scaled-is u (t ∷ ts) all e =
    let w = scaled-made u t ts all e in sym w.4 ∙ (λ i. term_of (w.2 i) t.monomial ∷ scaled-is u ts w.1 w.3 i)

pub scaled-fits : (u : ℤ) (ts all : List Term) → scaled u ts ≡ Ok all → EachFits all
scaled-fits u [] all e = subst EachFits (same_Ok (scaled u []) [] all (scaled-nil u) e) tt
scaled-fits u (t ∷ ts) all e =
    let w = made_of (λ c. behind (term_of c t.monomial ∷ []) (scaled u ts)) (fit_or_refuse (u *ℤ t.coefficient)) all (sym (scaled-cons u t ts) ∙ e) in
    let b = behind-made (term_of w.0 t.monomial ∷ []) (scaled u ts) all w.2 in
    subst EachFits b.2 (fits-again (u *ℤ t.coefficient) w.0 w.1, scaled-fits u ts b.0 b.1)

behind-refused : (done : List Term) (rest : Result (List Term) PolyRefusal) (e : PolyRefusal) → behind done rest ≡ Err e → rest ≡ Err e
behind-refused done (Ok all) e h = absurd (ok-err (behind done (Ok all)) (done ++ all) e refl h)
behind-refused done (Err x) e h = h

pub scaled-refused : (k u : ℤ) (ts : List Term) (e : PolyRefusal) → IsPositive u → scaled k ts ≡ Err e → EachFits (times (k *ℤ u) ts) → ⊥
scaled-refused k u [] e positive h fits = ok-err (scaled k []) [] e (scaled-nil k) h
scaled-refused k u (t ∷ ts) e positive h fits =
    elim (refused (λ c. behind (term_of c t.monomial ∷ []) (scaled k ts)) (fit_or_refuse (k *ℤ t.coefficient)) e (sym (scaled-cons k t ts) ∙ h)) [
      | inl over ↦ ok-err (fit_or_refuse (k *ℤ t.coefficient)) (k *ℤ t.coefficient) e
          (fits-less (k *ℤ t.coefficient) u positive (subst (λ (z : ℤ). fit_or_refuse z ≡ Ok z) (swapped k u t.coefficient) fits.0)) over
      | inr later ↦ scaled-refused k u ts e positive (behind-refused (term_of later.0 t.monomial ∷ []) (scaled k ts) e later.2) fits.1
    ]

-- ---- a monomial more, after greater ones
abbrev AllAbove : List ℕ → List Term → Type 0
AllAbove n [] = Unit {0}
AllAbove n (t ∷ ts) = (place t.monomial n ≡ Above) × AllAbove n ts

behind-two : (x : Term) (xs : List Term) (rest : Result (List Term) PolyRefusal) → behind (x ∷ []) (behind xs rest) ≡ behind (x ∷ xs) rest
behind-two x xs (Ok all) = refl
behind-two x xs (Err e) = refl

more-behind : (z : ℤ) (n : List ℕ) (ts : List Term) → AllAbove n ts → with_more z n ts ≡ behind ts (front z n [])
more-behind z n [] above = more-nil z n ∙ sym (behind-nil (front z n []))
more-behind z n (x ∷ xs) above =
    more-above z n x xs above.0 ∙ ap (behind (x ∷ [])) (more-behind z n xs above.1) ∙ behind-two x xs (front z n [])

in_front-some : (c : ℤ) (n : List ℕ) (rest : List Term) → c ≢ pos 0 → in_front c n rest ≡ term_of c n ∷ rest
in_front-some (pos zero) n rest some = absurd (some refl)
in_front-some (pos (suc k)) n rest some = refl
in_front-some (negsuc k) n rest some = refl

pub more-is : (z : ℤ) (n : List ℕ) (ts all : List Term) → z ≢ pos 0 → AllAbove n ts → with_more z n ts ≡ Ok all
    → (all ≡ ts ++ term_of z n ∷ []) × (fit_or_refuse z ≡ Ok z)
more-is z n ts all some above e =
    let b = behind-made ts (front z n []) all (sym (more-behind z n ts above) ∙ e) in
    let f = front-made z n [] b.0 b.1 in
    let same : f.0 ≡ z = fit_is z f.0 f.1 in (
      sym b.2 ∙ ap (λ (l : List Term). ts ++ l) (sym f.2 ∙ ap (λ (c : ℤ). in_front c n []) same ∙ in_front-some z n [] some),
      f.1 ∙ ap (λ (c : ℤ). Ok c) same,
    )

pub more-refused_at : (z : ℤ) (n : List ℕ) (ts : List Term) (e : PolyRefusal) → AllAbove n ts → with_more z n ts ≡ Err e → fit_or_refuse z ≡ Err e
more-refused_at z n ts e above h =
    elim (refused (λ number. Ok (in_front number n [])) (fit_or_refuse z) e (behind-refused ts (front z n []) e (sym (more-behind z n ts above) ∙ h))) [
      | inl over ↦ over
      | inr w ↦ absurd (ok-err (Ok (in_front w.0 n [])) (in_front w.0 n []) e refl w.2)
    ]

-- ---- monomials: each times the leading one stands above m
abbrev pub IsOver : List ℕ → List ℕ → List Term → Type 0
IsOver lead m [] = Unit {0}
IsOver lead m (t ∷ ts) = (IsMonomial t.monomial × (place (product lead t.monomial) m ≡ Above)) × IsOver lead m ts

not-above_itself : (m : List ℕ) → place m m ≡ Above → ⊥
not-above_itself m e = same-not_above (sym (place-itself m) ∙ e)

over-one : (l m x : List ℕ) → IsMonomial l → IsMonomial m → IsMonomial x → quotient l m ≡ [] → place (product l x) m ≡ Above
    → place x (quotient m l) ≡ Above
over-one l m x lead mono own divides above = at_place (place x (quotient m l)) refl
  where
    further : IsMonomial (quotient m l)
    further = rises-quotient m l 0 mono

    whole : product l (quotient m l) ≡ m
    whole = product-quotient l m lead mono divides

    at_place : (p : Place) → place x (quotient m l) ≡ p → place x (quotient m l) ≡ Above
    at_place Above is = is
    at_place Same is = absurd (not-above_itself m
        (ap (λ (n : List ℕ). place n m) (sym (ap (product l) (place-same x (quotient m l) is) ∙ whole)) ∙ above))
    at_place Below is = absurd (not-above_itself m (place-chain m (product l x) m
        ((λ i. place (sym (product-turned (quotient m l) l further lead ∙ whole) i) (product-turned l x lead own i))
        ∙ place-product (quotient m l) x l further own lead (place-turn x (quotient m l) is)) above))

pub over-above : (l m : List ℕ) (ts : List Term) → IsMonomial l → IsMonomial m → quotient l m ≡ [] → IsOver l m ts → AllAbove (quotient m l) ts
over-above l m [] lead mono divides over = tt
over-above l m (t ∷ ts) lead mono divides over =
    (over-one l m t.monomial lead mono over.0.0 divides over.0.1, over-above l m ts lead mono divides over.1)

pub over-chain : (l m n : List ℕ) (ts : List Term) → place m n ≡ Above → IsOver l m ts → IsOver l n ts
over-chain l m n [] lower over = tt
over-chain l m n (t ∷ ts) lower over =
    ((over.0.0, place-chain (product l t.monomial) m n over.0.1 lower), over-chain l m n ts lower over.1)

pub over-times : (l m : List ℕ) (u : ℤ) (ts : List Term) → IsOver l m ts → IsOver l m (times u ts)
over-times l m u [] over = tt
over-times l m u (t ∷ ts) over = (over.0, over-times l m u ts over.1)

pub over-append : (l m : List ℕ) (one two : List Term) → IsOver l m one → IsOver l m two → IsOver l m (one ++ two)
over-append l m [] two first second = second
over-append l m (t ∷ ts) two first second = (first.0, over-append l m ts two first.1 second)

-- ---- what fits
pub fits-append : (one two : List Term) → EachFits one → EachFits two → EachFits (one ++ two)
fits-append [] two first second = second
fits-append (t ∷ ts) two first second = (first.0, fits-append ts two first.1 second)

pub fits-left : (one two : List Term) → EachFits (one ++ two) → EachFits one
fits-left [] two fits = tt
fits-left (t ∷ ts) two fits = (fits.0, fits-left ts two fits.1)

pub fits-right : (one two : List Term) → EachFits (one ++ two) → EachFits two
fits-right [] two fits = fits
fits-right (t ∷ ts) two fits = fits-right ts two fits.1
