-- The greatest number that divides a factor and each coefficient.
use Rattle.std.proofs.Common.{◌≡◌, ◌≢◌, ◌↔◌, ℕ, suc, ◌/◌, List, [], ◌∷◌, ◌++◌, length, ℤ, pos, negsuc, neg_ℤ, unsigned_abs, arith, sym, ap, ◌∙◌, subst}
use Rattle.std.specs.Int.{IsGcd, ◌∣◌}
use Rattle.std.proofs.lemmas.List.{append_assoc, append-nil}
use Rattle.std.proofs.lemmas.Nat.Gcd.{dvd_trans, dvd_refl, dvd-zero, dvd_antisymm}
use borrow.Author.Differences.{ints}
use Rattle.grind_polynomials.specs.declared.poly.Term.{Term}
use Rattle.grind_normal_forms.specs.declared.reduction.Reduced.{Reduced}
use Rattle.grind_polynomials.specs.Polynomials.{term_of, StartsBelow, IsPoly}
use Rattle.grind_normal_forms.specs.Pairs.{divided_by}
use Rattle.grind_normal_forms.specs.Reduction.{DividesEach, IsContent, terms_by}
use Rattle.grind_normal_forms.proofs.Divisors.{quotient-nonzero, size-nonzero}

-- ---- the loop
pub content_begin : (f g : ℕ) (terms rest : List Term) → rest ≡ terms → IsGcd f 0 g → (d : ℕ)
    → ((d ∣ g) × DividesEach d rest) ↔ ((d ∣ f) × DividesEach d terms)
content_begin f g terms rest is gcd d = (
  λ h. (dvd_trans d h.0 gcd.0, subst (DividesEach d) is h.1),
  λ h. (gcd.2 d h.0 (dvd-zero d), subst (DividesEach d) (sym is) h.1),
)

pub content_step : (f all size new : ℕ) (terms rest : List Term) (t : Term) (ts : List Term) → rest ≡ t ∷ ts
    → size ≡ unsigned_abs t.coefficient → IsGcd all size new
    → (d : ℕ) → ((d ∣ all) × DividesEach d rest) ↔ ((d ∣ f) × DividesEach d terms)
    → ((d ∣ new) × DividesEach d ts) ↔ ((d ∣ f) × DividesEach d terms)
content_step f all size new terms rest t ts is size_is gcd d so_far = (
  λ h. so_far.0 (
    dvd_trans d h.0 gcd.0,
    subst (DividesEach d) (sym is) (subst (λ (n : ℕ). d ∣ n) size_is (dvd_trans d h.0 gcd.1), h.1),
  ),
  λ h. let back = so_far.1 h in
      let each = subst (DividesEach d) is back.1 in
      (gcd.2 d back.0 (subst (λ (n : ℕ). d ∣ n) (sym size_is) each.0), each.1),
)

pub content_end : (made : Reduced) (all : ℕ) (rest : List Term) → length rest ≡ 0
    → ((d : ℕ) → ((d ∣ all) × DividesEach d rest) ↔ ((d ∣ unsigned_abs made.factor) × DividesEach d made.rest)) → IsContent made all
content_end made all [] e so_far = record {
  factor = ((so_far all).0 (dvd_refl all, tt)).0;
  rest = ((so_far all).0 (dvd_refl all, tt)).1;
  greatest = λ d one two. ((so_far d).1 (one, two)).0;
}
content_end made all (t ∷ ts) e so_far = absurd (omega arith)

-- there is one greatest number
pub same-content : (made : Reduced) (g h : ℕ) → IsContent made g → IsContent made h → g ≡ h
same-content made g h one two = dvd_antisymm (two.greatest g one.factor one.rest) (one.greatest h two.factor two.rest)

-- ---- division
pub divided-nonzero : (h : ℕ) (z : ℤ) → h ∣ unsigned_abs z → z ≢ pos 0 → divided_by h z ≢ pos 0
divided-nonzero h (pos n) divides some e =
    quotient-nonzero n h divides (size-nonzero (pos n) some) (natural (n / h) e)
  where
    natural : (n : ℕ) → pos n ≡ pos 0 → n ≡ 0
    natural n e = omega (arith, ints)
divided-nonzero h (negsuc n) divides some e =
    quotient-nonzero (suc n) h divides (size-nonzero (negsuc n) some) (natural (suc n / h) e)
  where
    natural : (n : ℕ) → neg_ℤ (pos n) ≡ pos 0 → n ≡ 0
    natural n e = omega (arith, ints)

starts-by : (h : ℕ) (top : List ℕ) (terms : List Term) → StartsBelow top terms → StartsBelow top (terms_by h terms)
starts-by h top [] starts = tt
starts-by h top (t ∷ ts) starts = starts

pub poly-by : (h : ℕ) (terms : List Term) → DividesEach h terms → IsPoly terms → IsPoly (terms_by h terms)
poly-by h [] divides poly = tt
poly-by h (t ∷ ts) divides poly =
    (poly.0, divided-nonzero h t.coefficient divides.0 poly.1, starts-by h t.monomial ts poly.2, poly-by h ts divides.1 poly.3)

pub by_step : (h : ℕ) (all new whole rest : List Term) (t made : Term) (ts : List Term) → rest ≡ t ∷ ts
    → made ≡ term_of (divided_by h t.coefficient) t.monomial → new ≡ all ++ made ∷ []
    → all ++ terms_by h rest ≡ whole → new ++ terms_by h ts ≡ whole
by_step h all new whole rest t made ts is made_is new_is so_far =
    ap (λ (terms : List Term). terms ++ terms_by h ts) (new_is ∙ ap (λ (x : Term). all ++ x ∷ []) made_is)
    ∙ append_assoc all (term_of (divided_by h t.coefficient) t.monomial ∷ []) (terms_by h ts)
    ∙ ap (λ (terms : List Term). all ++ terms_by h terms) (sym is) ∙ so_far

pub by_end : (h : ℕ) (all whole rest : List Term) → length rest ≡ 0 → all ++ terms_by h rest ≡ whole → all ≡ whole
by_end h all whole [] e so_far = sym (append-nil all) ∙ so_far
by_end h all whole (t ∷ ts) e so_far = absurd (omega arith)
