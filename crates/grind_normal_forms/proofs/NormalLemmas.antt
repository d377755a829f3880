-- What a reduction means, and that it has one answer.
use Rattle.std.proofs.Common.{◌≡◌, ◌≢◌, inl, inr, ℕ, suc, ◌<◌, ◌*◌, ◌/◌, Bool, true, false, List, [], ◌∷◌, length, ℤ, pos, ◌+ℤ◌, ◌*ℤ◌, neg_ℤ, unsigned_abs, Option, Some, None, Result, Ok, Err, arith, sym, ap, ◌∙◌, refl, subst}
use Rattle.std.specs.Int.{IsGcd, ◌∣◌}
use Rattle.std.proofs.lemmas.Bool.{cond-true, cond-false}
use Rattle.std.proofs.lemmas.Option.{none-some, same_Some}
use Rattle.std.proofs.lemmas.Nat.Gcd.{dvd_refl, dvd_antisymm, same_from_IsGcd}
use Rattle.std.proofs.Math.Nat.{div-mul_cancel, mul-div_cancel_left}
use lib.IntN.{*ℤ-zero}
use borrow.Author.Differences.{ints}
use Rattle.grind_lemmas.proofs.Rings.{linear, int_mul-assoc, int_mul-add}
use Rattle.grind_lemmas.proofs.Orders.{int_mul-cancel}
use Rattle.grind_monomials.specs.Monomials.{quotient}
use Rattle.grind_monomials.specs.Counts.{monomial_value}
use Rattle.grind_polynomials.specs.declared.poly.Term.{Term}
use Rattle.grind_polynomials.specs.declared.poly.PolyRefusal.{PolyRefusal}
use Rattle.grind_polynomials.specs.declared.poly.PolyRefusal.TheVariants.{Overflow}
use Rattle.grind_normal_forms.specs.declared.reduction.Reduced.{Reduced}
use Rattle.grind_polynomials.specs.Polynomials.{fit_or_refuse}
use Rattle.grind_polynomials.specs.Sums.{signed}
use Rattle.grind_polynomials.specs.Values.{poly_value, Vanishes}
use Rattle.grind_normal_forms.specs.Pairs.{divided_by, lead_coefficient, lead_monomial}
use Rattle.grind_normal_forms.specs.Reduction.{is_one, is_negative, reduced_of, reducer, Target, target_of, target, unit, scaled, rest_after, factor_after, Steps, Breaks, Reduces, irreducible, step, overflow, DividesEach, IsContent, terms_by, reduced_by, IsNormal}
use Rattle.grind_polynomials.proofs.Fits.{ok-err, same_Ok, fit_is}
use Rattle.grind_normal_forms.proofs.ContentLemmas.{same-content}
use Rattle.grind_polynomials.proofs.Falling.{made_of}
use Rattle.grind_polynomials.proofs.SumValues.{value-multiples}
use Rattle.grind_normal_forms.proofs.Divisors.{by_sign, divided-by_sign, mul-signed}
use Rattle.grind_normal_forms.proofs.ReductionLemmas.{reducer-none, reducer-cons, target-none, target-here, target-later, scaled-nil, scaled-made, rest-made}

pub factor-made : (found : Target) (h : ℕ) (factor next : ℤ) → factor_after found h factor ≡ Ok next → next ≡ unit found h *ℤ factor
unfolding factor_after
factor-made found h factor next e =
    let w = made_of (λ u. fit_or_refuse (u *ℤ factor)) (fit_or_refuse (unit found h)) next e in
    fit_is (w.0 *ℤ factor) next w.2 ∙ ap (λ (u : ℤ). u *ℤ factor) (fit_is (unit found h) w.0 w.1)

-- ---- values
module _ (v : ℕ → ℤ) where
  vanishes-reducer : (basis : List (List Term)) (m : List ℕ) (e : List Term) → Vanishes v basis → reducer basis m ≡ Some e
      → poly_value v e ≡ pos 0
  vanishes-reducer [] m e zero_all is = absurd (none-some e (sym (reducer-none [] m refl) ∙ is))
  vanishes-reducer (b ∷ bs) m e zero_all is =
      at_test (is_one (quotient (lead_monomial b) m)) refl (λ later. vanishes-reducer bs m e zero_all.1 later)
    where
      at_test : (t : Bool) → is_one (quotient (lead_monomial b) m) ≡ t → (reducer bs m ≡ Some e → poly_value v e ≡ pos 0)
          → poly_value v e ≡ pos 0
      at_test true here later =
          ap (poly_value v) (sym (same_Some b e (sym (reducer-cons b bs m ∙ cond-true (is_one (quotient (lead_monomial b) m)) _ _ here) ∙ is)))
          ∙ zero_all.0
      at_test false elsewhere later =
          later (sym (reducer-cons b bs m ∙ cond-false (is_one (quotient (lead_monomial b) m)) _ _ elsewhere) ∙ is)

  vanishes-target : (basis : List (List Term)) (terms : List Term) (found : Target) → Vanishes v basis → target basis terms ≡ Some found
      → poly_value v found.element ≡ pos 0
  vanishes-target basis [] found zero_all e = absurd (none-some found (sym (target-none basis [] refl) ∙ e))
  vanishes-target basis (t ∷ ts) found zero_all e =
      at_reducer (reducer basis t.monomial) refl (λ later. vanishes-target basis ts found zero_all later)
    where
      at_reducer : (r : Option (List Term)) → reducer basis t.monomial ≡ r
          → (target basis ts ≡ Some found → poly_value v found.element ≡ pos 0) → poly_value v found.element ≡ pos 0
      at_reducer None none later = later (sym (target-later basis t ts (t ∷ ts) refl none) ∙ e)
      at_reducer (Some b) some later =
          ap (λ (f : Target). poly_value v f.element)
          (sym (same_Some (target_of t b) found (sym (target-here basis t ts (t ∷ ts) b refl some) ∙ e)))
          ∙ vanishes-reducer basis t.monomial b zero_all some

  pub value-scaled : (u : ℤ) (terms all : List Term) → scaled u terms ≡ Ok all → poly_value v all ≡ u *ℤ poly_value v terms
  value-scaled u [] all e = ap (poly_value v) (sym (same_Ok (scaled u []) [] all (scaled-nil u) e)) ∙ sym (*ℤ-zero u)
  value-scaled u (t ∷ ts) all e =
      let w = scaled-made u t ts all e in
      let rest = value-scaled u ts w.1 w.3 in
      let made : poly_value v all ≡ w.0 *ℤ monomial_value v t.monomial +ℤ poly_value v w.1 = ap (poly_value v) (sym w.4) in
      let first : w.0 *ℤ monomial_value v t.monomial ≡ u *ℤ (t.coefficient *ℤ monomial_value v t.monomial) =
      ap (λ (c : ℤ). c *ℤ monomial_value v t.monomial) w.2 ∙ int_mul-assoc u t.coefficient (monomial_value v t.monomial) in
      let sum = int_mul-add u (t.coefficient *ℤ monomial_value v t.monomial) (poly_value v ts) in omega (arith, linear)

  module _ (basis : List (List Term)) (zero_all : Vanishes v basis) (x : ℤ) where
    value-step : (now next : Reduced) → Steps basis now next → now.factor *ℤ x ≡ poly_value v now.rest
        → next.factor *ℤ x ≡ poly_value v next.rest
    value-step now next steps so_far =
        let by = steps.step_is in
        let w = rest-made steps.found by.divisor now.rest next.rest by.rest_is in
        let none = vanishes-target basis now.rest steps.found zero_all steps.found_is in
        let made = value-multiples v true w.1 (quotient steps.found.term.monomial (lead_monomial steps.found.element)) steps.found.element w.2 next.rest w.6 in
        let k = w.1 *ℤ monomial_value v (quotient steps.found.term.monomial (lead_monomial steps.found.element)) in
        let nothing : k *ℤ poly_value v steps.found.element ≡ pos 0 = ap (λ (z : ℤ). k *ℤ z) none ∙ *ℤ-zero k in
        let start = value-scaled w.0 now.rest w.2 w.5 in
        let factor = factor-made steps.found by.divisor now.factor next.factor by.factor_is in
        let left : next.factor *ℤ x ≡ unit steps.found by.divisor *ℤ (now.factor *ℤ x) =
        ap (λ (z : ℤ). z *ℤ x) factor ∙ int_mul-assoc (unit steps.found by.divisor) now.factor x in
        let right : w.0 *ℤ poly_value v now.rest ≡ unit steps.found by.divisor *ℤ poly_value v now.rest =
        ap (λ (z : ℤ). z *ℤ poly_value v now.rest) w.3 in
        left ∙ ap (λ (z : ℤ). unit steps.found by.divisor *ℤ z) so_far ∙ sym right ∙ sym start
        ∙ last (poly_value v w.2) (k *ℤ poly_value v steps.found.element) (poly_value v next.rest) nothing made
      where
        last : (a b c : ℤ) → b ≡ pos 0 → c ≡ a +ℤ neg_ℤ b → a ≡ c
        last a b c e f = omega (arith, ints)

    value-reduces : (now : Reduced) (answer : Result Reduced PolyRefusal) (made : Reduced) → Reduces basis now answer → answer ≡ Ok made
        → now.factor *ℤ x ≡ poly_value v now.rest → made.factor *ℤ x ≡ poly_value v made.rest
    value-reduces now answer made (irreducible none) e so_far =
        subst (λ (r : Reduced). r.factor *ℤ x ≡ poly_value v r.rest) (same_Ok answer now made refl e) so_far
    value-reduces now answer made (step {next = next} steps later) e so_far =
        value-reduces next answer made later e (value-step now next steps so_far)
    value-reduces now answer made (overflow breaks) e so_far = absurd (ok-err answer made Overflow e refl)

  times-divided : (h : ℕ) (z : ℤ) → h ∣ unsigned_abs z → pos h *ℤ divided_by h z ≡ z
  times-divided h z divides =
      ap (λ (y : ℤ). pos h *ℤ y) (divided-by_sign h z)
      ∙ mul-signed (is_negative z) (pos h) (pos (unsigned_abs z / h))
      ∙ ap (signed (is_negative z)) (naturals h (unsigned_abs z / h) ∙ ap pos (turned h (unsigned_abs z / h) ∙ div-mul_cancel h divides))
      ∙ sym (by_sign z)
    where
      naturals : (a b : ℕ) → pos a *ℤ pos b ≡ pos (a * b)
      naturals a b = omega (arith, ints)

      turned : (a b : ℕ) → a * b ≡ b * a
      turned a b = grind arith

  pub value-by : (h : ℕ) (terms : List Term) → DividesEach h terms → pos h *ℤ poly_value v (terms_by h terms) ≡ poly_value v terms
  value-by h [] divides = *ℤ-zero (pos h)
  value-by h (t ∷ ts) divides =
      let rest = value-by h ts divides.1 in
      let sum = int_mul-add (pos h) (divided_by h t.coefficient *ℤ monomial_value v t.monomial) (poly_value v (terms_by h ts)) in
      let first = sym (int_mul-assoc (pos h) (divided_by h t.coefficient) (monomial_value v t.monomial))
      ∙ ap (λ (z : ℤ). z *ℤ monomial_value v t.monomial) (times-divided h t.coefficient divides.0) in omega (arith, linear)

  pub value-normal : (basis : List (List Term)) (p : List Term) (normal : Reduced) → IsNormal basis p normal → Vanishes v basis
      → normal.factor *ℤ poly_value v p ≡ poly_value v normal.rest
  value-normal basis p normal is zero_all =
      let start : pos 1 *ℤ poly_value v p ≡ poly_value v p = omega (arith, ints) in
      let made = value-reduces basis zero_all (poly_value v p) (reduced_of (pos 1) p) (Ok is.made) is.made is.made_is refl start in
      let g = is.content in
      let left = sym (int_mul-assoc (pos g) (divided_by g is.made.factor) (poly_value v p))
      ∙ ap (λ (z : ℤ). z *ℤ poly_value v p) (times-divided g is.made.factor is.content_is.factor) in
      let right = value-by g is.made.rest is.content_is.rest in
      let some = positive-nonzero g is.content_positive in
      ap (λ (r : Reduced). r.factor *ℤ poly_value v p) is.normal_is
      ∙ int_mul-cancel (pos g) (divided_by g is.made.factor *ℤ poly_value v p) (poly_value v (terms_by g is.made.rest)) some
      (left ∙ made ∙ sym right)
      ∙ ap (λ (r : Reduced). poly_value v r.rest) (sym is.normal_is)
    where
      positive-nonzero : (g : ℕ) → 0 < g → pos g ≢ pos 0
      positive-nonzero g h e = absurd (omega (arith, ints))

-- ---- one answer
pub step-one : (basis : List (List Term)) (now next other : Reduced) → Steps basis now next → Steps basis now other → next ≡ other
step-one basis now next other one two =
    let found : one.found ≡ two.found = same_Some one.found two.found (sym one.found_is ∙ two.found_is) in
    let divisor : one.step_is.divisor ≡ two.step_is.divisor = same_from_IsGcd _ _ one.step_is.divisor two.step_is.divisor one.step_is.divisor_is
    (subst (λ (f : Target). IsGcd (unsigned_abs (lead_coefficient f.element)) (unsigned_abs f.term.coefficient) two.step_is.divisor) (sym found)
    two.step_is.divisor_is) in
    let rest : next.rest ≡ other.rest = same_Ok (rest_after one.found one.step_is.divisor now.rest) next.rest other.rest one.step_is.rest_is
    ((λ i. rest_after (found i) (divisor i) now.rest) ∙ two.step_is.rest_is) in
    let factor : next.factor ≡ other.factor = same_Ok (factor_after one.found one.step_is.divisor now.factor) next.factor other.factor one.step_is.factor_is
    ((λ i. factor_after (found i) (divisor i) now.factor) ∙ two.step_is.factor_is) in
    λ i. reduced_of (factor i) (rest i)

step-not_break : (basis : List (List Term)) (now next : Reduced) → Steps basis now next → Breaks basis now → ⊥
step-not_break basis now next one two =
    let found : one.found ≡ two.found = same_Some one.found two.found (sym one.found_is ∙ two.found_is) in
    let divisor : one.step_is.divisor ≡ two.break_is.divisor = same_from_IsGcd _ _ one.step_is.divisor two.break_is.divisor one.step_is.divisor_is
    (subst (λ (f : Target). IsGcd (unsigned_abs (lead_coefficient f.element)) (unsigned_abs f.term.coefficient) two.break_is.divisor) (sym found)
    two.break_is.divisor_is) in
    elim two.break_is.refused [
      | inl rest ↦ ok-err (rest_after one.found one.step_is.divisor now.rest) next.rest Overflow one.step_is.rest_is
          ((λ i. rest_after (found i) (divisor i) now.rest) ∙ rest)
      | inr factor ↦ ok-err (factor_after one.found one.step_is.divisor now.factor) next.factor Overflow one.step_is.factor_is
          ((λ i. factor_after (found i) (divisor i) now.factor) ∙ factor)
    ]

pub reduces-one : (basis : List (List Term)) (now : Reduced) (one other : Result Reduced PolyRefusal) → Reduces basis now one
    → Reduces basis now other → one ≡ other
reduces-one basis now one other (irreducible none) (irreducible also) = refl
reduces-one basis now one other (irreducible none) (step steps later) = absurd (none-some steps.found (sym none ∙ steps.found_is))
reduces-one basis now one other (irreducible none) (overflow breaks) = absurd (none-some breaks.found (sym none ∙ breaks.found_is))
reduces-one basis now one other (step steps later) (irreducible none) = absurd (none-some steps.found (sym none ∙ steps.found_is))
reduces-one basis now one other (step {next = next} steps later) (step {next = second} others last) =
    reduces-one basis next one other later
    (subst (λ (r : Reduced). Reduces basis r other) (sym (step-one basis now next second steps others)) last)
reduces-one basis now one other (step {next = next} steps later) (overflow breaks) = absurd (step-not_break basis now next steps breaks)
reduces-one basis now one other (overflow breaks) (irreducible none) = absurd (none-some breaks.found (sym none ∙ breaks.found_is))
reduces-one basis now one other (overflow breaks) (step {next = next} steps later) = absurd (step-not_break basis now next steps breaks)
reduces-one basis now one other (overflow breaks) (overflow others) = refl

-- ---- one normal form
pub normal-one : (basis : List (List Term)) (p : List Term) (one other : Reduced) → IsNormal basis p one → IsNormal basis p other → one ≡ other
normal-one basis p one other first second =
    first.normal_is ∙ (λ i. reduced_by (contents i) (made i)) ∙ sym second.normal_is
  where
    made : first.made ≡ second.made
    made = same_Ok (Ok first.made) first.made second.made refl
        (reduces-one basis (reduced_of (pos 1) p) (Ok first.made) (Ok second.made) first.made_is second.made_is)

    contents : first.content ≡ second.content
    contents = same-content second.made first.content second.content (subst (λ (r : Reduced). IsContent r first.content) made first.content_is) second.content_is

pub normal-fits : (basis : List (List Term)) (p : List Term) (normal : Reduced) → IsNormal basis p normal
    → Reduces basis (reduced_of (pos 1) p) (Err Overflow) → ⊥
normal-fits basis p normal is breaks =
    ok-err (Ok is.made) is.made Overflow refl (reduces-one basis (reduced_of (pos 1) p) (Ok is.made) (Err Overflow) is.made_is breaks)

-- ---- a zero rest
IsNatural : ℤ → Type 0
IsNatural z = (n : ℕ) × (z ≡ pos n)

natural-reduces : (basis : List (List Term)) (now : Reduced) (answer : Result Reduced PolyRefusal) (made : Reduced)
    → Reduces basis now answer → answer ≡ Ok made → IsNatural now.factor → IsNatural made.factor
unfolding IsNatural
natural-reduces basis now answer made (irreducible none) e natural =
    subst (λ (r : Reduced). IsNatural r.factor) (same_Ok answer now made refl e) natural
natural-reduces basis now answer made (step {next = next} steps later) e natural =
    let by = steps.step_is in
    let factor = factor-made steps.found by.divisor now.factor next.factor by.factor_is in
    let size = unsigned_abs (lead_coefficient steps.found.element) / by.divisor in
    natural-reduces basis next answer made later e
    (size * natural.0, factor ∙ ap (λ (z : ℤ). pos size *ℤ z) natural.1 ∙ naturals size natural.0)
  where
    naturals : (a b : ℕ) → pos a *ℤ pos b ≡ pos (a * b)
    naturals a b = omega (arith, ints)
natural-reduces basis now answer made (overflow breaks) e natural = absurd (ok-err answer made Overflow e refl)

pub zero-rest : (basis : List (List Term)) (p : List Term) (normal : Reduced) → IsNormal basis p normal → normal.rest ≡ []
    → normal.factor ≡ pos 1
unfolding IsNatural
zero-rest basis p normal is none =
    at_made is.made is.content is.content_is is.content_positive is.normal_is
    (natural-reduces basis (reduced_of (pos 1) p) (Ok is.made) is.made is.made_is refl (1, refl))
  where
    one_over : (g : ℕ) → 0 < g → g / g ≡ 1
    one_over g h = ap (λ (n : ℕ). n / g) (omega arith) ∙ mul-div_cancel_left 1 h

    at_rest : (made : Reduced) (g : ℕ) → IsContent made g → 0 < g → (n : ℕ) → made.factor ≡ pos n → (rest : List Term) → made.rest ≡ rest
        → terms_by g rest ≡ [] → divided_by g made.factor ≡ pos 1
    at_rest made g content positive n natural [] rest_is e =
        let size : unsigned_abs made.factor ≡ n = ap unsigned_abs natural in
        let back : n ∣ g = content.greatest n (subst (λ (k : ℕ). n ∣ k) (sym size) (dvd_refl n)) (subst (DividesEach n) (sym rest_is) tt) in
        let same : n ≡ g = dvd_antisymm back (subst (λ (k : ℕ). g ∣ k) size content.factor) in
        ap (divided_by g) (natural ∙ ap pos same) ∙ ap pos (one_over g positive)
    at_rest made g content positive n natural (t ∷ ts) rest_is e =
        let size : suc (length (terms_by g ts)) ≡ 0 = ap length e in absurd (omega arith)

    at_made : (made : Reduced) (g : ℕ) → IsContent made g → 0 < g → normal ≡ reduced_by g made → (natural : (n : ℕ) × (made.factor ≡ pos n))
        → normal.factor ≡ pos 1
    at_made made g content positive is natural =
        ap (λ (r : Reduced). r.factor) is
        ∙ at_rest made g content positive natural.0 natural.1 made.rest refl (sym (ap (λ (r : Reduced). r.rest) is) ∙ none)
