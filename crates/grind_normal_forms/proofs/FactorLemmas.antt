-- What factors are for.
use Rattle.std.proofs.Common.{◌≡◌, ◌≢◌, ℕ, suc, Bool, true, false, not, List, [], ◌∷◌, length, ℤ, pos, ◌+ℤ◌, ◌*ℤ◌, neg_ℤ, Option, Some, None, Result, Ok, arith, sym, ap, ◌∙◌, refl, subst}
use Rattle.std.proofs.lemmas.Bool.{cond-true, cond-false}
use Rattle.std.proofs.lemmas.Option.{none-some, same_Some}
use borrow.Author.Differences.{ints}
use lib.IntN.{*ℤ-zero}
use Rattle.grind_lemmas.proofs.Rings.{int_add-assoc, int_mul-assoc, int_mul-add, int_add-mul, int_mul-comm}
use Rattle.grind_monomials.specs.Monomials.{quotient}
use Rattle.grind_monomials.specs.Counts.{monomial_value}
use Rattle.grind_polynomials.specs.declared.poly.Term.{Term}
use Rattle.grind_polynomials.specs.declared.poly.PolyRefusal.{PolyRefusal}
use Rattle.grind_polynomials.specs.declared.poly.PolyRefusal.TheVariants.{Overflow}
use Rattle.grind_normal_forms.specs.declared.reduction.Reduced.{Reduced}
use Rattle.grind_normal_forms.specs.declared.factors.Factors.{Factors}
use Rattle.grind_polynomials.specs.Sums.{and_then, signed, with_more}
use Rattle.grind_polynomials.specs.Values.{poly_value}
use Rattle.grind_normal_forms.specs.Pairs.{lead_monomial}
use Rattle.grind_normal_forms.specs.Reduction.{is_one, reduced_of, reducer, Target, target_of, target, unit, weight, scaled, Reduces, irreducible, step, IsContent, terms_by, IsNormal}
use Rattle.grind_normal_forms.specs.Gathering.{Move, move_of, factor_moved, before, factors_moved, no_factors, StepsWith, Gathers, ended, moved, spilt, has_terms, factors_by, IsFactors, products_value}
use Rattle.grind_polynomials.proofs.Fits.{ok-err, same_Ok}
use Rattle.grind_polynomials.proofs.Falling.{made_of}
use Rattle.grind_polynomials.proofs.SumValues.{value-more, value-multiples, signed-mul}
use Rattle.grind_normal_forms.proofs.ReductionLemmas.{reducer-none, reducer-cons, target-none, target-here, target-later, rest-made}
use Rattle.grind_normal_forms.proofs.GatherLemmas.{moved-nil, moved-cons}
use Rattle.grind_normal_forms.proofs.ContentLemmas.{same-content}
use Rattle.grind_normal_forms.proofs.NormalLemmas.{value-scaled, value-by, factor-made, reduces-one}

-- ---- the reducing element
pub target-by : (basis : List (List Term)) (terms : List Term) (found : Target) → target basis terms ≡ Some found
    → reducer basis found.term.monomial ≡ Some found.element
target-by basis [] found e = absurd (none-some found (sym (target-none basis [] refl) ∙ e))
target-by basis (t ∷ ts) found e = at_reducer (reducer basis t.monomial) refl (λ later. target-by basis ts found later)
  where
    at_reducer : (r : Option (List Term)) → reducer basis t.monomial ≡ r
        → (target basis ts ≡ Some found → reducer basis found.term.monomial ≡ Some found.element)
        → reducer basis found.term.monomial ≡ Some found.element
    at_reducer None none later = later (sym (target-later basis t ts (t ∷ ts) refl none) ∙ e)
    at_reducer (Some b) some later =
        subst (λ (f : Target). reducer basis f.term.monomial ≡ Some f.element)
        (same_Some (target_of t b) found (sym (target-here basis t ts (t ∷ ts) b refl some) ∙ e)) some

pub before-made : (q : Result (List Term) PolyRefusal) (rest : Result (List (List Term)) PolyRefusal) (all : List (List Term))
    → before q rest ≡ Ok all → (first : List Term) × (others : List (List Term)) × (q ≡ Ok first) × (rest ≡ Ok others) × (first ∷ others ≡ all)
before-made q rest all e =
    let one = made_of (λ first. and_then (λ all. Ok (first ∷ all)) rest) q all e in
    let two = made_of (λ all. Ok (one.0 ∷ all)) rest all one.2 in
    (one.0, two.0, one.1, two.1, same_Ok (Ok (one.0 ∷ two.0)) (one.0 ∷ two.0) all refl two.2)

module _ (v : ℕ → ℤ) where
  none-value : (basis : List (List Term)) → products_value v basis (no_factors basis) ≡ pos 0
  none-value [] = refl
  none-value (b ∷ bs) =
      (λ i. (int_mul-comm (pos 0) (poly_value v b) ∙ *ℤ-zero (poly_value v b)) i +ℤ none-value bs i)

  nil-value : (qs : List (List Term)) → products_value v [] qs ≡ pos 0
  nil-value [] = refl
  nil-value (q ∷ qs) = refl

  -- where no further element reduces, each factor is taken as often as the unit says
  record IsTimes (move : Move) (basis qs more : List (List Term)) (extra : ℤ) : Type 0 where
    value : products_value v basis more ≡ move.unit *ℤ products_value v basis qs +ℤ extra
    size : length more ≡ length basis

  closed-value : (move : Move) (basis qs more : List (List Term)) → length qs ≡ length basis
      → factors_moved move false basis qs ≡ Ok more → IsTimes move basis qs more (pos 0)
  closed-value move [] qs more size e =
      let none : [] ≡ more = same_Ok (factors_moved move false [] qs) [] more (moved-nil move false qs) e in record {
        value = zero_value (products_value v [] more) move.unit (products_value v [] qs) (nil-value more) (nil-value qs);
        size = ap length (sym none);
      }
    where
      zero_value : (a u b : ℤ) → a ≡ pos 0 → b ≡ pos 0 → a ≡ u *ℤ b +ℤ pos 0
      zero_value a u b e f = e ∙ sym (ap (λ (z : ℤ). u *ℤ z +ℤ pos 0) f ∙ ap (λ (z : ℤ). z +ℤ pos 0) (*ℤ-zero u))
  closed-value move (b ∷ bs) [] more size e = absurd (omega arith)
  closed-value move (b ∷ bs) (q ∷ qs) more size e =
      let w = before-made (scaled move.unit q) (factors_moved move false bs qs) more (sym (moved-cons move false b q bs qs) ∙ e) in
      let rest = closed-value move bs qs w.1 (omega arith) w.3 in
      let rest_value = rest.value in
      let rest_size = rest.size in
      let first = ap (λ (z : ℤ). z *ℤ poly_value v b) (value-scaled v move.unit q w.0 w.2)
      ∙ int_mul-assoc move.unit (poly_value v q) (poly_value v b) in
      let sum = int_mul-add move.unit (poly_value v q *ℤ poly_value v b) (products_value v bs qs) in
      let made : products_value v (b ∷ bs) more ≡ poly_value v w.0 *ℤ poly_value v b +ℤ products_value v bs w.1 =
      ap (products_value v (b ∷ bs)) (sym w.4) in
      let long : length more ≡ suc (length w.1) = ap length (sym w.4) in record {
        value = made ∙ (λ i. first i +ℤ rest_value i)
            ∙ sym (int_add-assoc (move.unit *ℤ (poly_value v q *ℤ poly_value v b)) (move.unit *ℤ products_value v bs qs) (pos 0))
            ∙ ap (λ (z : ℤ). z +ℤ pos 0) (sym sum);
        size = long ∙ ap suc rest_size;
      }

  -- what the reducing element has more
  abbrev more_of : Move → List Term → ℤ
  more_of move e = signed move.minus move.weight *ℤ monomial_value v (quotient move.monomial (lead_monomial e)) *ℤ poly_value v e

  free-value : (move : Move) (basis qs more : List (List Term)) (element : List Term) → length qs ≡ length basis
      → reducer basis move.monomial ≡ Some element → factors_moved move true basis qs ≡ Ok more
      → IsTimes move basis qs more (more_of move element)
  free-value move [] qs more element size by e = absurd (none-some element (sym (reducer-none [] move.monomial refl) ∙ by))
  free-value move (b ∷ bs) [] more element size by e = absurd (omega arith)
  free-value move (b ∷ bs) (q ∷ qs) more element size by e =
      at_test (is_one (quotient (lead_monomial b) move.monomial)) refl
      (λ others by_later is. free-value move bs qs others element (omega arith) by_later is)
    where
      opened : (t : Bool) → is_one (quotient (lead_monomial b) move.monomial) ≡ t
          → before (factor_moved move t b q) (factors_moved move (not t) bs qs) ≡ Ok more
      opened t is =
          ap (λ (h : Bool). before (factor_moved move h b q) (factors_moved move (not h) bs qs)) (sym is)
          ∙ sym (moved-cons move true b q bs qs) ∙ e

      at_test : (t : Bool) → is_one (quotient (lead_monomial b) move.monomial) ≡ t
          → ((others : List (List Term)) → reducer bs move.monomial ≡ Some element → factors_moved move true bs qs ≡ Ok others
          → IsTimes move bs qs others (more_of move element))
          → IsTimes move (b ∷ bs) (q ∷ qs) more (more_of move element)
      at_test true is later =
          let w = before-made (factor_moved move true b q) (factors_moved move false bs qs) more (opened true is) in
          let p = made_of (with_more (signed move.minus move.weight) (quotient move.monomial (lead_monomial b))) (scaled move.unit q) w.0 w.2 in
          let same : b ≡ element =
          same_Some b element (sym (reducer-cons b bs move.monomial ∙ cond-true (is_one (quotient (lead_monomial b) move.monomial)) _ _ is) ∙ by) in
          let rest = closed-value move bs qs w.1 (omega arith) w.3 in
          let rest_value = rest.value in
          let rest_size = rest.size in
          let k = signed move.minus move.weight *ℤ monomial_value v (quotient move.monomial (lead_monomial b)) in
          let first : poly_value v w.0 ≡ move.unit *ℤ poly_value v q +ℤ k =
          value-more v (signed move.minus move.weight) (quotient move.monomial (lead_monomial b)) p.0 w.0 p.2
          ∙ ap (λ (z : ℤ). z +ℤ k) (value-scaled v move.unit q p.0 p.1) in
          let product = ap (λ (z : ℤ). z *ℤ poly_value v b) first ∙ int_add-mul (move.unit *ℤ poly_value v q) k (poly_value v b) in
          let factor = int_mul-assoc move.unit (poly_value v q) (poly_value v b) in
          let sum = int_mul-add move.unit (poly_value v q *ℤ poly_value v b) (products_value v bs qs) in
          let extra : more_of move b ≡ more_of move element = ap (more_of move) same in
          let made : products_value v (b ∷ bs) more ≡ poly_value v w.0 *ℤ poly_value v b +ℤ products_value v bs w.1 =
          ap (products_value v (b ∷ bs)) (sym w.4) in
          let long : length more ≡ suc (length w.1) = ap length (sym w.4) in record {
            value = made ∙ (λ i. (product ∙ ap (λ (z : ℤ). z +ℤ k *ℤ poly_value v b) factor) i +ℤ rest_value i)
                ∙ shuffled (move.unit *ℤ (poly_value v q *ℤ poly_value v b)) (move.unit *ℤ products_value v bs qs) (k *ℤ poly_value v b)
                ∙ (λ i. sym sum i +ℤ extra i);
            size = long ∙ ap suc rest_size;
          }
        where
          shuffled : (c d x : ℤ) → (c +ℤ x) +ℤ (d +ℤ pos 0) ≡ (c +ℤ d) +ℤ x
          shuffled c d x = omega (arith, ints)
      at_test false is later =
          let w = before-made (factor_moved move false b q) (factors_moved move true bs qs) more (opened false is) in
          let by_later : reducer bs move.monomial ≡ Some element =
          sym (reducer-cons b bs move.monomial ∙ cond-false (is_one (quotient (lead_monomial b) move.monomial)) _ _ is) ∙ by in
          let rest = later w.1 by_later w.3 in
          let rest_value = rest.value in
          let rest_size = rest.size in
          let first = ap (λ (z : ℤ). z *ℤ poly_value v b) (value-scaled v move.unit q w.0 w.2)
          ∙ int_mul-assoc move.unit (poly_value v q) (poly_value v b) in
          let sum = int_mul-add move.unit (poly_value v q *ℤ poly_value v b) (products_value v bs qs) in
          let made : products_value v (b ∷ bs) more ≡ poly_value v w.0 *ℤ poly_value v b +ℤ products_value v bs w.1 =
          ap (products_value v (b ∷ bs)) (sym w.4) in
          let long : length more ≡ suc (length w.1) = ap length (sym w.4) in record {
            value = made ∙ (λ i. first i +ℤ rest_value i)
                ∙ sym (int_add-assoc (move.unit *ℤ (poly_value v q *ℤ poly_value v b)) (move.unit *ℤ products_value v bs qs) (more_of move element))
                ∙ ap (λ (z : ℤ). z +ℤ more_of move element) (sym sum);
            size = long ∙ ap suc rest_size;
          }

  -- ---- the steps
  -- the factor times the polynomial is the rest and the products, with their signs
  Holds : List (List Term) → Bool → ℤ → Reduced → List (List Term) → Type 0
  Holds basis minus x now qs = now.factor *ℤ x ≡ poly_value v now.rest +ℤ signed minus (products_value v basis qs)

  signed-sum : (minus : Bool) (a b : ℤ) → signed minus (a +ℤ b) ≡ signed minus a +ℤ signed minus b
  signed-sum false a b = refl
  signed-sum true a b = omega (arith, ints)

  signed-back : (minus : Bool) (a : ℤ) → signed minus (signed minus a) ≡ a
  signed-back false a = refl
  signed-back true a = omega (arith, ints)

  signed-times : (minus : Bool) (u a : ℤ) → signed minus (u *ℤ a) ≡ u *ℤ signed minus a
  signed-times minus u a =
      ap (signed minus) (int_mul-comm u a) ∙ sym (signed-mul minus a u) ∙ int_mul-comm (signed minus a) u

  holds-step : (basis : List (List Term)) (minus : Bool) (x : ℤ) (now next : Reduced) (qs more : List (List Term)) → length qs ≡ length basis
      → StepsWith minus basis now qs next more → Holds basis minus x now qs → Holds basis minus x next more × (length more ≡ length basis)
  unfolding Holds
  holds-step basis minus x now next qs more size with_steps so_far =
      let steps = with_steps.steps in
      let by = steps.step_is in
      let found = steps.found in
      let u = unit found by.divisor in
      let w = rest-made found by.divisor now.rest next.rest by.rest_is in
      let times = free-value (move_of minus found by.divisor) basis qs more found.element size
      (target-by basis now.rest found steps.found_is) with_steps.more_is in
      let rest = value-multiples v true w.1 (quotient found.term.monomial (lead_monomial found.element)) found.element w.2 next.rest w.6 in
      let start : poly_value v w.2 ≡ u *ℤ poly_value v now.rest = value-scaled v w.0 now.rest w.2 w.5 ∙ ap (λ (z : ℤ). z *ℤ poly_value v now.rest) w.3 in
      let m = monomial_value v (quotient found.term.monomial (lead_monomial found.element)) in
      let b = poly_value v found.element in
      let taken : (w.1 *ℤ m) *ℤ b ≡ (weight found by.divisor *ℤ m) *ℤ b = ap (λ (z : ℤ). (z *ℤ m) *ℤ b) w.4 in
      let factor : next.factor *ℤ x ≡ u *ℤ (now.factor *ℤ x) =
      ap (λ (z : ℤ). z *ℤ x) (factor-made found by.divisor now.factor next.factor by.factor_is) ∙ int_mul-assoc u now.factor x in
      let turned : signed minus ((signed minus (weight found by.divisor) *ℤ m) *ℤ b) ≡ (weight found by.divisor *ℤ m) *ℤ b =
      ap (signed minus)
      (ap (λ (z : ℤ). z *ℤ b) (signed-mul minus (weight found by.divisor) m) ∙ signed-mul minus (weight found by.divisor *ℤ m) b)
      ∙ signed-back minus ((weight found by.divisor *ℤ m) *ℤ b) in
      let products : signed minus (products_value v basis more)
      ≡ u *ℤ signed minus (products_value v basis qs) +ℤ (weight found by.divisor *ℤ m) *ℤ b =
      ap (signed minus) times.value
      ∙ signed-sum minus (u *ℤ products_value v basis qs) ((signed minus (weight found by.divisor) *ℤ m) *ℤ b)
      ∙ (λ i. signed-times minus u (products_value v basis qs) i +ℤ turned i) in
      let sum = ap (λ (z : ℤ). u *ℤ z) so_far ∙ int_mul-add u (poly_value v now.rest) (signed minus (products_value v basis qs)) in (
        closing (next.factor *ℤ x) (u *ℤ (now.factor *ℤ x)) (u *ℤ poly_value v now.rest) (u *ℤ signed minus (products_value v basis qs))
            (poly_value v next.rest) (poly_value v w.2) ((w.1 *ℤ m) *ℤ b) ((weight found by.divisor *ℤ m) *ℤ b) (signed minus (products_value v basis more))
            factor sum start rest taken products,
        times.size,
      )
    where
      cancelled : (r s c : ℤ) → (r +ℤ neg_ℤ c) +ℤ (s +ℤ c) ≡ r +ℤ s
      cancelled r s c = omega (arith, ints)

      closing : (f g r s n start a c products : ℤ) → f ≡ g → g ≡ r +ℤ s → start ≡ r → n ≡ start +ℤ neg_ℤ a → a ≡ c → products ≡ s +ℤ c
          → f ≡ n +ℤ products
      closing f g r s n start a c products e1 e2 e3 e4 e5 e6 =
          e1 ∙ e2 ∙ sym (cancelled r s c)
          ∙ (λ i. (sym e3 i +ℤ neg_ℤ (sym e5 i)) +ℤ (s +ℤ c)) ∙ (λ i. sym e4 i +ℤ sym e6 i)

  record Ends (basis : List (List Term)) (minus : Bool) (x : ℤ) (now : Reduced) (gathered : List (List Term)) : Type 0 where
    last : Reduced
    reduces : Reduces basis now (Ok last)
    holds : Holds basis minus x last gathered

  gathers-end : (basis : List (List Term)) (minus : Bool) (x : ℤ) (now : Reduced) (qs : List (List Term))
      (answer : Result (List (List Term)) PolyRefusal) (gathered : List (List Term)) → Gathers basis minus now qs answer → answer ≡ Ok gathered
      → length qs ≡ length basis → Holds basis minus x now qs → Ends basis minus x now gathered
  gathers-end basis minus x now qs answer gathered (ended none) e size holds = record {
    last = now;
    reduces = irreducible none;
    holds = subst (Holds basis minus x now) (same_Ok answer qs gathered refl e) holds;
  }
  gathers-end basis minus x now qs answer gathered (moved {next = next} {more = more} steps later) e size holds =
      let then_holds = holds-step basis minus x now next qs more size steps holds in
      let ends = gathers-end basis minus x next more answer gathered later e then_holds.1 then_holds.0 in record {
        last = ends.last;
        reduces = step steps.steps ends.reduces;
        holds = ends.holds;
      }
  gathers-end basis minus x now qs answer gathered (spilt spills) e size holds = absurd (ok-err answer gathered Overflow e refl)

  none-length : (basis : List (List Term)) → length (no_factors basis) ≡ length basis
  none-length [] = refl
  none-length (b ∷ bs) = let rest = none-length bs in omega arith

  signed-none : (minus : Bool) (a : ℤ) → a ≡ pos 0 → signed minus a ≡ pos 0
  signed-none false a e = e
  signed-none true a e = omega (arith, ints)

  unit_sum : (a : ℤ) → a +ℤ pos 0 ≡ a
  unit_sum a = omega (arith, ints)

  -- what is gathered for a reduction
  holds-made : (basis : List (List Term)) (minus : Bool) (p : List Term) (made : Reduced) (gathered : List (List Term))
      → Reduces basis (reduced_of (pos 1) p) (Ok made) → Gathers basis minus (reduced_of (pos 1) p) (no_factors basis) (Ok gathered)
      → made.factor *ℤ poly_value v p ≡ poly_value v made.rest +ℤ signed minus (products_value v basis gathered)
  unfolding Holds
  holds-made basis minus p made gathered reduces gathers =
      let none = signed-none minus (products_value v basis (no_factors basis)) (none-value basis) in
      let once : pos 1 *ℤ poly_value v p ≡ poly_value v p = omega (arith, ints) in
      let ends = gathers-end basis minus (poly_value v p) (reduced_of (pos 1) p) (no_factors basis) (Ok gathered) gathered gathers refl
      (none-length basis) (once ∙ sym (ap (λ (z : ℤ). poly_value v p +ℤ z) none ∙ unit_sum (poly_value v p))) in
      let same : ends.last ≡ made = same_Ok (Ok ends.last) ends.last made refl (reduces-one basis (reduced_of (pos 1) p) (Ok ends.last) (Ok made) ends.reduces reduces) in
      subst (λ (r : Reduced). r.factor *ℤ poly_value v p ≡ poly_value v r.rest +ℤ signed minus (products_value v basis gathered)) same ends.holds

  by-empty : (g : ℕ) (rest : List Term) → terms_by g rest ≡ [] → rest ≡ []
  by-empty g [] e = refl
  by-empty g (t ∷ ts) e = let size : suc (length (terms_by g ts)) ≡ 0 = ap length e in absurd (omega arith)

  has-not : (terms : List Term) → terms ≡ [] → has_terms terms ≡ false
  has-not terms e = ap has_terms e

  has-there : (terms : List Term) → terms ≢ [] → has_terms terms ≡ true
  has-there [] some = absurd (some refl)
  has-there (t ∷ ts) some = refl

  pub value-factors : (basis : List (List Term)) (p : List Term) (factors : Factors) (normal : Reduced) → IsFactors basis p factors
      → IsNormal basis p normal
      → (normal.rest ≢ [] → factors.divisor *ℤ poly_value v normal.rest
      ≡ (factors.own *ℤ poly_value v p) +ℤ products_value v basis factors.list)
      × (normal.rest ≡ [] → (factors.own ≡ pos 0) × (factors.divisor *ℤ poly_value v p ≡ products_value v basis factors.list))
  value-factors basis p factors normal one two = (
    λ some.
        let has = has-there one.made.rest (λ e. some (rest_is ∙ ap (terms_by two.content) e)) in
        let holds = holds-made basis true p one.made one.gathered one.made_is
        (subst (λ (minus : Bool). Gathers basis minus (reduced_of (pos 1) p) (no_factors basis) (Ok one.gathered)) has one.gathered_is) in
        let is : factors ≡ factors_by one.made one.content one.gathered true =
        one.factors_are ∙ ap (factors_by one.made one.content one.gathered) has in
        let divided = value-by v one.content one.made.rest one.content_is.rest in
        let rest : pos one.content *ℤ poly_value v normal.rest ≡ poly_value v one.made.rest =
        (λ i. pos one.content *ℤ poly_value v ((rest_is ∙ ap (λ (g : ℕ). terms_by g one.made.rest) contents) i)) ∙ divided in
        ap (λ (f : Factors). f.divisor *ℤ poly_value v normal.rest) is ∙ rest
        ∙ turned (one.made.factor *ℤ poly_value v p) (poly_value v one.made.rest) (products_value v basis one.gathered) holds
        ∙ sym (ap (λ (f : Factors). (f.own *ℤ poly_value v p) +ℤ products_value v basis f.list) is),
    λ none.
        let has = has-not one.made.rest (by-empty two.content one.made.rest (sym rest_is ∙ none)) in
        let holds = holds-made basis false p one.made one.gathered one.made_is
        (subst (λ (minus : Bool). Gathers basis minus (reduced_of (pos 1) p) (no_factors basis) (Ok one.gathered)) has one.gathered_is) in
        let is : factors ≡ factors_by one.made one.content one.gathered false =
        one.factors_are ∙ ap (factors_by one.made one.content one.gathered) has in
        let empty : poly_value v one.made.rest ≡ pos 0 = ap (poly_value v) (by-empty two.content one.made.rest (sym rest_is ∙ none)) in (
          ap (λ (f : Factors). f.own) is,
          ap (λ (f : Factors). f.divisor *ℤ poly_value v p) is
              ∙ whole (one.made.factor *ℤ poly_value v p) (poly_value v one.made.rest) (products_value v basis one.gathered) holds empty
              ∙ sym (ap (λ (f : Factors). products_value v basis f.list) is),
        ),
  )
    where
      made_same : two.made ≡ one.made
      made_same = same_Ok (Ok two.made) two.made one.made refl (reduces-one basis (reduced_of (pos 1) p) (Ok two.made) (Ok one.made) two.made_is one.made_is)

      rest_is : normal.rest ≡ terms_by two.content one.made.rest
      rest_is = ap (λ (r : Reduced). r.rest) two.normal_is ∙ ap (λ (r : Reduced). terms_by two.content r.rest) made_same

      contents : two.content ≡ one.content
      contents = same-content one.made two.content one.content (subst (λ (r : Reduced). IsContent r two.content) made_same two.content_is) one.content_is

      turned : (a r s : ℤ) → a ≡ r +ℤ neg_ℤ s → r ≡ a +ℤ s
      turned a r s e = omega (arith, ints)

      whole : (a r s : ℤ) → a ≡ r +ℤ s → r ≡ pos 0 → a ≡ s
      whole a r s e f = omega (arith, ints)
