-- A polynomial that is reduced to 0 still is where further elements join the basis, by the same steps.
use Rattle.std.proofs.Common.{◌≡◌, ◌≢◌, ℕ, Bool, true, false, List, [], ◌∷◌, ◌++◌, length, ℤ, Option, Some, None, Result, Ok, arith, sym, ap, ◌∙◌, refl, subst}
use Rattle.std.proofs.lemmas.Bool.{cond-true, cond-false}
use Rattle.std.proofs.lemmas.Option.{none-some, same_Some}
use Rattle.grind_monomials.specs.declared.order.Place.TheVariants.{Above}
use Rattle.grind_monomials.specs.Order.{place}
use Rattle.grind_monomials.specs.Monomials.{IsMonomial, product, quotient}
use Rattle.grind_monomials.proofs.CountLemmas.{rises-quotient, product-quotient, place-product}
use Rattle.grind_monomials.proofs.Orders.{place-chain}
use Rattle.grind_polynomials.specs.declared.poly.Term.{Term}
use Rattle.grind_polynomials.specs.declared.poly.PolyRefusal.{PolyRefusal}
use Rattle.grind_polynomials.specs.declared.poly.PolyRefusal.TheVariants.{Overflow}
use Rattle.grind_normal_forms.specs.declared.reduction.Reduced.{Reduced}
use Rattle.grind_polynomials.specs.Polynomials.{term_of, StartsBelow, IsPoly}
use Rattle.grind_polynomials.specs.Sums.{signed, with_more, with_multiple, with_multiples}
use Rattle.grind_normal_forms.specs.Pairs.{lead_monomial}
use Rattle.grind_normal_forms.specs.Reduction.{is_one, reducer, Target, target_of, target, scaled, Steps, Reduces, irreducible, step, overflow}
use Rattle.grind_normal_forms.specs.FinalFactors.{ArePolys}
use Rattle.grind_polynomials.proofs.Fits.{ok-err, same_Ok}
use Rattle.grind_polynomials.proofs.Putting.{more-above}
use Rattle.grind_polynomials.proofs.Products.{multiples-nil, multiples-cons}
use Rattle.grind_polynomials.proofs.Falling.{made_of, behind-made, multiple-made, starts-chain}
use Rattle.grind_polynomials.proofs.Rows.{product-turned}
use Rattle.grind_normal_forms.proofs.ReductionLemmas.{one-empty, reducer-cons, reducer-none, target-here, target-later, target-none, scaled-made, rest-made, poly-rest}
use Rattle.grind_normal_forms.proofs.Descent.{reducer-found, found-mono}

-- ---- the leading monomial
-- the first of the terms has this monomial
Leads : List ℕ → List Term → Type 0
Leads m terms = (t : Term) × (ts : List Term) × (terms ≡ t ∷ ts) × (t.monomial ≡ m)

-- each product of further terms with this monomial is below m
AllBelow : List ℕ → List ℕ → List Term → Type 0
AllBelow m further [] = Unit {0}
AllBelow m further (b ∷ bs) = (place m (product further b.monomial) ≡ Above) × AllBelow m further bs

leads_here : (t : Term) (ts rest : List Term) → rest ≡ t ∷ ts → Leads t.monomial rest
unfolding Leads
leads_here t ts rest is = (t, ts, is, refl)

leads-more : (m n : List ℕ) (z : ℤ) (terms all : List Term) → Leads m terms → place m n ≡ Above → with_more z n terms ≡ Ok all → Leads m all
unfolding Leads
leads-more m n z terms all lead above e =
    let first : place lead.0.monomial n ≡ Above = subst (λ (l : List ℕ). place l n ≡ Above) (sym lead.3) above in
    let opened = ap (with_more z n) (sym lead.2) ∙ e in
    let w = behind-made (lead.0 ∷ []) (with_more z n lead.1) all (sym (more-above z n lead.0 lead.1 first) ∙ opened) in
    (lead.0, w.0, sym w.2, lead.3)

leads-multiples : (m further : List ℕ) (minus : Bool) (c : ℤ) (bs terms all : List Term) → AllBelow m further bs → Leads m terms
    → with_multiples minus c further bs terms ≡ Ok all → Leads m all
unfolding AllBelow
leads-multiples m further minus c [] terms all below lead e =
    subst (Leads m) (same_Ok (with_multiples minus c further [] terms) terms all (multiples-nil minus c further terms) e) lead
leads-multiples m further minus c (b ∷ bs) terms all below lead e =
    let w = made_of (with_multiples minus c further bs) (with_multiple minus c further b terms) all
    (sym (multiples-cons minus c further b bs terms) ∙ e) in
    let p = multiple-made minus c further b terms w.0 w.1 in
    leads-multiples m further minus c bs w.0 all below.1
    (leads-more m (product further b.monomial) (signed minus p.0) terms w.0 lead below.0 p.2) w.2

-- the product with what falls from a monomial is below that with the monomial
below-rest : (m further lead : List ℕ) (bs : List Term) → IsMonomial further → IsMonomial lead
    → place m (product further lead) ≡ Above → IsPoly bs → StartsBelow lead bs → AllBelow m further bs
unfolding AllBelow
below-rest m further lead [] one two above poly starts = tt
below-rest m further lead (b ∷ bs) one two above poly starts =
    let turned : place (product further lead) (product further b.monomial) ≡ Above =
    subst (λ (x : List ℕ). place x (product further b.monomial) ≡ Above) (product-turned lead further two one)
    (subst (λ (x : List ℕ). place (product lead further) x ≡ Above) (product-turned b.monomial further poly.0 one)
    (place-product lead b.monomial further two poly.0 one starts)) in
    let here = place-chain m (product further lead) (product further b.monomial) above turned in
    (here, below-rest m further b.monomial bs one poly.0 here poly.3 poly.2)

-- an element whose leading monomial divides a lesser monomial
below-element : (m n : List ℕ) (element : List Term) → IsPoly element → element ≢ [] → IsMonomial n
    → quotient (lead_monomial element) n ≡ [] → place m n ≡ Above → AllBelow m (quotient n (lead_monomial element)) element
unfolding AllBelow
below-element m n [] poly some mono divides above = absurd (some refl)
below-element m n (x ∷ xs) poly some mono divides above =
    let further = quotient n x.monomial in
    let further_mono = rises-quotient n x.monomial 0 mono in
    let whole : product further x.monomial ≡ n =
    product-turned further x.monomial further_mono poly.0 ∙ product-quotient x.monomial n poly.0 mono divides in
    let here : place m (product further x.monomial) ≡ Above = subst (λ (l : List ℕ). place m l ≡ Above) (sym whole) above in
    (here, below-rest m further x.monomial xs further_mono poly.0 here poly.3 poly.2)

-- ---- the elements of a basis
record IsGood (basis : List (List Term)) (element : List Term) (m : List ℕ) : Type 0 where
  is_poly : IsPoly element
  is_some : element ≢ []
  divides : quotient (lead_monomial element) m ≡ []

unfoldable pub AreSome : List (List Term) → Type 0
AreSome [] = Unit {0}
AreSome (b ∷ bs) = (b ≢ []) × AreSome bs

good : (basis : List (List Term)) (m : List ℕ) (element : List Term) → ArePolys basis → AreSome basis → reducer basis m ≡ Some element
    → IsGood basis element m
unfolding AreSome
good [] m element polys some e = absurd (none-some element (sym (reducer-none [] m refl) ∙ e))
good (b ∷ bs) m element polys some e = at_test (is_one (quotient (lead_monomial b) m)) refl (good bs m element polys.1 some.1)
  where
    at_test : (t : Bool) → is_one (quotient (lead_monomial b) m) ≡ t → (reducer bs m ≡ Some element → IsGood bs element m)
        → IsGood (b ∷ bs) element m
    at_test true here later =
        let same : b ≡ element = same_Some b element
        (sym (reducer-cons b bs m ∙ cond-true (is_one (quotient (lead_monomial b) m)) _ _ here) ∙ e) in record {
          is_poly = subst IsPoly same polys.0;
          is_some = λ none. some.0 (same ∙ none);
          divides = subst (λ (x : List Term). quotient (lead_monomial x) m ≡ []) same (one-empty (quotient (lead_monomial b) m) here);
        }
    at_test false elsewhere later =
        let it = later (sym (reducer-cons b bs m ∙ cond-false (is_one (quotient (lead_monomial b) m)) _ _ elsewhere) ∙ e) in record {
          is_poly = it.is_poly;
          is_some = it.is_some;
          divides = it.divides;
        }

reducer-stays : (basis more : List (List Term)) (m : List ℕ) (element : List Term) → reducer basis m ≡ Some element
    → reducer (basis ++ more) m ≡ Some element
reducer-stays [] more m element e = absurd (none-some element (sym (reducer-none [] m refl) ∙ e))
reducer-stays (b ∷ bs) more m element e = at_test (is_one (quotient (lead_monomial b) m)) refl (reducer-stays bs more m element)
  where
    at_test : (t : Bool) → is_one (quotient (lead_monomial b) m) ≡ t
        → (reducer bs m ≡ Some element → reducer (bs ++ more) m ≡ Some element) → reducer (b ∷ bs ++ more) m ≡ Some element
    at_test true here later =
        reducer-cons b (bs ++ more) m ∙ cond-true (is_one (quotient (lead_monomial b) m)) _ _ here
        ∙ sym (reducer-cons b bs m ∙ cond-true (is_one (quotient (lead_monomial b) m)) _ _ here) ∙ e
    at_test false elsewhere later =
        reducer-cons b (bs ++ more) m ∙ cond-false (is_one (quotient (lead_monomial b) m)) _ _ elsewhere
        ∙ later (sym (reducer-cons b bs m ∙ cond-false (is_one (quotient (lead_monomial b) m)) _ _ elsewhere) ∙ e)

-- what is found in terms that start below a monomial is below it
found-below : (basis : List (List Term)) (m : List ℕ) (terms : List Term) (found : Target) → IsPoly terms → StartsBelow m terms
    → target basis terms ≡ Some found → place m found.term.monomial ≡ Above
found-below basis m [] found poly starts e = absurd (none-some found (sym (target-none basis [] refl) ∙ e))
found-below basis m (t ∷ ts) found poly starts e =
    at_reducer (reducer basis t.monomial) refl
    (found-below basis m ts found poly.3 (starts-chain m t.monomial ts starts poly.2))
  where
    at_reducer : (r : Option (List Term)) → reducer basis t.monomial ≡ r
        → (target basis ts ≡ Some found → place m found.term.monomial ≡ Above) → place m found.term.monomial ≡ Above
    at_reducer None none later = later (sym (target-later basis t ts (t ∷ ts) refl none) ∙ e)
    at_reducer (Some b) some later =
        subst (λ (f : Target). place m f.term.monomial ≡ Above)
        (same_Some (target_of t b) found (sym (target-here basis t ts (t ∷ ts) b refl some) ∙ e)) starts

-- ---- what nothing reduces stays at the head
module _ (basis : List (List Term)) (polys : ArePolys basis) (some : AreSome basis) where
  poly-step : (now next : Reduced) → Steps basis now next → IsPoly now.rest → IsPoly next.rest
  poly-step now next steps poly =
      let mono = found-mono basis now.rest steps.found poly steps.found_is in
      let it = good basis steps.found.term.monomial steps.found.element polys some
      (reducer-found basis now.rest steps.found poly steps.found_is) in
      poly-rest steps.found steps.step_is.divisor now.rest next.rest steps.step_is.divisor_is it.is_poly it.is_some mono poly steps.step_is.rest_is

  leads-step : (m : List ℕ) (now next : Reduced) → Steps basis now next → IsPoly now.rest → Leads m now.rest → reducer basis m ≡ None
      → Leads m next.rest
  unfolding Leads
  leads-step m now next steps poly lead none =
      let opened : IsPoly (lead.0 ∷ lead.1) = subst IsPoly lead.2 poly in
      let first_none : reducer basis lead.0.monomial ≡ None = ap (reducer basis) lead.3 ∙ none in
      let in_rest : target basis lead.1 ≡ Some steps.found = sym (target-later basis lead.0 lead.1 now.rest lead.2 first_none) ∙ steps.found_is in
      let below : place m steps.found.term.monomial ≡ Above =
      subst (λ (l : List ℕ). place l steps.found.term.monomial ≡ Above) lead.3
      (found-below basis lead.0.monomial lead.1 steps.found opened.3 opened.2 in_rest) in
      let mono = found-mono basis now.rest steps.found poly steps.found_is in
      let it = good basis steps.found.term.monomial steps.found.element polys some
      (reducer-found basis now.rest steps.found poly steps.found_is) in
      let w = rest-made steps.found steps.step_is.divisor now.rest next.rest steps.step_is.rest_is in
      let s = scaled-made w.0 lead.0 lead.1 w.2 (ap (scaled w.0) (sym lead.2) ∙ w.5) in
      leads-multiples m (quotient steps.found.term.monomial (lead_monomial steps.found.element)) true w.1 steps.found.element w.2 next.rest
      (below-element m steps.found.term.monomial steps.found.element it.is_poly it.is_some mono it.divides below)
      (term_of s.0 lead.0.monomial, s.1, sym s.4, lead.3) w.6

  not-zero : (m : List ℕ) (now : Reduced) (answer : Result Reduced PolyRefusal) (made : Reduced) → Reduces basis now answer → answer ≡ Ok made
      → made.rest ≡ [] → IsPoly now.rest → Leads m now.rest → reducer basis m ≡ None → ⊥
  unfolding Leads
  not-zero m now answer made (irreducible none) e zero_rest poly lead nothing =
      let same = same_Ok answer now made refl e in
      let size : length (lead.0 ∷ lead.1) ≡ 0 = ap length (sym lead.2 ∙ ap (λ (r : Reduced). r.rest) same ∙ zero_rest) in absurd (omega arith)
  not-zero m now answer made (step {next = next} steps later) e zero_rest poly lead nothing =
      not-zero m next answer made later e zero_rest (poly-step now next steps poly) (leads-step m now next steps poly lead nothing) nothing
  not-zero m now answer made (overflow breaks) e zero_rest poly lead nothing = absurd (ok-err answer made Overflow e refl)

  -- ---- the same steps
  pub zero-stays : (more : List (List Term)) (now : Reduced) (answer : Result Reduced PolyRefusal) (made : Reduced) → Reduces basis now answer
      → answer ≡ Ok made → made.rest ≡ [] → IsPoly now.rest → Reduces (basis ++ more) now answer
  zero-stays more now answer made (irreducible none) e zero_rest poly =
      let same = same_Ok answer now made refl e in
      let rest : now.rest ≡ [] = ap (λ (r : Reduced). r.rest) same ∙ zero_rest in
      irreducible (ap (target (basis ++ more)) rest ∙ target-none (basis ++ more) [] refl)
  zero-stays more now answer made (step {next = next} steps later) e zero_rest poly =
      step (still now.rest refl poly) (zero-stays more next answer made later e zero_rest (poly-step now next steps poly))
    where
      still : (rest : List Term) → now.rest ≡ rest → IsPoly rest → Steps (basis ++ more) now next
      still [] is poly_rest =
          absurd (none-some steps.found (sym (ap (target basis) is ∙ target-none basis [] refl) ∙ steps.found_is))
      still (t ∷ ts) is poly_rest = at_reducer (reducer basis t.monomial) refl
        where
          at_reducer : (r : Option (List Term)) → reducer basis t.monomial ≡ r → Steps (basis ++ more) now next
          at_reducer None none =
              absurd (not-zero t.monomial now answer made (step steps later) e zero_rest (subst IsPoly (sym is) poly_rest)
              (leads_here t ts now.rest is) none)
          at_reducer (Some b) some_b =
              let found : target_of t b ≡ steps.found = same_Some (target_of t b) steps.found
              (sym (target-here basis t ts now.rest b is some_b) ∙ steps.found_is) in record {
                found = steps.found;
                found_is =
                    target-here (basis ++ more) t ts now.rest b is (reducer-stays basis more t.monomial b some_b)
                    ∙ ap (λ (f : Target). Some f) found;
                step_is = steps.step_is;
              }
  zero-stays more now answer made (overflow breaks) e zero_rest poly = absurd (ok-err answer made Overflow e refl)
