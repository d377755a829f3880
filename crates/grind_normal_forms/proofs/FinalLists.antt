-- What a move does to the factors, over whole numbers without bound.
use Rattle.std.proofs.Common.{◌≡◌, ◌≢◌, ◌⊎◌, inl, inr, ℕ, suc, Bool, true, false, not, List, [], ◌∷◌, ◌++◌, length, ℤ, pos, ◌*ℤ◌, Result, Ok, Err, arith, sym, ap, ◌∙◌, refl, subst}
use Rattle.std.proofs.lemmas.Bool.{cond-true, cond-false, false≢true}
use Rattle.std.proofs.lemmas.List.{append_assoc, append-nil}
use Rattle.grind_lemmas.proofs.Rings.{int_mul-comm}
use Rattle.grind_monomials.specs.declared.order.Place.TheVariants.{Above}
use Rattle.grind_monomials.specs.Order.{place}
use Rattle.grind_monomials.specs.Monomials.{IsMonomial, quotient}
use Rattle.grind_monomials.proofs.CountLemmas.{rises-quotient, product-quotient}
use Rattle.grind_polynomials.specs.declared.poly.Term.{Term}
use Rattle.grind_polynomials.specs.declared.poly.PolyRefusal.{PolyRefusal}
use Rattle.grind_polynomials.specs.Polynomials.{term_of, IsPoly, fit_or_refuse}
use Rattle.grind_polynomials.specs.Sums.{and_then, signed, with_more}
use Rattle.grind_normal_forms.specs.Pairs.{lead_monomial}
use Rattle.grind_normal_forms.specs.Reduction.{is_one, scaled}
use Rattle.grind_normal_forms.specs.Gathering.{Move, factor_moved, before, factors_moved, no_factors}
use Rattle.grind_normal_forms.specs.FinalFactors.{shares, left_by, shared_out, divides_term, EachFits, AllFit, ArePolys}
use Rattle.grind_polynomials.proofs.Fits.{ok-err, same_Ok}
use Rattle.grind_polynomials.proofs.Falling.{made_of}
use Rattle.grind_polynomials.proofs.Degrees.{refused}
use Rattle.grind_normal_forms.proofs.ReductionLemmas.{one-empty}
use Rattle.grind_normal_forms.proofs.GatherLemmas.{moved-nil, moved-cons}
use Rattle.grind_normal_forms.proofs.FactorLemmas.{before-made}
use Rattle.grind_normal_forms.proofs.FinalTerms.{IsPositive, fits-less, times, times-one, times-times, times-append, scaled-is, scaled-fits, scaled-refused, more-is, more-refused_at, IsOver, over-above, over-chain, over-times, over-append, fits-append, fits-left, fits-right}

-- ---- what goes to an element
shares-nil : (b : List Term) → shares b [] ≡ []
unfolding shares
shares-nil b = refl

left-nil : (b : List Term) → left_by b [] ≡ []
unfolding left_by
left-nil b = refl

shares-hit : (b : List Term) (t : Term) (ts : List Term) → divides_term b t ≡ true
    → shares b (t ∷ ts) ≡ term_of t.coefficient (quotient t.monomial (lead_monomial b)) ∷ shares b ts
unfolding shares
shares-hit b t ts is = cond-true (divides_term b t) _ _ is

shares-miss : (b : List Term) (t : Term) (ts : List Term) → divides_term b t ≡ false → shares b (t ∷ ts) ≡ shares b ts
unfolding shares
shares-miss b t ts is = cond-false (divides_term b t) _ _ is

left-hit : (b : List Term) (t : Term) (ts : List Term) → divides_term b t ≡ true → left_by b (t ∷ ts) ≡ left_by b ts
unfolding left_by
left-hit b t ts is = cond-true (divides_term b t) _ _ is

left-miss : (b : List Term) (t : Term) (ts : List Term) → divides_term b t ≡ false → left_by b (t ∷ ts) ≡ t ∷ left_by b ts
unfolding left_by
left-miss b t ts is = cond-false (divides_term b t) _ _ is

-- ---- factors, and terms that are still shared out
abbrev pub joined : List (List Term) → List (List Term) → List Term → List (List Term)
joined [] qs terms = []
joined (b ∷ bs) [] terms = []
joined (b ∷ bs) (q ∷ qs) terms = (q ++ shares b terms) ∷ joined bs qs (left_by b terms)

abbrev pub times_all : ℤ → List (List Term) → List (List Term)
times_all u [] = []
times_all u (q ∷ qs) = times u q ∷ times_all u qs

pub joined-none : (basis qs : List (List Term)) → length qs ≡ length basis → joined basis (times_all (pos 1) qs) [] ≡ qs
joined-none [] [] size = refl
joined-none [] (q ∷ qs) size = absurd (omega arith)
joined-none (b ∷ bs) [] size = absurd (omega arith)
joined-none (b ∷ bs) (q ∷ qs) size =
    let here : times (pos 1) q ++ shares b [] ≡ q =
    ap (λ (l : List Term). times (pos 1) q ++ l) (shares-nil b) ∙ append-nil (times (pos 1) q) ∙ times-one q in
    let there : joined bs (times_all (pos 1) qs) (left_by b []) ≡ qs =
    ap (joined bs (times_all (pos 1) qs)) (left-nil b) ∙ joined-none bs qs (omega arith) in λ i. here i ∷ there i

pub joined-start : (basis : List (List Term)) (u : ℤ) (terms : List Term)
    → joined basis (times_all u (no_factors basis)) terms ≡ shared_out basis terms
joined-start [] u terms = refl
joined-start (b ∷ bs) u terms = λ i. shares b terms ∷ joined-start bs u (left_by b terms) i

-- each factor is so
abbrev pub AreOver : List ℕ → List (List Term) → List (List Term) → Type 0
AreOver m [] [] = Unit {0}
AreOver m [] (q ∷ qs) = ⊥
AreOver m (b ∷ bs) [] = ⊥
AreOver m (b ∷ bs) (q ∷ qs) = IsOver (lead_monomial b) m q × AreOver m bs qs

pub over-none : (m : List ℕ) (basis : List (List Term)) → AreOver m basis (no_factors basis)
over-none m [] = tt
over-none m (b ∷ bs) = (tt, over-none m bs)

pub none-fits : (basis : List (List Term)) → AllFit (no_factors basis)
none-fits [] = tt
none-fits (b ∷ bs) = (tt, none-fits bs)

lead-mono : (b : List Term) → IsPoly b → IsMonomial (lead_monomial b)
lead-mono [] poly = tt
lead-mono (t ∷ ts) poly = poly.0

-- ---- a move
abbrev pub with_term : Bool → Term → List Term → List Term
with_term true t terms = t ∷ terms
with_term false t terms = terms

-- what the move adds to the factor of an element
abbrev extra_of : Move → Bool → List Term → List Term
extra_of move true b = term_of (signed move.minus move.weight) (quotient move.monomial (lead_monomial b)) ∷ []
extra_of move false b = []

before-refused : (q : Result (List Term) PolyRefusal) (rest : Result (List (List Term)) PolyRefusal) (e : PolyRefusal)
    → before q rest ≡ Err e → (q ≡ Err e) ⊎ (rest ≡ Err e)
before-refused q rest e h = elim (refused (λ first. and_then (λ all. Ok (first ∷ all)) rest) q e h) [
  | inl is ↦ inl is
  | inr w ↦ inr (front-refused w.0 w.2)
]
  where
    front-refused : (first : List Term) → and_then (λ all. Ok (first ∷ all)) rest ≡ Err e → rest ≡ Err e
    front-refused first over = elim (refused (λ all. Ok (first ∷ all)) rest e over) [
      | inl is ↦ is
      | inr w ↦ absurd (ok-err (Ok (first ∷ w.0)) (first ∷ w.0) e refl w.2)
    ]

module _ (move : Move) (mono : IsMonomial move.monomial) (some : signed move.minus move.weight ≢ pos 0) (u : ℤ) where
  -- how often the monomial is taken in the end
  abbrev pub last_term : Term
  last_term = term_of (u *ℤ signed move.minus move.weight) move.monomial

  record OneMoved (hit : Bool) (b q made : List Term) : Type 0 where
    is : made ≡ times move.unit q ++ extra_of move hit b
    fits : EachFits made

  one-moved : (hit : Bool) (b q made : List Term) → IsPoly b → (hit ≡ true → quotient (lead_monomial b) move.monomial ≡ [])
      → IsOver (lead_monomial b) move.monomial q → factor_moved move hit b q ≡ Ok made → OneMoved hit b q made
  one-moved false b q made poly divides over e = record {
    is = scaled-is move.unit q made e ∙ sym (append-nil (times move.unit q));
    fits = scaled-fits move.unit q made e;
  }
  one-moved true b q made poly divides over e =
      let lead = lead_monomial b in
      let further = quotient move.monomial lead in
      let w = signed move.minus move.weight in
      let p = made_of (with_more w further) (scaled move.unit q) made e in
      let p_is : p.0 ≡ times move.unit q = scaled-is move.unit q p.0 p.1 in
      let p_over = subst (IsOver lead move.monomial) (sym p_is) (over-times lead move.monomial move.unit q over) in
      let r = more-is w further p.0 made some (over-above lead move.monomial p.0 (lead-mono b poly) mono (divides refl) p_over) p.2 in record {
        is = r.0 ∙ ap (λ (l : List Term). l ++ term_of w further ∷ []) p_is;
        fits = subst EachFits (sym r.0) (fits-append p.0 (term_of w further ∷ []) (scaled-fits move.unit q p.0 p.1) (r.1, tt));
      }

  one-refused : (hit : Bool) (b q rest : List Term) (e : PolyRefusal) → IsPositive u → IsPoly b
      → (hit ≡ true → quotient (lead_monomial b) move.monomial ≡ []) → IsOver (lead_monomial b) move.monomial q
      → factor_moved move hit b q ≡ Err e → EachFits (times (move.unit *ℤ u) q ++ (times u (extra_of move hit b) ++ rest)) → ⊥
  one-refused false b q rest e positive poly divides over h fits =
      scaled-refused move.unit u q e positive h (fits-left (times (move.unit *ℤ u) q) rest fits)
  one-refused true b q rest e positive poly divides over h fits =
      let lead = lead_monomial b in
      let further = quotient move.monomial lead in
      let w = signed move.minus move.weight in
      elim (refused (with_more w further) (scaled move.unit q) e h) [
        | inl first ↦ scaled-refused move.unit u q e positive first
            (fits-left (times (move.unit *ℤ u) q) (term_of (u *ℤ w) further ∷ rest) fits)
        | inr p ↦
            let p_over = subst (IsOver lead move.monomial) (sym (scaled-is move.unit q p.0 p.1)) (over-times lead move.monomial move.unit q over) in
            let over_last = more-refused_at w further p.0 e (over-above lead move.monomial p.0 (lead-mono b poly) mono (divides refl) p_over) p.2 in
            let last = fits-right (times (move.unit *ℤ u) q) (term_of (u *ℤ w) further ∷ rest) fits in
            ok-err (fit_or_refuse w) w e (fits-less w u positive (subst (λ (z : ℤ). fit_or_refuse z ≡ Ok z) (int_mul-comm u w) last.0)) over_last
      ]

  extra-over : (hit : Bool) (b : List Term) (n : List ℕ) → IsPoly b → (hit ≡ true → quotient (lead_monomial b) move.monomial ≡ [])
      → place move.monomial n ≡ Above → IsOver (lead_monomial b) n (extra_of move hit b)
  extra-over false b n poly divides lower = tt
  extra-over true b n poly divides lower = (
    (
      rises-quotient move.monomial (lead_monomial b) 0 mono,
      ap (λ (m : List ℕ). place m n) (product-quotient (lead_monomial b) move.monomial (lead-mono b poly) mono (divides refl)) ∙ lower,
    ),
    tt,
  )

  pub record AllMoved (free : Bool) (basis qs more : List (List Term)) (terms : List Term) : Type 0 where
    pub is : joined basis (times_all u more) terms ≡ joined basis (times_all (move.unit *ℤ u) qs) (with_term free last_term terms)
    pub fits : AllFit more
    pub size : length more ≡ length basis
    pub over : (n : List ℕ) → place move.monomial n ≡ Above → AreOver n basis more

  -- what is shared out to the element, and what is left
  record IsShared (free hit left : Bool) (b : List Term) (terms : List Term) : Type 0 where
    here : shares b (with_term free last_term terms) ≡ times u (extra_of move hit b) ++ shares b terms
    rest : left_by b (with_term free last_term terms) ≡ with_term left last_term (left_by b terms)
    divides : hit ≡ true → quotient (lead_monomial b) move.monomial ≡ []

  cons-moved : (free hit left : Bool) (b q : List Term) (bs qs more : List (List Term)) (terms : List Term) → IsShared free hit left b terms
      → IsPoly b → IsOver (lead_monomial b) move.monomial q → before (factor_moved move hit b q) (factors_moved move left bs qs) ≡ Ok more
      → ((others : List (List Term)) → factors_moved move left bs qs ≡ Ok others → AllMoved left bs qs others (left_by b terms))
      → AllMoved free (b ∷ bs) (q ∷ qs) more terms
  cons-moved free hit left b q bs qs more terms shared poly over e later =
      let w = before-made (factor_moved move hit b q) (factors_moved move left bs qs) more e in
      let one = one-moved hit b q w.0 poly shared.divides over w.2 in
      let rest = later w.1 w.3 in
      let one_is = one.is in
      let extra = extra_of move hit b in
      let first : times u w.0 ++ shares b terms ≡ times (move.unit *ℤ u) q ++ shares b (with_term free last_term terms) =
      ap (λ (l : List Term). times u l ++ shares b terms) one_is
      ∙ ap (λ (l : List Term). l ++ shares b terms) (times-append u (times move.unit q) extra)
      ∙ append_assoc (times u (times move.unit q)) (times u extra) (shares b terms)
      ∙ (λ i. times-times u move.unit q i ++ sym shared.here i) in
      let others : joined bs (times_all u w.1) (left_by b terms)
      ≡ joined bs (times_all (move.unit *ℤ u) qs) (left_by b (with_term free last_term terms)) =
      rest.is ∙ ap (joined bs (times_all (move.unit *ℤ u) qs)) (sym shared.rest) in
      let rest_size = rest.size in
      let long : length more ≡ suc (length w.1) = ap length (sym w.4) in record {
        is = ap (λ (l : List (List Term)). joined (b ∷ bs) (times_all u l) terms) (sym w.4) ∙ (λ i. first i ∷ others i);
        fits = subst AllFit w.4 (one.fits, rest.fits);
        size = long ∙ ap suc rest_size;
        over = λ n lower. subst (AreOver n (b ∷ bs)) w.4 (
          subst (IsOver (lead_monomial b) n) (sym one_is) (over-append (lead_monomial b) n (times move.unit q) extra
              (over-times (lead_monomial b) n move.unit q (over-chain (lead_monomial b) move.monomial n q lower over))
              (extra-over hit b n poly shared.divides lower)),
          rest.over n lower,
        );
      }

  shared-closed : (b : List Term) (terms : List Term) → IsShared false false false b terms
  shared-closed b terms = record { here = refl; rest = refl; divides = λ e. absurd (false≢true e) }

  shared-hit : (b : List Term) (terms : List Term) → is_one (quotient (lead_monomial b) move.monomial) ≡ true → IsShared true true false b terms
  shared-hit b terms e = record {
    here = shares-hit b last_term terms e;
    rest = left-hit b last_term terms e;
    divides = λ is. one-empty (quotient (lead_monomial b) move.monomial) e;
  }

  shared-miss : (b : List Term) (terms : List Term) → is_one (quotient (lead_monomial b) move.monomial) ≡ false → IsShared true false true b terms
  shared-miss b terms e = record {
    here = shares-miss b last_term terms e;
    rest = left-miss b last_term terms e;
    divides = λ is. absurd (false≢true is);
  }

  open-cons : (t : Bool) (b q : List Term) (bs qs : List (List Term)) (answer : Result (List (List Term)) PolyRefusal)
      → is_one (quotient (lead_monomial b) move.monomial) ≡ t → factors_moved move true (b ∷ bs) (q ∷ qs) ≡ answer
      → before (factor_moved move t b q) (factors_moved move (not t) bs qs) ≡ answer
  open-cons t b q bs qs answer is e =
      ap (λ (h : Bool). before (factor_moved move h b q) (factors_moved move (not h) bs qs)) (sym is)
      ∙ sym (moved-cons move true b q bs qs) ∙ e

  pub all-moved : (free : Bool) (basis qs more : List (List Term)) (terms : List Term) → ArePolys basis → AreOver move.monomial basis qs
      → factors_moved move free basis qs ≡ Ok more → AllMoved free basis qs more terms
  all-moved free [] [] more terms polys over e =
      let none : [] ≡ more = same_Ok (factors_moved move free [] []) [] more (moved-nil move free []) e in record {
        is = refl;
        fits = subst AllFit none tt;
        size = ap length (sym none);
        over = λ n lower. subst (AreOver n []) none tt;
      }
  all-moved free [] (q ∷ qs) more terms polys over e = absurd over
  all-moved free (b ∷ bs) [] more terms polys over e = absurd over
  all-moved false (b ∷ bs) (q ∷ qs) more terms polys over e =
      cons-moved false false false b q bs qs more terms (shared-closed b terms) polys.0 over.0 (sym (moved-cons move false b q bs qs) ∙ e)
      (λ others is. all-moved false bs qs others (left_by b terms) polys.1 over.1 is)
  all-moved true (b ∷ bs) (q ∷ qs) more terms polys over e =
      at_test (is_one (quotient (lead_monomial b) move.monomial)) refl
      (λ others is. all-moved false bs qs others (left_by b terms) polys.1 over.1 is)
      (λ others is. all-moved true bs qs others (left_by b terms) polys.1 over.1 is)
    where
      at_test : (t : Bool) → is_one (quotient (lead_monomial b) move.monomial) ≡ t
          → ((others : List (List Term)) → factors_moved move false bs qs ≡ Ok others → AllMoved false bs qs others (left_by b terms))
          → ((others : List (List Term)) → factors_moved move true bs qs ≡ Ok others → AllMoved true bs qs others (left_by b terms))
          → AllMoved true (b ∷ bs) (q ∷ qs) more terms
      at_test true is closes opens =
          cons-moved true true false b q bs qs more terms (shared-hit b terms is) polys.0 over.0 (open-cons true b q bs qs (Ok more) is e) closes
      at_test false is closes opens =
          cons-moved true false true b q bs qs more terms (shared-miss b terms is) polys.0 over.0 (open-cons false b q bs qs (Ok more) is e) opens

  cons-refused : (free hit left : Bool) (b q : List Term) (bs qs : List (List Term)) (terms : List Term) (e : PolyRefusal) → IsPositive u
      → IsShared free hit left b terms → IsPoly b → IsOver (lead_monomial b) move.monomial q
      → before (factor_moved move hit b q) (factors_moved move left bs qs) ≡ Err e
      → (factors_moved move left bs qs ≡ Err e → AllFit (joined bs (times_all (move.unit *ℤ u) qs) (with_term left last_term (left_by b terms))) → ⊥)
      → AllFit (joined (b ∷ bs) (times_all (move.unit *ℤ u) (q ∷ qs)) (with_term free last_term terms)) → ⊥
  cons-refused free hit left b q bs qs terms e positive shared poly over h later fits =
      elim (before-refused (factor_moved move hit b q) (factors_moved move left bs qs) e h) [
        | inl first ↦ one-refused hit b q (shares b terms) e positive poly shared.divides over first
            (subst (λ (l : List Term). EachFits (times (move.unit *ℤ u) q ++ l)) shared.here fits.0)
        | inr rest ↦ later rest (subst (λ (l : List Term). AllFit (joined bs (times_all (move.unit *ℤ u) qs) l)) shared.rest fits.1)
      ]

  pub all-refused : (free : Bool) (basis qs : List (List Term)) (terms : List Term) (e : PolyRefusal) → IsPositive u → ArePolys basis
      → AreOver move.monomial basis qs → factors_moved move free basis qs ≡ Err e
      → AllFit (joined basis (times_all (move.unit *ℤ u) qs) (with_term free last_term terms)) → ⊥
  all-refused free [] qs terms e positive polys over h fits = ok-err (factors_moved move free [] qs) [] e (moved-nil move free qs) h
  all-refused free (b ∷ bs) [] terms e positive polys over h fits = absurd over
  all-refused false (b ∷ bs) (q ∷ qs) terms e positive polys over h fits =
      cons-refused false false false b q bs qs terms e positive (shared-closed b terms) polys.0 over.0 (sym (moved-cons move false b q bs qs) ∙ h)
      (λ rest all. all-refused false bs qs (left_by b terms) e positive polys.1 over.1 rest all) fits
  all-refused true (b ∷ bs) (q ∷ qs) terms e positive polys over h fits =
      at_test (is_one (quotient (lead_monomial b) move.monomial)) refl
      (λ rest all. all-refused false bs qs (left_by b terms) e positive polys.1 over.1 rest all)
      (λ rest all. all-refused true bs qs (left_by b terms) e positive polys.1 over.1 rest all)
    where
      at_test : (t : Bool) → is_one (quotient (lead_monomial b) move.monomial) ≡ t
          → (factors_moved move false bs qs ≡ Err e → AllFit (joined bs (times_all (move.unit *ℤ u) qs) (left_by b terms)) → ⊥)
          → (factors_moved move true bs qs ≡ Err e → AllFit (joined bs (times_all (move.unit *ℤ u) qs) (last_term ∷ left_by b terms)) → ⊥) → ⊥
      at_test true is closes opens =
          cons-refused true true false b q bs qs terms e positive (shared-hit b terms is) polys.0 over.0 (open-cons true b q bs qs (Err e) is h) closes fits
      at_test false is closes opens =
          cons-refused true false true b q bs qs terms e positive (shared-miss b terms is) polys.0 over.0 (open-cons false b q bs qs (Err e) is h) opens fits

-- ---- no element
pub no-polys : (basis : List (List Term)) → length basis ≡ 0 → ArePolys basis
no-polys [] e = tt
no-polys (b ∷ bs) e = absurd (omega arith)
