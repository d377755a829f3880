-- The factors that are gathered are those over whole numbers without bound.
use Rattle.std.proofs.Common.{◌≡◌, ◌≢◌, inl, inr, ℕ, zero, suc, ◌/◌, Bool, true, false, List, [], ◌∷◌, length, All, ℤ, pos, ◌*ℤ◌, unsigned_abs, Option, Some, None, Result, Ok, Err, arith, sym, ap, ◌∙◌, refl, subst}
use Rattle.std.specs.Int.{IsGcd}
use Rattle.std.proofs.lemmas.Bool.{cond-true, cond-false}
use Rattle.std.proofs.lemmas.List.Elements.{All-head, All-tail}
use Rattle.std.proofs.lemmas.Nat.Gcd.{same_from_IsGcd}
use Rattle.std.proofs.lemmas.Option.{none-some, same_Some}
use borrow.Author.Differences.{ints}
use lib.IntN.{*ℤ-zero}
use Rattle.grind_lemmas.proofs.Rings.{int_mul-comm}
use Rattle.grind_lemmas.proofs.Orders.{int_mul-zero_out}
use Rattle.grind_monomials.specs.declared.order.Place.TheVariants.{Above}
use Rattle.grind_monomials.specs.Order.{place}
use Rattle.grind_monomials.specs.Monomials.{IsMonomial, quotient}
use Rattle.grind_polynomials.specs.declared.poly.Term.{Term}
use Rattle.grind_polynomials.specs.declared.poly.PolyRefusal.{PolyRefusal}
use Rattle.grind_polynomials.specs.declared.poly.PolyRefusal.TheVariants.{Overflow}
use Rattle.grind_normal_forms.specs.declared.reduction.Reduced.{Reduced}
use Rattle.grind_normal_forms.specs.declared.factors.Factors.{Factors}
use Rattle.grind_polynomials.specs.Polynomials.{IsPoly, fit_or_refuse}
use Rattle.grind_polynomials.specs.Sums.{signed}
use Rattle.grind_normal_forms.specs.Pairs.{divided_by, lead_coefficient, lead_monomial}
use Rattle.grind_normal_forms.specs.Reduction.{reduced_of, is_one, is_negative, reducer, Target, target_of, target, unit, weight, Steps, Reduces, irreducible, step, overflow, IsContent}
use Rattle.grind_normal_forms.specs.Gathering.{Move, move_of, factors_moved, no_factors, Gathers, ended, moved, spilt, has_terms, factors_by, IsFactors, Spills}
use Rattle.grind_normal_forms.specs.FinalFactors.{MovesBy, Moves, none_left, one_more, units, reduced_terms, shared_out, IsFinal, AllFit, FactorNumbersFit, Exceeds, FactorsOverflow, ArePolys}
use Rattle.grind_polynomials.proofs.Fits.{ok-err, same_Ok}
use Rattle.grind_normal_forms.proofs.Divisors.{weight-times_lead}
use Rattle.grind_normal_forms.proofs.ReductionLemmas.{reducer-none, reducer-cons, target-none, target-here, target-later, unit-nonzero, poly-rest}
use Rattle.grind_normal_forms.proofs.Descent.{found-mono, reducer-found, next-lower}
use Rattle.grind_normal_forms.proofs.ContentLemmas.{same-content}
use Rattle.grind_normal_forms.proofs.NormalLemmas.{step-one, reduces-one}
use Rattle.grind_normal_forms.proofs.FinalTerms.{IsPositive, positive-product}
use Rattle.grind_normal_forms.proofs.FinalLists.{joined, times_all, joined-none, joined-start, AreOver, over-none, none-fits, all-moved, all-refused}

-- ---- what is found
reducer-poly : (basis : List (List Term)) (m : List ℕ) (e : List Term) → ArePolys basis → reducer basis m ≡ Some e → IsPoly e
reducer-poly [] m e polys is = absurd (none-some e (sym (reducer-none [] m refl) ∙ is))
reducer-poly (b ∷ bs) m e polys is = at_test (is_one (quotient (lead_monomial b) m)) refl (λ later. reducer-poly bs m e polys.1 later)
  where
    at_test : (t : Bool) → is_one (quotient (lead_monomial b) m) ≡ t → (reducer bs m ≡ Some e → IsPoly e) → IsPoly e
    at_test true hit later =
        subst IsPoly (same_Some b e (sym (reducer-cons b bs m ∙ cond-true (is_one (quotient (lead_monomial b) m)) _ _ hit) ∙ is)) polys.0
    at_test false miss later =
        later (sym (reducer-cons b bs m ∙ cond-false (is_one (quotient (lead_monomial b) m)) _ _ miss) ∙ is)

reducer-some : (basis : List (List Term)) (m : List ℕ) (e : List Term) → All (λ b. b ≢ []) basis → reducer basis m ≡ Some e → e ≢ []
reducer-some [] m e some is = absurd (none-some e (sym (reducer-none [] m refl) ∙ is))
reducer-some (b ∷ bs) m e some is =
    at_test (is_one (quotient (lead_monomial b) m)) refl
    (λ later. reducer-some bs m e (All-tail (λ (x : List Term). x ≢ []) b bs some) later)
  where
    at_test : (t : Bool) → is_one (quotient (lead_monomial b) m) ≡ t → (reducer bs m ≡ Some e → e ≢ []) → e ≢ []
    at_test true hit later =
        subst (λ (x : List Term). x ≢ [])
        (same_Some b e (sym (reducer-cons b bs m ∙ cond-true (is_one (quotient (lead_monomial b) m)) _ _ hit) ∙ is))
        (All-head (λ (x : List Term). x ≢ []) b bs some)
    at_test false miss later =
        later (sym (reducer-cons b bs m ∙ cond-false (is_one (quotient (lead_monomial b) m)) _ _ miss) ∙ is)

found-coefficient : (basis : List (List Term)) (terms : List Term) (found : Target) → IsPoly terms → target basis terms ≡ Some found
    → found.term.coefficient ≢ pos 0
found-coefficient basis [] found poly e = absurd (none-some found (sym (target-none basis [] refl) ∙ e))
found-coefficient basis (t ∷ ts) found poly e =
    at_reducer (reducer basis t.monomial) refl (λ later. found-coefficient basis ts found poly.3 later)
  where
    at_reducer : (r : Option (List Term)) → reducer basis t.monomial ≡ r
        → (target basis ts ≡ Some found → found.term.coefficient ≢ pos 0) → found.term.coefficient ≢ pos 0
    at_reducer None none later = later (sym (target-later basis t ts (t ∷ ts) refl none) ∙ e)
    at_reducer (Some b) some later =
        subst (λ (f : Target). f.term.coefficient ≢ pos 0)
        (same_Some (target_of t b) found (sym (target-here basis t ts (t ∷ ts) b refl some) ∙ e)) poly.1

-- ---- the numbers of a step
weight-nonzero : (a c : ℤ) (h : ℕ) → IsGcd (unsigned_abs a) (unsigned_abs c) h → pos (unsigned_abs a / h) ≢ pos 0 → c ≢ pos 0
    → signed (is_negative a) (divided_by h c) ≢ pos 0
weight-nonzero a c h gcd unit_some some none =
    some (int_mul-zero_out (pos (unsigned_abs a / h)) c
    (sym (weight-times_lead a c h gcd.0 gcd.1) ∙ ap (λ (z : ℤ). z *ℤ a) none ∙ int_mul-comm (pos 0) a ∙ *ℤ-zero a) unit_some)

signed-nonzero : (minus : Bool) (a : ℤ) → a ≢ pos 0 → signed minus a ≢ pos 0
signed-nonzero false a some none = some none
signed-nonzero true a some none = some (turned a none)
  where
    turned : (a : ℤ) → signed true a ≡ pos 0 → a ≡ pos 0
    turned a e = omega (arith, ints)

natural-positive : (n : ℕ) → pos n ≢ pos 0 → IsPositive (pos n)
natural-positive zero some = absurd (some refl)
natural-positive (suc n) some = (n, refl)

-- ---- the moves
move-one : (minus : Bool) (basis : List (List Term)) (now next other : Reduced) (one : Steps basis now next) (two : Steps basis now other)
    → move_of minus one.found one.step_is.divisor ≡ move_of minus two.found two.step_is.divisor
move-one minus basis now next other one two =
    let found : one.found ≡ two.found = same_Some one.found two.found (sym one.found_is ∙ two.found_is) in
    let divisor : one.step_is.divisor ≡ two.step_is.divisor = same_from_IsGcd _ _ one.step_is.divisor two.step_is.divisor one.step_is.divisor_is
    (subst (λ (f : Target). IsGcd (unsigned_abs (lead_coefficient f.element)) (unsigned_abs f.term.coefficient) two.step_is.divisor) (sym found)
    two.step_is.divisor_is) in
    λ i. move_of minus (found i) (divisor i)

moves-one : (basis : List (List Term)) (minus : Bool) (now : Reduced) (one other : List Move) → Moves basis minus now one
    → Moves basis minus now other → one ≡ other
moves-one basis minus now one other (none_left none) (none_left also) = refl
moves-one basis minus now one other (none_left none) (one_more by later) = absurd (none-some by.steps.found (sym none ∙ by.steps.found_is))
moves-one basis minus now one other (one_more by later) (none_left none) = absurd (none-some by.steps.found (sym none ∙ by.steps.found_is))
moves-one basis minus now one other (one_more {next = next} {move = move} {later = rest} by later)
    (one_more {next = second} {move = as_well} {later = others} by_too last) =
    let same : move ≡ as_well = by.move_is ∙ move-one minus basis now next second by.steps by_too.steps ∙ sym by_too.move_is in
    let further : rest ≡ others = moves-one basis minus next rest others later
    (subst (λ (r : Reduced). Moves basis minus r others) (sym (step-one basis now next second by.steps by_too.steps)) last) in
    λ i. same i ∷ further i

moves-made : (basis : List (List Term)) (minus : Bool) (now : Reduced) (answer : Result Reduced PolyRefusal) (made : Reduced)
    → Reduces basis now answer → answer ≡ Ok made → (moves : List Move) × Moves basis minus now moves
moves-made basis minus now answer made (irreducible none) e = ([], none_left none)
moves-made basis minus now answer made (step {next = next} steps later) e =
    let rest = moves-made basis minus next answer made later e in
    let by : MovesBy minus basis now (move_of minus steps.found steps.step_is.divisor) next = record { steps = steps; move_is = refl } in
    (move_of minus steps.found steps.step_is.divisor ∷ rest.0, one_more by rest.1)
moves-made basis minus now answer made (overflow breaks) e = absurd (ok-err answer made Overflow e refl)

-- ---- one reduction has one list of factors

pub final-one : (basis : List (List Term)) (p : List Term) (one other : Factors) → IsFinal basis p one → IsFinal basis p other → one ≡ other
final-one basis p one other first second =
    let made : second.made ≡ first.made = same_Ok (Ok second.made) second.made first.made refl
    (reduces-one basis (reduced_of (pos 1) p) (Ok second.made) (Ok first.made) second.made_is first.made_is) in
    let content : second.content ≡ first.content = same-content first.made second.content first.content
    (subst (λ (r : Reduced). IsContent r second.content) made second.content_is) first.content_is in
    let moves : second.moves ≡ first.moves = moves-one basis (has_terms first.made.rest) (reduced_of (pos 1) p) second.moves first.moves
    (subst (λ (r : Reduced). Moves basis (has_terms r.rest) (reduced_of (pos 1) p) second.moves) made second.moves_are) first.moves_are in
    first.factors_are
    ∙ sym (λ i. factors_by (made i) (content i) (shared_out basis (reduced_terms (moves i))) (has_terms (made i).rest))
    ∙ sym second.factors_are

-- where there are factors that fit, nothing overflows
pub none-overflows : (basis : List (List Term)) (p : List Term) (factors : Factors) → IsFinal basis p factors → FactorNumbersFit factors
    → FactorsOverflow basis p → ⊥
none-overflows basis p factors final fits overflows = elim overflows [
  | inl breaks ↦ ok-err (Ok final.made) final.made Overflow refl
      (reduces-one basis (reduced_of (pos 1) p) (Ok final.made) (Err Overflow) final.made_is breaks)
  | inr exceeds ↦ exceeds.over (subst FactorNumbersFit (final-one basis p factors exceeds.factors final exceeds.final_is) fits)
]

-- ---- along the steps
module _ (basis : List (List Term)) (polys : ArePolys basis) (some : All (λ b. b ≢ []) basis) where
  record IsStep (now next : Reduced) (found : Target) (h : ℕ) : Type 0 where
    mono : IsMonomial found.term.monomial
    positive : IsPositive (unit found h)
    weighs : (minus : Bool) → signed minus (weight found h) ≢ pos 0
    poly : IsPoly next.rest
    lower : (other : Target) → target basis next.rest ≡ Some other → place found.term.monomial other.term.monomial ≡ Above

  is-step : (now next : Reduced) (steps : Steps basis now next) → IsPoly now.rest → IsStep now next steps.found steps.step_is.divisor
  is-step now next steps poly =
      let found = steps.found in
      let by = steps.step_is in
      let reduces = reducer-found basis now.rest found poly steps.found_is in
      let element = reducer-poly basis found.term.monomial found.element polys reduces in
      let there = reducer-some basis found.term.monomial found.element some reduces in
      let mono = found-mono basis now.rest found poly steps.found_is in
      let unit_some = unit-nonzero found by.divisor by.divisor_is element there in record {
        mono = mono;
        positive = natural-positive (unsigned_abs (lead_coefficient found.element) / by.divisor) unit_some;
        weighs = λ minus. signed-nonzero minus (weight found by.divisor)
            (weight-nonzero (lead_coefficient found.element) found.term.coefficient by.divisor by.divisor_is unit_some
            (found-coefficient basis now.rest found poly steps.found_is));
        poly = poly-rest found by.divisor now.rest next.rest by.divisor_is element there mono poly by.rest_is;
        lower = λ other e. next-lower basis found other by.divisor now.rest next.rest by.divisor_is steps.found_is poly element there by.rest_is e;
      }

  units-positive : (minus : Bool) (now : Reduced) (moves : List Move) → Moves basis minus now moves → IsPoly now.rest → IsPositive (units moves)
  units-positive minus now moves (none_left none) poly = (0, refl)
  units-positive minus now moves (one_more {next = next} {move = move} {later = later} by rest) poly =
      let facts = is-step now next by.steps poly in
      let further = units-positive minus next later rest facts.poly in
      let first = facts.positive in
      positive-product move.unit (units later) (first.0, ap (λ (m : Move). m.unit) by.move_is ∙ first.1) further

  -- what stands on the way
  record IsReady (now : Reduced) (qs : List (List Term)) : Type 0 where
    poly : IsPoly now.rest
    over : (found : Target) → target basis now.rest ≡ Some found → AreOver found.term.monomial basis qs
    fits : AllFit qs
    size : length qs ≡ length basis

  -- the answer is these factors, and they fit; or they don't
  abbrev Answers : Result (List (List Term)) PolyRefusal → List (List Term) → Type 0
  Answers (Ok gathered) all = (gathered ≡ all) × AllFit all
  Answers (Err e) all = AllFit all → ⊥

  module _ (minus : Bool) (now next : Reduced) (steps : Steps basis now next) (move : Move)
      (move_is : move ≡ move_of minus steps.found steps.step_is.divisor) (qs : List (List Term)) (ready : IsReady now qs) where
    move-mono : IsMonomial move.monomial
    move-mono = subst (λ (m : Move). IsMonomial m.monomial) (sym move_is) (is-step now next steps ready.poly).mono

    move-weighs : signed move.minus move.weight ≢ pos 0
    move-weighs = subst (λ (m : Move). signed m.minus m.weight ≢ pos 0) (sym move_is) ((is-step now next steps ready.poly).weighs minus)

    move-over : AreOver move.monomial basis qs
    move-over = subst (λ (m : Move). AreOver m.monomial basis qs) (sym move_is) (ready.over steps.found steps.found_is)

    step-moved : (more : List (List Term)) (later : List Move) → factors_moved (move_of minus steps.found steps.step_is.divisor) true basis qs ≡ Ok more
        → (joined basis (times_all (units later) more) (reduced_terms later) ≡ joined basis (times_all (units (move ∷ later)) qs) (reduced_terms (move ∷ later)))
        × IsReady next more
    step-moved more later e =
        let facts = is-step now next steps ready.poly in
        let made = all-moved move move-mono move-weighs (units later) true basis qs more (reduced_terms later) polys move-over
        (ap (λ (m : Move). factors_moved m true basis qs) move_is ∙ e) in (
          made.is,
          record {
            poly = facts.poly;
            over = λ other is. made.over other.term.monomial
                (ap (λ (m : Move). place m.monomial other.term.monomial) move_is ∙ facts.lower other is);
            fits = made.fits;
            size = made.size;
          },
        )

    step-refused : (later : List Move) (e : PolyRefusal) → IsPositive (units later)
        → factors_moved (move_of minus steps.found steps.step_is.divisor) true basis qs ≡ Err e
        → AllFit (joined basis (times_all (units (move ∷ later)) qs) (reduced_terms (move ∷ later))) → ⊥
    step-refused later e positive h fits =
        all-refused move move-mono move-weighs (units later) true basis qs (reduced_terms later) e positive polys move-over
        (ap (λ (m : Move). factors_moved m true basis qs) move_is ∙ h) fits

  gathers-final : (minus : Bool) (now : Reduced) (qs : List (List Term)) (answer : Result (List (List Term)) PolyRefusal) (moves : List Move)
      → Gathers basis minus now qs answer → Moves basis minus now moves → IsReady now qs
      → Answers answer (joined basis (times_all (units moves) qs) (reduced_terms moves))
  gathers-final minus now qs answer moves (ended none) (none_left also) ready =
      let same = joined-none basis qs ready.size in (sym same, subst AllFit (sym same) ready.fits)
  gathers-final minus now qs answer moves (ended none) (one_more by later) ready =
      absurd (none-some by.steps.found (sym none ∙ by.steps.found_is))
  gathers-final minus now qs answer moves (moved with_steps later) (none_left none) ready =
      absurd (none-some with_steps.steps.found (sym none ∙ with_steps.steps.found_is))
  gathers-final minus now qs answer moves (moved {next = next} {more = more} with_steps later)
      (one_more {next = second} {move = move} {later = rest} by others) ready =
      let move_is : move ≡ move_of minus with_steps.steps.found with_steps.steps.step_is.divisor =
      by.move_is ∙ move-one minus basis now second next by.steps with_steps.steps in
      let made = step-moved minus now next with_steps.steps move move_is qs ready more rest with_steps.more_is in
      let moves_then : Moves basis minus next rest =
      subst (λ (r : Reduced). Moves basis minus r rest) (sym (step-one basis now next second with_steps.steps by.steps)) others in
      subst (Answers answer) made.0 (gathers-final minus next more answer rest later moves_then made.1)
  gathers-final minus now qs answer moves (spilt spills) (none_left none) ready =
      absurd (none-some spills.steps.found (sym none ∙ spills.steps.found_is))
  gathers-final minus now qs answer moves (spilt spills) (one_more {next = second} {move = move} {later = rest} by others) ready =
      let move_is : move ≡ move_of minus spills.steps.found spills.steps.step_is.divisor =
      by.move_is ∙ move-one minus basis now second spills.next by.steps spills.steps in
      let positive = units-positive minus second rest others (is-step now second by.steps ready.poly).poly in
      λ fits. step-refused minus now spills.next spills.steps move move_is qs ready rest Overflow positive spills.refused fits

  ready-start : (p : List Term) → IsPoly p → IsReady (reduced_of (pos 1) p) (no_factors basis)
  ready-start p poly = record {
    poly = poly;
    over = λ found is. over-none found.term.monomial basis;
    fits = none-fits basis;
    size = none-length basis;
  }
    where
      none-length : (basis : List (List Term)) → length (no_factors basis) ≡ length basis
      none-length [] = refl
      none-length (b ∷ bs) = ap suc (none-length bs)

  from-start : (minus : Bool) (p : List Term) (answer : Result (List (List Term)) PolyRefusal) (moves : List Move) → IsPoly p
      → Gathers basis minus (reduced_of (pos 1) p) (no_factors basis) answer → Moves basis minus (reduced_of (pos 1) p) moves
      → Answers answer (shared_out basis (reduced_terms moves))
  from-start minus p answer moves poly gathers moves_are =
      subst (Answers answer) (joined-start basis (units moves) (reduced_terms moves))
      (gathers-final minus (reduced_of (pos 1) p) (no_factors basis) answer moves gathers moves_are (ready-start p poly))

  list-is : (made : Reduced) (content : ℕ) (gathered : List (List Term)) (some_left : Bool)
      → (factors_by made content gathered some_left).list ≡ gathered
  list-is made content gathered true = refl
  list-is made content gathered false = refl

  -- where there is an answer, it is the factors over whole numbers without bound
  pub final-factors : (p : List Term) (factors : Factors) → IsPoly p → IsFactors basis p factors → IsFinal basis p factors
  final-factors p factors poly one =
      let moves = moves-made basis (has_terms one.made.rest) (reduced_of (pos 1) p) (Ok one.made) one.made one.made_is refl in
      let answers = from-start (has_terms one.made.rest) p (Ok one.gathered) moves.0 poly one.gathered_is moves.1 in record {
        made = one.made;
        content = one.content;
        moves = moves.0;
        made_is = one.made_is;
        content_is = one.content_is;
        moves_are = moves.1;
        factors_are = one.factors_are ∙ ap (λ (g : List (List Term)). factors_by one.made one.content g (has_terms one.made.rest)) answers.0;
      }

  -- and they fit
  pub final-fits : (p : List Term) (factors : Factors) → IsPoly p → IsFactors basis p factors → fit_or_refuse factors.divisor ≡ Ok factors.divisor
      → fit_or_refuse factors.own ≡ Ok factors.own → FactorNumbersFit factors
  final-fits p factors poly one divisor own =
      let moves = moves-made basis (has_terms one.made.rest) (reduced_of (pos 1) p) (Ok one.made) one.made one.made_is refl in
      let answers = from-start (has_terms one.made.rest) p (Ok one.gathered) moves.0 poly one.gathered_is moves.1 in
      let list : factors.list ≡ one.gathered =
      ap (λ (f : Factors). f.list) one.factors_are ∙ list-is one.made one.content one.gathered (has_terms one.made.rest) in record {
        divisor = divisor;
        own = own;
        list = subst AllFit (sym (list ∙ answers.0)) answers.1;
      }

  -- where a number on the way does not fit, a final one does not
  pub spills-exceeds : (p : List Term) → IsPoly p → Spills basis p → Exceeds basis p
  spills-exceeds p poly spills =
      let moves = moves-made basis (has_terms spills.made.rest) (reduced_of (pos 1) p) (Ok spills.made) spills.made spills.made_is refl in
      let list = shared_out basis (reduced_terms moves.0) in
      let left = has_terms spills.made.rest in record {
        factors = factors_by spills.made spills.content list left;
        final_is = record {
          made = spills.made;
          content = spills.content;
          moves = moves.0;
          made_is = spills.made_is;
          content_is = spills.content_is;
          moves_are = moves.1;
          factors_are = refl;
        };
        over = λ fits. elim spills.refused [
          | inl gathers ↦ from-start left p (Err Overflow) moves.0 poly gathers moves.1
              (subst AllFit (list-is spills.made spills.content list left) fits.list)
          | inr divisor ↦
              let fits_by : FactorNumbersFit (factors_by spills.made spills.content list true) = subst (λ (some_left : Bool). FactorNumbersFit (factors_by spills.made spills.content list some_left)) divisor.0 fits in
              ok-err (fit_or_refuse (pos spills.content)) (pos spills.content) Overflow fits_by.divisor divisor.1
        ];
      }
