-- How the factors of basis elements are gathered, step by step.
use Rattle.std.proofs.Common.{◌≡◌, ℕ, ◌<◌, Bool, true, not, ◌&&◌, List, [], ◌∷◌, ◌++◌, length, ℤ, unsigned_abs, Result, Ok, Err, arith, sym, ap, ◌∙◌, refl}
use Rattle.std.proofs.lemmas.List.{append_assoc, append-nil}
use Rattle.std.proofs.lemmas.Nat.Gcd.{same_from_IsGcd}
use Rattle.grind_polynomials.specs.declared.poly.Term.{Term}
use Rattle.grind_polynomials.specs.declared.poly.PolyRefusal.{PolyRefusal}
use Rattle.grind_polynomials.specs.Polynomials.{fit_or_refuse}
use Rattle.grind_normal_forms.specs.Pairs.{lead_coefficient}
use Rattle.grind_normal_forms.specs.Reduction.{Target, IsTargetGcd, unit, weight}
use Rattle.grind_normal_forms.specs.Gathering.{has_terms, Move, move_by, move_of, factor_moved, before, behind_all, hits, factors_moved}
use Rattle.grind_polynomials.proofs.Fits.{fit_is}

-- ---- the clauses
pub moved-nil : (move : Move) (free : Bool) (qs : List (List Term)) → factors_moved move free [] qs ≡ Ok []
unfolding factors_moved
moved-nil move free qs = refl

pub moved-no_more : (move : Move) (free : Bool) (b : List Term) (bs : List (List Term)) → factors_moved move free (b ∷ bs) [] ≡ Ok []
unfolding factors_moved
moved-no_more move free b bs = refl

pub moved-cons : (move : Move) (free : Bool) (b q : List Term) (bs qs : List (List Term)) → factors_moved move free (b ∷ bs) (q ∷ qs)
    ≡ before (factor_moved move (hits move.monomial free b) b q) (factors_moved move (free && not (hits move.monomial free b)) bs qs)
unfolding factors_moved
moved-cons move free b q bs qs = refl

-- ---- what is done, and what is left
behind-before : (done : List (List Term)) (first : List Term) (rest : Result (List (List Term)) PolyRefusal)
    → behind_all done (before (Ok first) rest) ≡ behind_all (done ++ first ∷ []) rest
behind-before done first (Ok all) = ap (λ (list : List (List Term)). Ok list) (sym (append_assoc done (first ∷ []) all))
behind-before done first (Err e) = refl

module _ (move : Move) (whole : Result (List (List Term)) PolyRefusal) (free : Bool) (done elements rest : List (List Term)) (b q : List Term)
    (bs qs : List (List Term)) (elements_are : elements ≡ b ∷ bs) (rest_is : rest ≡ q ∷ qs)
    (so_far : behind_all done (factors_moved move free elements rest) ≡ whole) (hit : Bool) (hit_is : hit ≡ hits move.monomial free b) where
  opened : behind_all done (before (factor_moved move hit b q) (factors_moved move (free && not hit) bs qs)) ≡ whole
  opened =
      ap (λ (h : Bool). behind_all done (before (factor_moved move h b q) (factors_moved move (free && not h) bs qs))) hit_is
      ∙ ap (behind_all done) (sym (moved-cons move free b q bs qs))
      ∙ (λ i. behind_all done (factors_moved move free (sym elements_are i) (sym rest_is i))) ∙ so_far

  pub gather_step : (made : List Term) (new : List (List Term)) (left : Bool) → factor_moved move hit b q ≡ Ok made → new ≡ done ++ made ∷ []
      → left ≡ (free && not hit) → behind_all new (factors_moved move left bs qs) ≡ whole
  gather_step made new left e f g =
      (λ i. behind_all (f i) (factors_moved move (g i) bs qs))
      ∙ sym (behind-before done made (factors_moved move (free && not hit) bs qs))
      ∙ sym (ap (λ (r : Result (List Term) PolyRefusal). behind_all done (before r (factors_moved move (free && not hit) bs qs))) e)
      ∙ opened

  pub gather_fails : (e : PolyRefusal) → factor_moved move hit b q ≡ Err e → whole ≡ Err e
  gather_fails e f =
      sym opened ∙ ap (λ (r : Result (List Term) PolyRefusal). behind_all done (before r (factors_moved move (free && not hit) bs qs))) f

ends : (done : List (List Term)) → behind_all done (Ok []) ≡ Ok done
ends done = ap (λ (list : List (List Term)). Ok list) (append-nil done)

pub gather_end : (move : Move) (whole : Result (List (List Term)) PolyRefusal) (free : Bool) (done elements rest : List (List Term))
    → length elements ≡ 0 → behind_all done (factors_moved move free elements rest) ≡ whole → whole ≡ Ok done
gather_end move whole free done [] rest e so_far = sym so_far ∙ ap (behind_all done) (moved-nil move free rest) ∙ ends done
gather_end move whole free done (b ∷ bs) rest e so_far = absurd (omega arith)

pub gather_no_more : (move : Move) (whole : Result (List (List Term)) PolyRefusal) (free : Bool) (done elements rest : List (List Term))
    → length rest ≡ 0 → behind_all done (factors_moved move free elements rest) ≡ whole → whole ≡ Ok done
gather_no_more move whole free done [] [] e so_far = sym so_far ∙ ap (behind_all done) (moved-nil move free []) ∙ ends done
gather_no_more move whole free done (b ∷ bs) [] e so_far = sym so_far ∙ ap (behind_all done) (moved-no_more move free b bs) ∙ ends done
gather_no_more move whole free done elements (q ∷ qs) e so_far = absurd (omega arith)

-- ---- the move
pub move-same : (minus : Bool) (found : Target) (g h : ℕ) (u w : ℤ) (m : List ℕ) → IsTargetGcd found g → IsTargetGcd found h
    → fit_or_refuse (unit found g) ≡ Ok u → fit_or_refuse (weight found g) ≡ Ok w → m ≡ found.term.monomial → move_by minus u w m ≡ move_of minus found h
move-same minus found g h u w m one two u_is w_is is =
    let same = same_from_IsGcd (unsigned_abs (lead_coefficient found.element)) (unsigned_abs found.term.coefficient) g h one two in
    λ i. move_by minus ((fit_is (unit found g) u u_is ∙ ap (unit found) same) i) ((fit_is (weight found g) w w_is ∙ ap (weight found) same) i) (is i)

pub has-some : (terms : List Term) → 0 < length terms → has_terms terms ≡ true
has-some [] h = absurd (omega arith)
has-some (t ∷ ts) h = refl
