-- A multiple of a monomial is added to a polynomial exactly where the coefficient there fits, and nothing else is changed.
use Rattle.std.proofs.Common.{◌≡◌, ◌⊎◌, inl, inr, ℕ, zero, suc, List, [], ◌∷◌, ◌++◌, ℤ, pos, negsuc, ◌+ℤ◌, FitsSigned, Ok, arith, refl, sym, ap, ◌∙◌, subst}
use Rattle.std.specs.Int.{w128}
use lib.IntN.{+ℤ_idl, +ℤ_idr}
use Rattle.grind_monomials.specs.declared.order.Place.{Place}
use Rattle.grind_monomials.specs.declared.order.Place.TheVariants.{Above, Same, Below}
use Rattle.grind_monomials.specs.Order.{place}
use Rattle.grind_monomials.proofs.Clauses.{place-one}
use Rattle.grind_monomials.proofs.Orders.{above-not_same, nodes-itself, place-same, place-turn}
use Rattle.grind_polynomials.specs.declared.poly.Term.{Term}
use Rattle.grind_polynomials.specs.Polynomials.{term_of, StartsBelow, IsPoly}
use Rattle.grind_polynomials.specs.Sums.{and_then, in_front, front, behind, with_more}
use Rattle.grind_polynomials.proofs.Fits.{fit_in, fit_is}
use Rattle.grind_polynomials.proofs.Putting.{more-nil, more-above, more-same, more-below}
use Rattle.grind_polynomials.proofs.Falling.{front-made, behind-made, starts-chain}
use Rattle.grind_fitting_claims.specs.PolyResults.{chosen, number_at}
use Rattle.grind_fitting_claims.proofs.PolysFit.{is_fitting}

-- ---- one monomial
pub place_is : (x m : List ℕ) → x ≡ m → place x m ≡ Same
place_is x m e = subst (λ (k : List ℕ). place x k ≡ Same) e (place-one x x (omega arith) (omega arith) ∙ nodes-itself x)

below_is_not : Below ≡ Same → ⊥
below_is_not e = cc

pub decide : (x m : List ℕ) → (x ≡ m) ⊎ (x ≡ m → ⊥)
decide x m = at_place (place x m) refl
  where
    at_place : (p : Place) → place x m ≡ p → (x ≡ m) ⊎ (x ≡ m → ⊥)
    at_place Same e = inl (place-same x m e)
    at_place Above e = inr (λ same. above-not_same (sym e ∙ place_is x m same))
    at_place Below e = inr (λ same. below_is_not (sym e ∙ place_is x m same))

pub same_at : (x m : List ℕ) (a b : ℤ) → x ≡ m → chosen (place x m) a b ≡ a
same_at x m a b e = ap (λ (p : Place). chosen p a b) (place_is x m e)

pub other_at : (x m : List ℕ) (a b : ℤ) → (x ≡ m → ⊥) → chosen (place x m) a b ≡ b
other_at x m a b other = at_place (place x m) refl
  where
    at_place : (p : Place) → place x m ≡ p → chosen (place x m) a b ≡ b
    at_place Same e = absurd (other (place-same x m e))
    at_place Above e = ap (λ (p : Place). chosen p a b) e
    at_place Below e = ap (λ (p : Place). chosen p a b) e

pub above_other : (a b : List ℕ) → place a b ≡ Above → a ≡ b → ⊥
above_other a b e same = above-not_same (sym e ∙ place_is a b same)

-- above all terms there is no coefficient
pub none_at : (m : List ℕ) (terms : List Term) → IsPoly terms → StartsBelow m terms → number_at m terms ≡ pos 0
none_at m [] poly starts = refl
none_at m (x ∷ xs) poly starts =
    other_at x.monomial m x.coefficient (number_at m xs) (λ same. above_other m x.monomial starts (sym same))
    ∙ none_at m xs poly.3 (starts-chain m x.monomial xs starts poly.2)

front_at : (n : List ℕ) (c : ℤ) (m : List ℕ) (rest : List Term) → IsPoly rest → StartsBelow m rest
    → number_at n (in_front c m rest) ≡ chosen (place m n) c (number_at n rest)
front_at n (pos zero) m rest poly starts = elim (decide m n) [
  | inl same ↦ subst (λ (k : List ℕ). number_at k rest ≡ pos 0) same (none_at m rest poly starts)
      ∙ sym (same_at m n (pos 0) (number_at n rest) same)
  | inr other ↦ sym (other_at m n (pos 0) (number_at n rest) other)
]
front_at n (pos (suc k)) m rest poly starts = refl
front_at n (negsuc k) m rest poly starts = refl

-- ---- one multiple more
added : (m n : List ℕ) (z whole rest : ℤ) → (m ≡ n → whole ≡ rest +ℤ z) → ((m ≡ n → ⊥) → whole ≡ rest)
    → whole ≡ rest +ℤ chosen (place m n) z (pos 0)
added m n z whole rest here there = elim (decide m n) [
  | inl same ↦ here same ∙ ap (λ (c : ℤ). rest +ℤ c) (sym (same_at m n z (pos 0) same))
  | inr other ↦ there other ∙ sym (ap (λ (c : ℤ). rest +ℤ c) (other_at m n z (pos 0) other) ∙ +ℤ_idr rest)
]

front_number : (n m : List ℕ) (z : ℤ) (rest all : List Term) → IsPoly rest → StartsBelow m rest → front z m rest ≡ Ok all
    → number_at n all ≡ chosen (place m n) z (number_at n rest)
front_number n m z rest all poly starts e =
    let w = front-made z m rest all e in
    ap (number_at n) (sym w.2) ∙ front_at n w.0 m rest poly starts ∙ ap (λ (c : ℤ). chosen (place m n) c (number_at n rest)) (fit_is z w.0 w.1)

front_fits : (m : List ℕ) (z : ℤ) (rest all : List Term) → front z m rest ≡ Ok all → FitsSigned w128 z
front_fits m z rest all e =
    let w = front-made z m rest all e in subst (FitsSigned w128) (fit_is z w.0 w.1) (is_fitting z w.0 w.1)

front_there : (m : List ℕ) (z : ℤ) (rest : List Term) → FitsSigned w128 z → front z m rest ≡ Ok (in_front z m rest)
front_there m z rest fits = ap (and_then (λ number. Ok (in_front number m rest))) (fit_in z fits)

module _ (z : ℤ) (m : List ℕ) where
  abbrev Adds : List Term → List Term → Type 0
  Adds terms all = (n : List ℕ) → number_at n all ≡ number_at n terms +ℤ chosen (place m n) z (pos 0)

  module _ (x : Term) (xs : List Term) (poly : IsPoly (x ∷ xs)) where
    here_number : x.monomial ≡ m → number_at m (x ∷ xs) ≡ x.coefficient
    here_number e = same_at x.monomial m x.coefficient (number_at m xs) e

    later_number : place x.monomial m ≡ Above → number_at m (x ∷ xs) ≡ number_at m xs
    later_number e = other_at x.monomial m x.coefficient (number_at m xs) (above_other x.monomial m e)

    no_number : place x.monomial m ≡ Below → number_at m (x ∷ xs) ≡ pos 0
    no_number e = none_at m (x ∷ xs) poly (place-turn x.monomial m e)

    adds_above : (later all : List Term) → place x.monomial m ≡ Above → (x ∷ []) ++ later ≡ all → Adds xs later → Adds (x ∷ xs) all
    adds_above later all above is adds n = ap (number_at n) (sym is) ∙ elim (decide x.monomial n) [
      | inl same ↦ same_at x.monomial n x.coefficient (number_at n later) same
          ∙ added m n z x.coefficient (number_at n (x ∷ xs)) (λ also. absurd (above_other x.monomial m above (same ∙ sym also)))
          (λ other. sym (same_at x.monomial n x.coefficient (number_at n xs) same))
      | inr other ↦ other_at x.monomial n x.coefficient (number_at n later) other ∙ adds n
          ∙ ap (λ (c : ℤ). c +ℤ chosen (place m n) z (pos 0)) (sym (other_at x.monomial n x.coefficient (number_at n xs) other))
    ]

    adds_same : (all : List Term) → x.monomial ≡ m → front (x.coefficient +ℤ z) m xs ≡ Ok all → Adds (x ∷ xs) all
    adds_same all one e n =
        let starts = subst (λ (k : List ℕ). StartsBelow k xs) one poly.2 in
        front_number n m (x.coefficient +ℤ z) xs all poly.3 starts e
        ∙ added m n z (chosen (place m n) (x.coefficient +ℤ z) (number_at n xs)) (number_at n (x ∷ xs))
        (λ same. same_at m n (x.coefficient +ℤ z) (number_at n xs) same
        ∙ ap (λ (c : ℤ). c +ℤ z) (sym (same_at x.monomial n x.coefficient (number_at n xs) (one ∙ same))))
        (λ other. other_at m n (x.coefficient +ℤ z) (number_at n xs) other
        ∙ sym (other_at x.monomial n x.coefficient (number_at n xs) (λ same. other (sym one ∙ same))))

    adds_below : (all : List Term) → place x.monomial m ≡ Below → front z m (x ∷ xs) ≡ Ok all → Adds (x ∷ xs) all
    adds_below all below e n =
        front_number n m z (x ∷ xs) all poly (place-turn x.monomial m below) e
        ∙ added m n z (chosen (place m n) z (number_at n (x ∷ xs))) (number_at n (x ∷ xs))
        (λ same. same_at m n z (number_at n (x ∷ xs)) same ∙ sym (+ℤ_idl z)
        ∙ ap (λ (c : ℤ). c +ℤ z) (sym (subst (λ (k : List ℕ). number_at k (x ∷ xs) ≡ pos 0) same (no_number below))))
        (λ other. other_at m n z (number_at n (x ∷ xs)) other)

  -- what is added, and that it fits
  pub more_is : (terms all : List Term) → IsPoly terms → with_more z m terms ≡ Ok all
      → Adds terms all × FitsSigned w128 (number_at m terms +ℤ z)
  more_is [] all poly e =
      let there = sym (more-nil z m) ∙ e in (
        λ n. front_number n m z [] all tt tt there ∙ sym (+ℤ_idl (chosen (place m n) z (pos 0))),
        subst (FitsSigned w128) (sym (+ℤ_idl z)) (front_fits m z [] all there),
      )
  more_is (x ∷ xs) all poly e = at_place (place x.monomial m) refl (λ later is. more_is xs later poly.3 is)
    where
      at_place : (p : Place) → place x.monomial m ≡ p
          → ((later : List Term) → with_more z m xs ≡ Ok later → Adds xs later × FitsSigned w128 (number_at m xs +ℤ z))
          → Adds (x ∷ xs) all × FitsSigned w128 (number_at m (x ∷ xs) +ℤ z)
      at_place Above above rest =
          let w = behind-made (x ∷ []) (with_more z m xs) all (sym (more-above z m x xs above) ∙ e) in
          let goes = rest w.0 w.1 in (
            adds_above x xs poly w.0 all above w.2 goes.0,
            subst (λ (c : ℤ). FitsSigned w128 (c +ℤ z)) (sym (later_number x xs poly above)) goes.1,
          )
      at_place Same same rest =
          let there = sym (more-same z m x xs same) ∙ e in
          let one = place-same x.monomial m same in (
            adds_same x xs poly all one there,
            subst (λ (c : ℤ). FitsSigned w128 (c +ℤ z)) (sym (here_number x xs poly one)) (front_fits m (x.coefficient +ℤ z) xs all there),
          )
      at_place Below below rest =
          let there = sym (more-below z m x xs below) ∙ e in (
            adds_below x xs poly all below there,
            subst (λ (c : ℤ). FitsSigned w128 (c +ℤ z)) (sym (no_number x xs poly below))
                (subst (FitsSigned w128) (sym (+ℤ_idl z)) (front_fits m z (x ∷ xs) all there)),
          )

  -- where it fits, it is there
  pub more_there : (terms : List Term) → IsPoly terms → FitsSigned w128 (number_at m terms +ℤ z)
      → (all : List Term) × (with_more z m terms ≡ Ok all)
  more_there [] poly fits = (in_front z m [], more-nil z m ∙ front_there m z [] (subst (FitsSigned w128) (+ℤ_idl z) fits))
  more_there (x ∷ xs) poly fits = at_place (place x.monomial m) refl (λ f. more_there xs poly.3 f)
    where
      at_place : (p : Place) → place x.monomial m ≡ p
          → (FitsSigned w128 (number_at m xs +ℤ z) → (later : List Term) × (with_more z m xs ≡ Ok later))
          → (all : List Term) × (with_more z m (x ∷ xs) ≡ Ok all)
      at_place Above above rest =
          let w = rest (subst (λ (c : ℤ). FitsSigned w128 (c +ℤ z)) (later_number x xs poly above) fits) in
          (x ∷ w.0, more-above z m x xs above ∙ ap (behind (x ∷ [])) w.1)
      at_place Same same rest =
          let one = place-same x.monomial m same in (
            in_front (x.coefficient +ℤ z) m xs,
            more-same z m x xs same ∙ front_there m (x.coefficient +ℤ z) xs
                (subst (λ (c : ℤ). FitsSigned w128 (c +ℤ z)) (here_number x xs poly one) fits),
          )
      at_place Below below rest = (
        in_front z m (x ∷ xs),
        more-below z m x xs below ∙ front_there m z (x ∷ xs)
            (subst (FitsSigned w128) (+ℤ_idl z) (subst (λ (c : ℤ). FitsSigned w128 (c +ℤ z)) (no_number x xs poly below) fits)),
      )

-- ---- polynomials with the same coefficients are one
pub one_poly : (a b : List Term) → IsPoly a → IsPoly b → ((n : List ℕ) → number_at n a ≡ number_at n b) → a ≡ b
one_poly [] [] left right same = refl
one_poly [] (y ∷ ys) left right same =
    absurd (right.1 (sym (same_at y.monomial y.monomial y.coefficient (number_at y.monomial ys) refl) ∙ sym (same y.monomial)))
one_poly (x ∷ xs) [] left right same =
    absurd (left.1 (sym (same_at x.monomial x.monomial x.coefficient (number_at x.monomial xs) refl) ∙ same x.monomial))
one_poly (x ∷ xs) (y ∷ ys) left right same =
    at_place (place x.monomial y.monomial) refl (λ others. one_poly xs ys left.3 right.3 others)
  where
    at_place : (p : Place) → place x.monomial y.monomial ≡ p → (((n : List ℕ) → number_at n xs ≡ number_at n ys) → xs ≡ ys) → x ∷ xs ≡ y ∷ ys
    at_place Above e rest =
        absurd (left.1 (sym (same_at x.monomial x.monomial x.coefficient (number_at x.monomial xs) refl) ∙ same x.monomial
        ∙ none_at x.monomial (y ∷ ys) right e))
    at_place Below e rest =
        absurd (right.1 (sym (same_at y.monomial y.monomial y.coefficient (number_at y.monomial ys) refl) ∙ sym (same y.monomial)
        ∙ none_at y.monomial (x ∷ xs) left (place-turn x.monomial y.monomial e)))
    at_place Same e rest =
        let one = place-same x.monomial y.monomial e in
        let coefficient : x.coefficient ≡ y.coefficient = sym (same_at x.monomial y.monomial x.coefficient (number_at y.monomial xs) one)
        ∙ same y.monomial ∙ same_at y.monomial y.monomial y.coefficient (number_at y.monomial ys) refl in
        let term : x ≡ y = λ i. term_of (coefficient i) (one i) in
        let others = rest (λ n. elim (decide x.monomial n) [
          | inl is ↦ subst (λ (k : List ℕ). number_at k xs ≡ pos 0) is (none_at x.monomial xs left.3 left.2)
              ∙ sym (subst (λ (k : List ℕ). number_at k ys ≡ pos 0) (sym one ∙ is) (none_at y.monomial ys right.3 right.2))
          | inr other ↦ sym (other_at x.monomial n x.coefficient (number_at n xs) other) ∙ same n
              ∙ other_at y.monomial n y.coefficient (number_at n ys) (λ is. other (one ∙ is))
        ]) in
        λ i. term i ∷ others i
