-- A polynomial is added or taken off exactly where its numbers fit.
use Rattle.std.proofs.Common.{◌≡◌, inl, inr, ℕ, Bool, true, false, List, [], ◌∷◌, All, ℤ, pos, ◌+ℤ◌, ◌*ℤ◌, FitsSigned, Ok, refl, sym, ap, ◌∙◌, subst}
use Rattle.std.specs.Int.{w128}
use Rattle.std.proofs.lemmas.List.Elements.{All-nil, All-cons, All-head, All-tail}
use lib.IntN.{+ℤ_idr}
use Rattle.grind_monomials.specs.Order.{place}
use Rattle.grind_monomials.specs.Monomials.{IsMonomial, product}
use Rattle.grind_monomials.proofs.Clauses.{product-nil}
use Rattle.grind_monomials.proofs.ValueLemmas.{unit_left}
use Rattle.grind_polynomials.specs.declared.poly.Term.{Term}
use Rattle.grind_polynomials.specs.Polynomials.{StartsBelow, IsPoly}
use Rattle.grind_polynomials.specs.Sums.{and_then, signed, with_more, with_multiple, with_multiples}
use Rattle.grind_polynomials.proofs.Fits.{same_Ok, fit_in, fit_is}
use Rattle.grind_polynomials.proofs.Products.{multiple-is, multiples-nil, multiples-cons}
use Rattle.grind_polynomials.proofs.Falling.{made_of, multiple-made, poly-more, starts-chain}
use Rattle.grind_fitting_claims.specs.PolyResults.{chosen, number_at}
use Rattle.grind_fitting_claims.specs.PolyReadings.{TermsFitIn, IsPolySumOf}
use Rattle.grind_fitting_claims.proofs.PolysFit.{is_fitting}
use Rattle.grind_fitting_claims.proofs.MoreExactly.{decide, same_at, other_at, above_other, none_at, more_is, more_there, one_poly}

abbrev Fit : ℤ → Type 0
Fit number = FitsSigned w128 number

signed_zero : (minus : Bool) → signed minus (pos 0) ≡ pos 0
signed_zero false = refl
signed_zero true = refl

module _ (minus : Bool) where
  abbrev FitsAt : (List ℕ → ℤ) → Term → Type 0
  FitsAt at term = FitsSigned w128 term.coefficient × FitsSigned w128 (at term.monomial +ℤ signed minus term.coefficient)

  -- coefficients, with one term more
  abbrev next : (List ℕ → ℤ) → Term → List ℕ → ℤ
  next at b m = at m +ℤ chosen (place b.monomial m) (signed minus b.coefficient) (pos 0)

  here : (at : List ℕ → ℤ) (b : Term) (m : List ℕ) → b.monomial ≡ m → next at b m ≡ at m +ℤ signed minus b.coefficient
  here at b m same = ap (λ (c : ℤ). at m +ℤ c) (same_at b.monomial m (signed minus b.coefficient) (pos 0) same)

  elsewhere : (at : List ℕ → ℤ) (b : Term) (m : List ℕ) → (b.monomial ≡ m → ⊥) → next at b m ≡ at m
  elsewhere at b m other =
      ap (λ (c : ℤ). at m +ℤ c) (other_at b.monomial m (signed minus b.coefficient) (pos 0) other) ∙ +ℤ_idr (at m)

  -- the coefficients below a monomial decide it
  below : (at other : List ℕ → ℤ) (m : List ℕ) (terms : List Term) → IsPoly terms → StartsBelow m terms
      → ((n : List ℕ) → (m ≡ n → ⊥) → at n ≡ other n) → All (FitsAt at) terms → All (FitsAt other) terms
  below at other m [] poly starts same all = All-nil (FitsAt other)
  below at other m (t ∷ ts) poly starts same all =
      let first = All-head (FitsAt at) t ts all in
      let number = same t.monomial (above_other m t.monomial starts) in
      All-cons (FitsAt other) t ts
      (first.0, subst (λ (c : ℤ). FitsSigned w128 (c +ℤ signed minus t.coefficient)) number first.1)
      (below at other m ts poly.3 (starts-chain m t.monomial ts starts poly.2) same (All-tail (FitsAt at) t ts all))

  -- with all of them more
  all_more : (at : List ℕ → ℤ) (b : Term) (bs : List Term) (m : List ℕ) → IsPoly (b ∷ bs)
      → next at b m +ℤ signed minus (number_at m bs) ≡ at m +ℤ signed minus (number_at m (b ∷ bs))
  all_more at b bs m poly = elim (decide b.monomial m) [
    | inl same ↦
        let none : number_at m bs ≡ pos 0 = subst (λ (k : List ℕ). number_at k bs ≡ pos 0) same (none_at b.monomial bs poly.3 poly.2) in
        (λ i. here at b m same i +ℤ signed minus (none i))
        ∙ ap (λ (c : ℤ). (at m +ℤ signed minus b.coefficient) +ℤ c) (signed_zero minus) ∙ +ℤ_idr (at m +ℤ signed minus b.coefficient)
        ∙ ap (λ (c : ℤ). at m +ℤ signed minus c) (sym (same_at b.monomial m b.coefficient (number_at m bs) same))
    | inr other ↦
        ap (λ (c : ℤ). c +ℤ signed minus (number_at m bs)) (elsewhere at b m other)
        ∙ ap (λ (c : ℤ). at m +ℤ signed minus c) (sym (other_at b.monomial m b.coefficient (number_at m bs) other))
  ]

  -- one term
  plain : (b : Term) (terms : List Term) → with_more (signed minus (pos 1 *ℤ b.coefficient)) (product [] b.monomial) terms
      ≡ with_more (signed minus b.coefficient) b.monomial terms
  plain b terms = λ i. with_more (signed minus (unit_left b.coefficient i)) (product-nil b.monomial i) terms

  record OneMore (b : Term) (terms all : List Term) : Type 0 where
    poly : IsPoly all
    numbers : (n : List ℕ) → number_at n all ≡ number_at n terms +ℤ chosen (place b.monomial n) (signed minus b.coefficient) (pos 0)
    fits : FitsSigned w128 b.coefficient
    sum_fits : FitsSigned w128 (number_at b.monomial terms +ℤ signed minus b.coefficient)

  one_more : (b : Term) (terms all : List Term) → IsMonomial b.monomial → IsPoly terms → with_multiple minus (pos 1) [] b terms ≡ Ok all
      → OneMore b terms all
  one_more b terms all mono poly e =
      let w = multiple-made minus (pos 1) [] b terms all e in
      let number : w.0 ≡ pos 1 *ℤ b.coefficient = fit_is (pos 1 *ℤ b.coefficient) w.0 w.1 in
      let there : with_more (signed minus b.coefficient) b.monomial terms ≡ Ok all =
      sym (plain b terms) ∙ subst (λ (z : ℤ). with_more (signed minus z) (product [] b.monomial) terms ≡ Ok all) number w.2 in
      let goes = more_is (signed minus b.coefficient) b.monomial terms all poly there in record {
        poly = poly-more (signed minus b.coefficient) b.monomial terms all mono poly there;
        numbers = goes.0;
        fits = subst (FitsSigned w128) (number ∙ unit_left b.coefficient) (is_fitting (pos 1 *ℤ b.coefficient) w.0 w.1);
        sum_fits = goes.1;
      }

  one_there : (b : Term) (terms : List Term) → IsPoly terms → FitsSigned w128 b.coefficient
      → FitsSigned w128 (number_at b.monomial terms +ℤ signed minus b.coefficient)
      → (all : List Term) × (with_multiple minus (pos 1) [] b terms ≡ Ok all)
  one_there b terms poly fits sum_fits =
      let w = more_there (signed minus b.coefficient) b.monomial terms poly sum_fits in (
        w.0,
        multiple-is minus (pos 1) [] b terms
            ∙ ap (and_then (λ (number : ℤ). with_more (signed minus number) (product [] b.monomial) terms))
            (fit_in (pos 1 *ℤ b.coefficient) (subst (FitsSigned w128) (sym (unit_left b.coefficient)) fits))
            ∙ plain b terms ∙ w.1,
      )

  -- all terms
  pub from_multiples : (at : List ℕ → ℤ) (bs terms all : List Term) → IsPoly bs → IsPoly terms → ((n : List ℕ) → number_at n terms ≡ at n)
      → with_multiples minus (pos 1) [] bs terms ≡ Ok all → TermsFitIn Fit minus at bs × IsPolySumOf minus at bs all
  from_multiples at [] terms all others poly same e =
      let is : terms ≡ all = same_Ok (with_multiples minus (pos 1) [] [] terms) terms all (multiples-nil minus (pos 1) [] terms) e in (
        All-nil (FitsAt at),
        record {
          is_poly = subst IsPoly is poly;
          numbers = λ n. ap (number_at n) (sym is) ∙ same n ∙ sym (ap (λ (c : ℤ). at n +ℤ c) (signed_zero minus) ∙ +ℤ_idr (at n));
        },
      )
  from_multiples at (b ∷ bs) terms all others poly same e =
      let w = made_of (with_multiples minus (pos 1) [] bs) (with_multiple minus (pos 1) [] b terms) all
      (sym (multiples-cons minus (pos 1) [] b bs terms) ∙ e) in
      let one = one_more b terms w.0 others.0 poly w.1 in
      let goes : (n : List ℕ) → number_at n w.0 ≡ next at b n =
      λ n. one.numbers n ∙ ap (λ (z : ℤ). z +ℤ chosen (place b.monomial n) (signed minus b.coefficient) (pos 0)) (same n) in
      let later = from_multiples (next at b) bs w.0 all others.3 one.poly goes w.2 in (
        All-cons (FitsAt at) b bs
            (one.fits, subst (λ (c : ℤ). FitsSigned w128 (c +ℤ signed minus b.coefficient)) (same b.monomial) one.sum_fits)
            (below (next at b) at b.monomial bs others.3 others.2 (elsewhere at b) later.0),
        record { is_poly = later.1.is_poly; numbers = λ n. later.1.numbers n ∙ all_more at b bs n others },
      )

  multiples_there : (at : List ℕ → ℤ) (bs terms : List Term) → IsPoly bs → IsPoly terms → ((n : List ℕ) → number_at n terms ≡ at n)
      → TermsFitIn Fit minus at bs → (all : List Term) × (with_multiples minus (pos 1) [] bs terms ≡ Ok all)
  multiples_there at [] terms others poly same fits = (terms, multiples-nil minus (pos 1) [] terms)
  multiples_there at (b ∷ bs) terms others poly same fits =
      let first = All-head (FitsAt at) b bs fits in
      let w = one_there b terms poly first.0
      (subst (λ (c : ℤ). FitsSigned w128 (c +ℤ signed minus b.coefficient)) (sym (same b.monomial)) first.1) in
      let one = one_more b terms w.0 others.0 poly w.1 in
      let goes : (n : List ℕ) → number_at n w.0 ≡ next at b n =
      λ n. one.numbers n ∙ ap (λ (z : ℤ). z +ℤ chosen (place b.monomial n) (signed minus b.coefficient) (pos 0)) (same n) in
      let later = multiples_there (next at b) bs w.0 others.3 one.poly goes
      (below at (next at b) b.monomial bs others.3 others.2 (λ n other. sym (elsewhere at b n other)) (All-tail (FitsAt at) b bs fits)) in (
        later.0,
        multiples-cons minus (pos 1) [] b bs terms ∙ ap (and_then (with_multiples minus (pos 1) [] bs)) w.1 ∙ later.1,
      )

  pub to_multiples : (at : List ℕ → ℤ) (bs terms all : List Term) → IsPoly bs → IsPoly terms → ((n : List ℕ) → number_at n terms ≡ at n)
      → TermsFitIn Fit minus at bs → IsPolySumOf minus at bs all → with_multiples minus (pos 1) [] bs terms ≡ Ok all
  to_multiples at bs terms all others poly same fits is =
      let w = multiples_there at bs terms others poly same fits in
      let made = from_multiples at bs terms w.0 others poly same w.1 in
      w.1 ∙ ap (λ (p : List Term). Ok p)
      (one_poly w.0 all made.1.is_poly is.is_poly (λ n. made.1.numbers n ∙ sym (is.numbers n)))
