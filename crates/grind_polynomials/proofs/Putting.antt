-- How a multiple of a monomial is put among terms, clause by clause and step by step.
use Rattle.std.proofs.Common.{◌≡◌, ℕ, zero, suc, List, [], ◌∷◌, ◌++◌, reverse, ℤ, pos, negsuc, ◌+ℤ◌, Option, Some, None, Result, Ok, Err, MatchOption, sym, ap, ◌∙◌, refl}
use Rattle.std.specs.Option.{IsSomeAnd}
use Rattle.std.proofs.lemmas.List.{append_assoc, reverse-append}
use lib.IntN.{+ℤ_idl}
use Rattle.grind_monomials.specs.declared.order.Place.{Place}
use Rattle.grind_monomials.specs.declared.order.Place.TheVariants.{Above, Same, Below}
use Rattle.grind_monomials.specs.Order.{place}
use Rattle.grind_polynomials.specs.declared.poly.Term.{Term}
use Rattle.grind_polynomials.specs.declared.poly.PolyRefusal.{PolyRefusal}
use Rattle.grind_polynomials.specs.declared.poly.PolyRefusal.TheVariants.{Overflow}
use Rattle.grind_polynomials.specs.Polynomials.{fit_or_refuse}
use Rattle.grind_polynomials.specs.Sums.{and_then, in_front, front, behind, more_beside, with_more}

-- ---- the clauses
pub more-nil : (z : ℤ) (m : List ℕ) → with_more z m [] ≡ front z m []
unfolding with_more
more-nil z m = refl

more-cons : (z : ℤ) (m : List ℕ) (x : Term) (xs : List Term)
    → with_more z m (x ∷ xs) ≡ more_beside (place x.monomial m) z m x xs (with_more z m xs)
unfolding with_more
more-cons z m x xs = refl

module _ (z : ℤ) (m : List ℕ) (x : Term) (xs : List Term) where
  pub more-at : (where_it_is : Place) → place x.monomial m ≡ where_it_is
      → with_more z m (x ∷ xs) ≡ more_beside where_it_is z m x xs (with_more z m xs)
  more-at where_it_is e = more-cons z m x xs ∙ ap (λ (p : Place). more_beside p z m x xs (with_more z m xs)) e

  pub more-above : place x.monomial m ≡ Above → with_more z m (x ∷ xs) ≡ behind (x ∷ []) (with_more z m xs)
  more-above e = more-at Above e

  pub more-same : place x.monomial m ≡ Same → with_more z m (x ∷ xs) ≡ front (x.coefficient +ℤ z) m xs
  more-same e = more-at Same e

  pub more-below : place x.monomial m ≡ Below → with_more z m (x ∷ xs) ≡ front z m (x ∷ xs)
  more-below e = more-at Below e

-- ---- what is done, and what is left
pub behind-nil : (rest : Result (List Term) PolyRefusal) → behind [] rest ≡ rest
behind-nil (Ok terms) = refl
behind-nil (Err e) = refl

pub behind-step : (done : List Term) (x : Term) (rest : Result (List Term) PolyRefusal)
    → behind done (behind (x ∷ []) rest) ≡ behind (done ++ x ∷ []) rest
behind-step done x (Ok terms) = ap (λ (all : List Term). Ok all) (sym (append_assoc done (x ∷ []) terms))
behind-step done x (Err e) = refl

pub in_front-append : (c : ℤ) (m : List ℕ) (rest : List Term) → in_front c m rest ≡ in_front c m [] ++ rest
in_front-append (pos zero) m rest = refl
in_front-append (pos (suc n)) m rest = refl
in_front-append (negsuc n) m rest = refl

pub reverse-push : (rest : List Term) (x : Term) → reverse (rest ++ x ∷ []) ≡ x ∷ reverse rest
reverse-push rest x = reverse-append rest (x ∷ [])

-- ---- the loop
-- the number is what the sum of the coefficient at the monomial and the addend is, and it is appended to what is done
pub closes : (done all others : List Term) (m : List ℕ) (number : Option ℤ) (z : ℤ)
    → MatchOption number (fit_or_refuse z ≡ Err Overflow) (λ y. fit_or_refuse z ≡ Ok y)
    → IsSomeAnd number (λ c. all ≡ done ++ in_front c m others) → behind done (front z m others) ≡ Ok all
closes done all others m None z e h = absurd h
closes done all others m (Some c) z e h =
    ap (λ (r : Result ℤ PolyRefusal). behind done (and_then (λ number. Ok (in_front number m others)) r)) e
    ∙ ap (λ (terms : List Term). Ok terms) (sym h)

pub closes-not : (done others : List Term) (m : List ℕ) (number : Option ℤ) (z : ℤ)
    → MatchOption number (fit_or_refuse z ≡ Err Overflow) (λ y. fit_or_refuse z ≡ Ok y) → number ≡ None → behind done (front z m others) ≡ Err Overflow
closes-not done others m None z e is =
    ap (λ (r : Result ℤ PolyRefusal). behind done (and_then (λ number. Ok (in_front number m others)) r)) e
closes-not done others m (Some c) z e is = absurd cc

pub zero_first : (z : ℤ) → pos 0 +ℤ z ≡ z
zero_first z = +ℤ_idl z

module _ (z : ℤ) (m : List ℕ) (whole : Result (List Term) PolyRefusal) (done old rest : List Term) (x : Term)
    (old_is : old ≡ rest ++ x ∷ []) (so_far : behind done (with_more z m (reverse old)) ≡ whole) where
  opened : behind done (with_more z m (x ∷ reverse rest)) ≡ whole
  opened = ap (λ (terms : List Term). behind done (with_more z m terms)) (sym (ap reverse old_is ∙ reverse-push rest x)) ∙ so_far

  pub put_above : (new : List Term) → new ≡ done ++ x ∷ [] → place x.monomial m ≡ Above → behind new (with_more z m (reverse rest)) ≡ whole
  put_above new e above =
      ap (λ (terms : List Term). behind terms (with_more z m (reverse rest))) e
      ∙ sym (behind-step done x (with_more z m (reverse rest)))
      ∙ ap (behind done) (sym (more-above z m x (reverse rest) above)) ∙ opened

  pub put_same : place x.monomial m ≡ Same → behind done (front (x.coefficient +ℤ z) m (reverse rest)) ≡ whole
  put_same same = ap (behind done) (sym (more-same z m x (reverse rest) same)) ∙ opened

  pub put_below : (back : List Term) → back ≡ rest ++ x ∷ [] → place x.monomial m ≡ Below
      → behind done (front (pos 0 +ℤ z) m (reverse back)) ≡ whole
  put_below back e below =
      (λ i. behind done (front (zero_first z i) m ((ap reverse e ∙ reverse-push rest x) i)))
      ∙ ap (behind done) (sym (more-below z m x (reverse rest) below)) ∙ opened

pub put_end : (z : ℤ) (m : List ℕ) (whole : Result (List Term) PolyRefusal) (done old rest : List Term) → old ≡ [] → rest ≡ []
    → behind done (with_more z m (reverse old)) ≡ whole → behind done (front (pos 0 +ℤ z) m (reverse rest)) ≡ whole
put_end z m whole done old rest e f so_far =
    (λ i. behind done (front (zero_first z i) m (reverse (f i))))
    ∙ ap (behind done) (sym (more-nil z m)) ∙ ap (λ (terms : List Term). behind done (with_more z m (reverse terms))) (sym e) ∙ so_far
