-- Products of polynomials, added to others, where each number on the way fits in 128 bits and each degree is at most 16.
use Rattle.std.specs.Prelude.{ℕ, zero, suc, ◌+◌, List, [], ◌∷◌, ◌++◌, length, Result, Ok, Err, Bool, true, false, if◌then◌else◌, ℤ, pos, negsuc, ◌+ℤ◌, ◌*ℤ◌, neg_ℤ}
use Rattle.grind_monomials.specs.declared.order.Place.{Place}
use Rattle.grind_monomials.specs.declared.order.Place.TheVariants.{Above, Same, Below}
use Rattle.grind_monomials.specs.Order.{place}
use Rattle.grind_monomials.specs.Monomials.{product}
use Rattle.grind_polynomials.specs.declared.poly.Term.{Term}
use Rattle.grind_polynomials.specs.declared.poly.PolyRefusal.{PolyRefusal}
use Rattle.grind_polynomials.specs.declared.poly.PolyRefusal.TheVariants.{Degree}
use Rattle.grind_polynomials.specs.Polynomials.{term_of, is_over, fit_or_refuse}

-- what is made of a value, where there is one
abbrev pub and_then : {A B : Type 0} → (A → Result B PolyRefusal) → Result A PolyRefusal → Result B PolyRefusal
and_then f (Ok value) = f value
and_then f (Err refusal) = Err refusal

-- the number, or its negation
abbrev pub signed : Bool → ℤ → ℤ
signed false number = number
signed true number = neg_ℤ number

-- a term of this coefficient before others; one of coefficient 0 is left out
abbrev pub in_front : ℤ → List ℕ → List Term → List Term
in_front (pos zero) monomial rest = rest
in_front (pos (suc n)) monomial rest = term_of (pos (suc n)) monomial ∷ rest
in_front (negsuc n) monomial rest = term_of (negsuc n) monomial ∷ rest

-- the same, where the coefficient fits
abbrev pub front : ℤ → List ℕ → List Term → Result (List Term) PolyRefusal
front coefficient monomial rest = and_then (λ number. Ok (in_front number monomial rest)) (fit_or_refuse coefficient)

-- terms after others
abbrev pub behind : List Term → Result (List Term) PolyRefusal → Result (List Term) PolyRefusal
behind done rest = and_then (λ terms. Ok (done ++ terms)) rest

-- the first of some terms has a monomial that stands so beside this one, which is taken so often more; `later` are the
-- other terms with that
abbrev pub more_beside : Place → ℤ → List ℕ → Term → List Term → Result (List Term) PolyRefusal → Result (List Term) PolyRefusal
more_beside Above number monomial term rest later = behind (term ∷ []) later
more_beside Same number monomial term rest later = front (term.coefficient +ℤ number) monomial rest
more_beside Below number monomial term rest later = front number monomial (term ∷ rest)

-- the terms, with the monomial taken so often more
unfoldable pub with_more : ℤ → List ℕ → List Term → Result (List Term) PolyRefusal
with_more number monomial [] = front number monomial []
with_more number monomial (term ∷ rest) =
    more_beside (place term.monomial monomial) number monomial term rest (with_more number monomial rest)

-- the terms, and the product of a coefficient and a monomial with a term, added or taken off
unfoldable pub with_multiple : Bool → ℤ → List ℕ → Term → List Term → Result (List Term) PolyRefusal
with_multiple minus coefficient monomial b terms =
    and_then (λ number. with_more (signed minus number) (product monomial b.monomial) terms) (fit_or_refuse (coefficient *ℤ b.coefficient))

-- the terms, and the product with each of other terms in turn
unfoldable pub with_multiples : Bool → ℤ → List ℕ → List Term → List Term → Result (List Term) PolyRefusal
with_multiples minus coefficient monomial [] terms = Ok terms
with_multiples minus coefficient monomial (b ∷ bs) terms =
    and_then (with_multiples minus coefficient monomial bs) (with_multiple minus coefficient monomial b terms)

-- the terms, and the product of two terms: its degree is judged before its coefficient
unfoldable pub with_product : Term → Term → List Term → Result (List Term) PolyRefusal
with_product q b terms =
    if is_over (length q.monomial + length b.monomial) then Err Degree
    else with_multiple false q.coefficient q.monomial b terms

-- the terms, and the product of a term with each of other terms in turn
unfoldable pub with_products : Term → List Term → List Term → Result (List Term) PolyRefusal
with_products q [] terms = Ok terms
with_products q (b ∷ bs) terms = and_then (with_products q bs) (with_product q b terms)

-- the terms, and each term of the one, in turn, times each term of the other
unfoldable pub with_all_products : List Term → List Term → List Term → Result (List Term) PolyRefusal
with_all_products [] bs terms = Ok terms
with_all_products (q ∷ qs) bs terms = and_then (with_all_products qs bs) (with_products q bs terms)

-- the polynomial a and the product of q and b, added
abbrev pub sum_product : List Term → List Term → List Term → Result (List Term) PolyRefusal
sum_product a q b = with_all_products q b a
