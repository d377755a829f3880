-- A row of products is added in one pass: what was passed stands above each further product.
use Rattle.std.proofs.Common.{◌≡◌, ℕ, zero, suc, List, [], ◌∷◌, ◌++◌, reverse, ℤ, pos, negsuc, Option, Some, None, Result, Ok, Err, arith, sym, ap, ◌∙◌, refl, subst}
use Rattle.std.specs.Option.{IsSomeAnd}
use Rattle.std.proofs.lemmas.List.{append_assoc}
use Rattle.grind_monomials.specs.declared.order.Place.TheVariants.{Above}
use Rattle.grind_monomials.specs.Order.{place}
use Rattle.grind_monomials.specs.Monomials.{IsMonomial, product}
use Rattle.grind_monomials.proofs.Orders.{place-chain}
use Rattle.grind_monomials.proofs.CountLemmas.{count-product, counts-decide, rises-product, place-product}
use Rattle.grind_polynomials.specs.declared.poly.Term.{Term}
use Rattle.grind_polynomials.specs.declared.poly.PolyRefusal.{PolyRefusal}
use Rattle.grind_polynomials.specs.Polynomials.{IsPoly}
use Rattle.grind_polynomials.specs.Rows.{AreAbove, ArePassed, AreAboveNext}
use Rattle.grind_polynomials.specs.Sums.{in_front, behind, with_more}
use Rattle.grind_polynomials.proofs.Putting.{more-above, behind-nil, in_front-append}

-- ---- monomials
pub product-turned : (a b : List ℕ) → IsMonomial a → IsMonomial b → product a b ≡ product b a
product-turned a b left right =
    counts-decide (product a b) (product b a) 0 0 (rises-product a b 0 left right) (rises-product b a 0 right left)
    (λ n. let one = count-product n a b in let two = count-product n b a in omega arith)

product-keeps : (m a b : List ℕ) → IsMonomial m → IsMonomial a → IsMonomial b → place a b ≡ Above
    → place (product m a) (product m b) ≡ Above
product-keeps m a b mono left right e =
    (λ i. place (product-turned m a mono left i) (product-turned m b mono right i)) ∙ place-product a b m left right mono e

-- ---- what stands above
above-append : (m : List ℕ) (xs ys : List Term) → AreAbove m xs → AreAbove m ys → AreAbove m (xs ++ ys)
above-append m [] ys first second = second
above-append m (x ∷ xs) ys first second = (first.0, above-append m xs ys first.1 second)

pub above-push : (m : List ℕ) (done new : List Term) (x : Term) → new ≡ done ++ x ∷ [] → AreAbove m done → place x.monomial m ≡ Above
    → AreAbove m new
above-push m done new x e above here = subst (AreAbove m) (sym e) (above-append m done (x ∷ []) above (here, tt))

above-lower : (m lower : List ℕ) (done : List Term) → AreAbove m done → place m lower ≡ Above → AreAbove lower done
above-lower m lower [] above e = tt
above-lower m lower (x ∷ xs) above e = (place-chain x.monomial m lower above.0 e, above-lower m lower xs above.1 e)

above-in_front : (c : ℤ) (m lower : List ℕ) → place m lower ≡ Above → AreAbove lower (in_front c m [])
above-in_front (pos zero) m lower e = tt
above-in_front (pos (suc n)) m lower e = (e, tt)
above-in_front (negsuc n) m lower e = (e, tt)

-- what is put after terms that stand above it is passed with them
pub passed-closed : (m : List ℕ) (done all : List Term) (number : Option ℤ) → AreAbove m done
    → IsSomeAnd number (λ c. all ≡ done ++ in_front c m []) → ArePassed m all
passed-closed m done all None above h = absurd h
passed-closed m done all (Some c) above h = λ lower e.
    subst (AreAbove lower) (sym h) (above-append lower done (in_front c m []) (above-lower m lower done above e) (above-in_front c m lower e))

-- and the others stand after it
pub closed-all : (done all others rest : List Term) (m : List ℕ) (number : Option ℤ)
    → IsSomeAnd number (λ c. all ≡ done ++ in_front c m []) → rest ≡ others
    → IsSomeAnd number (λ c. all ++ reverse rest ≡ done ++ in_front c m (reverse others))
closed-all done all others rest m None h e = absurd h
closed-all done all others rest m (Some c) h e =
    (λ i. h i ++ reverse (e i)) ∙ append_assoc done (in_front c m []) (reverse others)
    ∙ ap (λ (terms : List Term). done ++ terms) (sym (in_front-append c m (reverse others)))

-- ---- a multiple is put after what stands above it
behind-cons : (x : Term) (done : List Term) (rest : Result (List Term) PolyRefusal)
    → behind (x ∷ []) (behind done rest) ≡ behind (x ∷ done) rest
behind-cons x done (Ok terms) = refl
behind-cons x done (Err e) = refl

pub more-behind : (z : ℤ) (m : List ℕ) (done xs : List Term) → AreAbove m done
    → behind done (with_more z m xs) ≡ with_more z m (done ++ xs)
more-behind z m [] xs above = behind-nil (with_more z m xs)
more-behind z m (x ∷ done) xs above =
    sym (behind-cons x done (with_more z m xs))
    ∙ ap (behind (x ∷ [])) (more-behind z m done xs above.1)
    ∙ sym (more-above z m x (done ++ xs) above.0)

-- ---- a row
-- the next product is below the one before it
next-below : (m : List ℕ) (b : Term) (bs done : List Term) → IsMonomial m → IsPoly (b ∷ bs)
    → ArePassed (product m b.monomial) done → AreAboveNext m bs done
next-below m b [] done mono poly passed = tt
next-below m b (x ∷ xs) done mono poly passed =
    passed (product m x.monomial) (product-keeps m b.monomial x.monomial mono poly.0 poly.3.0 poly.2)

pub row_later : (rest : List Term) (b : Term) (bs : List Term) → rest ≡ b ∷ bs → IsPoly rest → IsPoly bs
row_later rest b bs e poly = (subst IsPoly e poly).3

pub row_next : (m : List ℕ) (rest : List Term) (b : Term) (bs done : List Term) → rest ≡ b ∷ bs → IsMonomial m → IsPoly rest
    → ArePassed (product m b.monomial) done → AreAboveNext m bs done
row_next m rest b bs done e mono poly passed = next-below m b bs done mono (subst IsPoly e poly) passed
