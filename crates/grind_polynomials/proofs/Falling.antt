-- What is made of polynomials is one.
use Rattle.std.proofs.Common.{◌≡◌, ℕ, zero, suc, ◌+◌, Bool, true, false, List, [], ◌∷◌, ◌++◌, length, ℤ, pos, negsuc, ◌+ℤ◌, ◌*ℤ◌, Result, Ok, Err, sym, ◌∙◌, refl, subst}
use Rattle.grind_monomials.specs.declared.order.Place.{Place}
use Rattle.grind_monomials.specs.declared.order.Place.TheVariants.{Above, Same, Below}
use Rattle.grind_monomials.specs.Order.{place}
use Rattle.grind_monomials.specs.Monomials.{IsMonomial, product}
use Rattle.grind_monomials.proofs.Orders.{place-same, place-turn, place-chain}
use Rattle.grind_monomials.proofs.CountLemmas.{rises-product}
use Rattle.grind_polynomials.specs.declared.poly.Term.{Term}
use Rattle.grind_polynomials.specs.declared.poly.PolyRefusal.{PolyRefusal}
use Rattle.grind_polynomials.specs.declared.poly.PolyRefusal.TheVariants.{Degree}
use Rattle.grind_polynomials.specs.Polynomials.{StartsBelow, IsPoly, is_over, fit_or_refuse}
use Rattle.grind_polynomials.specs.Sums.{and_then, signed, in_front, front, behind, with_more, with_multiple, with_multiples, with_product, with_products, with_all_products}
use Rattle.grind_polynomials.proofs.Fits.{ok-err, same_Ok}
use Rattle.grind_polynomials.proofs.Putting.{more-nil, more-above, more-same, more-below}
use Rattle.grind_polynomials.proofs.Products.{multiple-is, multiples-nil, multiples-cons, product-over, product-within, products-nil, products-cons, all-nil, all-cons}

-- ---- answers
-- an answer that is made of another
pub made_of : {A B : Type 0} → (f : A → Result B PolyRefusal) (r : Result A PolyRefusal) (b : B) → and_then f r ≡ Ok b
    → (a : A) × (r ≡ Ok a) × (f a ≡ Ok b)
made_of f (Ok a) b e = (a, refl, e)
made_of f (Err x) b e = absurd (ok-err (Err x) b x e refl)

pub front-made : (z : ℤ) (m : List ℕ) (rest all : List Term) → front z m rest ≡ Ok all
    → (c : ℤ) × (fit_or_refuse z ≡ Ok c) × (in_front c m rest ≡ all)
front-made z m rest all e =
    let w = made_of (λ number. Ok (in_front number m rest)) (fit_or_refuse z) all e in
    (w.0, w.1, same_Ok (Ok (in_front w.0 m rest)) (in_front w.0 m rest) all refl w.2)

pub behind-made : (done : List Term) (rest : Result (List Term) PolyRefusal) (all : List Term) → behind done rest ≡ Ok all
    → (later : List Term) × (rest ≡ Ok later) × (done ++ later ≡ all)
behind-made done rest all e =
    let w = made_of (λ terms. Ok (done ++ terms)) rest all e in
    (w.0, w.1, same_Ok (Ok (done ++ w.0)) (done ++ w.0) all refl w.2)

pub multiple-made : (minus : Bool) (c : ℤ) (m : List ℕ) (b : Term) (terms all : List Term) → with_multiple minus c m b terms ≡ Ok all
    → (number : ℤ) × (fit_or_refuse (c *ℤ b.coefficient) ≡ Ok number) × (with_more (signed minus number) (product m b.monomial) terms ≡ Ok all)
multiple-made minus c m b terms all e =
    made_of (λ number. with_more (signed minus number) (product m b.monomial) terms) (fit_or_refuse (c *ℤ b.coefficient)) all
    (sym (multiple-is minus c m b terms) ∙ e)

pub product-made : (q b : Term) (terms all : List Term) → with_product q b terms ≡ Ok all
    → with_multiple false q.coefficient q.monomial b terms ≡ Ok all
product-made q b terms all e = at_test (is_over (length q.monomial + length b.monomial)) refl
  where
    at_test : (over : Bool) → is_over (length q.monomial + length b.monomial) ≡ over
        → with_multiple false q.coefficient q.monomial b terms ≡ Ok all
    at_test true judged = absurd (ok-err (with_product q b terms) all Degree e (product-over q b terms judged))
    at_test false judged = sym (product-within q b terms judged) ∙ e

-- ---- a term in front
positive_is : (n : ℕ) → pos (suc n) ≡ pos 0 → ⊥
positive_is n e = cc

negative_is : (n : ℕ) → negsuc n ≡ pos 0 → ⊥
negative_is n e = cc

poly-in_front : (c : ℤ) (m : List ℕ) (rest : List Term) → IsMonomial m → StartsBelow m rest → IsPoly rest → IsPoly (in_front c m rest)
poly-in_front (pos zero) m rest mono starts poly = poly
poly-in_front (pos (suc n)) m rest mono starts poly = (mono, positive_is n, starts, poly)
poly-in_front (negsuc n) m rest mono starts poly = (mono, negative_is n, starts, poly)

starts-in_front : (c : ℤ) (m top : List ℕ) (rest : List Term) → place top m ≡ Above → StartsBelow top rest
    → StartsBelow top (in_front c m rest)
starts-in_front (pos zero) m top rest above starts = starts
starts-in_front (pos (suc n)) m top rest above starts = above
starts-in_front (negsuc n) m top rest above starts = above

pub starts-chain : (top m : List ℕ) (rest : List Term) → place top m ≡ Above → StartsBelow m rest → StartsBelow top rest
starts-chain top m [] above starts = tt
starts-chain top m (x ∷ xs) above starts = place-chain top m x.monomial above starts

-- ---- a multiple of a monomial more
record Keeps (m : List ℕ) (terms all : List Term) : Type 0 where
  poly : IsPoly all
  starts : (top : List ℕ) → place top m ≡ Above → StartsBelow top terms → StartsBelow top all

keeps-front : (z : ℤ) (m : List ℕ) (rest terms all : List Term) → IsMonomial m → StartsBelow m rest → IsPoly rest
    → ((top : List ℕ) → place top m ≡ Above → StartsBelow top terms → StartsBelow top rest)
    → front z m rest ≡ Ok all → Keeps m terms all
keeps-front z m rest terms all mono starts poly from e =
    let w = front-made z m rest all e in record {
      poly = subst IsPoly w.2 (poly-in_front w.0 m rest mono starts poly);
      starts = λ top above begins. subst (StartsBelow top) w.2 (starts-in_front w.0 m top rest above (from top above begins));
    }

keeps-more : (z : ℤ) (m : List ℕ) (terms all : List Term) → IsMonomial m → IsPoly terms → with_more z m terms ≡ Ok all → Keeps m terms all
keeps-more z m [] all mono poly e =
    keeps-front z m [] [] all mono tt tt (λ top above starts. tt) (sym (more-nil z m) ∙ e)
keeps-more z m (x ∷ xs) all mono poly e =
    at_place (place x.monomial m) refl (λ later is. keeps-more z m xs later mono poly.3 is)
  where
    at_place : (p : Place) → place x.monomial m ≡ p → ((later : List Term) → with_more z m xs ≡ Ok later → Keeps m xs later)
        → Keeps m (x ∷ xs) all
    at_place Above above later =
        let w = behind-made (x ∷ []) (with_more z m xs) all (sym (more-above z m x xs above) ∙ e) in
        let kept = later w.0 w.1 in record {
          poly = subst IsPoly w.2 (poly.0, poly.1, kept.starts x.monomial above poly.2, kept.poly);
          starts = λ top higher starts. subst (StartsBelow top) w.2 starts;
        }
    at_place Same same later =
        let one = place-same x.monomial m same in
        keeps-front (x.coefficient +ℤ z) m xs (x ∷ xs) all mono (subst (λ (n : List ℕ). StartsBelow n xs) one poly.2) poly.3
        (λ top above starts. starts-chain top x.monomial xs starts poly.2)
        (sym (more-same z m x xs same) ∙ e)
    at_place Below below later =
        keeps-front z m (x ∷ xs) (x ∷ xs) all mono (place-turn x.monomial m below) poly (λ top above starts. starts)
        (sym (more-below z m x xs below) ∙ e)

pub poly-more : (z : ℤ) (m : List ℕ) (terms all : List Term) → IsMonomial m → IsPoly terms → with_more z m terms ≡ Ok all → IsPoly all
poly-more z m terms all mono poly e = (keeps-more z m terms all mono poly e).poly

-- ---- products
pub poly-multiple : (minus : Bool) (c : ℤ) (m : List ℕ) (b : Term) (terms all : List Term) → IsMonomial m → IsMonomial b.monomial
    → IsPoly terms → with_multiple minus c m b terms ≡ Ok all → IsPoly all
poly-multiple minus c m b terms all mono other poly e =
    let w = multiple-made minus c m b terms all e in
    poly-more (signed minus w.0) (product m b.monomial) terms all (rises-product m b.monomial 0 mono other) poly w.2

pub poly-multiples : (minus : Bool) (c : ℤ) (m : List ℕ) (bs terms all : List Term) → IsMonomial m → IsPoly bs
    → IsPoly terms → with_multiples minus c m bs terms ≡ Ok all → IsPoly all
poly-multiples minus c m [] terms all mono others poly e =
    subst IsPoly (same_Ok (with_multiples minus c m [] terms) terms all (multiples-nil minus c m terms) e) poly
poly-multiples minus c m (b ∷ bs) terms all mono others poly e =
    let w = made_of (with_multiples minus c m bs) (with_multiple minus c m b terms) all (sym (multiples-cons minus c m b bs terms) ∙ e) in
    poly-multiples minus c m bs w.0 all mono others.3 (poly-multiple minus c m b terms w.0 mono others.0 poly w.1) w.2

pub poly-products : (q : Term) (bs terms all : List Term) → IsMonomial q.monomial → IsPoly bs
    → IsPoly terms → with_products q bs terms ≡ Ok all → IsPoly all
poly-products q [] terms all mono others poly e =
    subst IsPoly (same_Ok (with_products q [] terms) terms all (products-nil q terms) e) poly
poly-products q (b ∷ bs) terms all mono others poly e =
    let w = made_of (with_products q bs) (with_product q b terms) all (sym (products-cons q b bs terms) ∙ e) in
    poly-products q bs w.0 all mono others.3
    (poly-multiple false q.coefficient q.monomial b terms w.0 mono others.0 poly (product-made q b terms w.0 w.1)) w.2

pub poly-all_products : (qs bs terms all : List Term) → IsPoly qs → IsPoly bs → IsPoly terms → with_all_products qs bs terms ≡ Ok all
    → IsPoly all
poly-all_products [] bs terms all left right poly e =
    subst IsPoly (same_Ok (with_all_products [] bs terms) terms all (all-nil bs terms) e) poly
poly-all_products (q ∷ qs) bs terms all left right poly e =
    let w = made_of (with_all_products qs bs) (with_products q bs terms) all (sym (all-cons q qs bs terms) ∙ e) in
    poly-all_products qs bs w.0 all left.3 right (poly-products q bs terms w.0 left.0 right poly w.1) w.2
