-- `ideal` allows exactly its result.
use Rattle.std.proofs.Common.{◌≡◌, ◌≢◌, ℕ, suc, ◌+◌, Bool, true, false, List, [], ◌∷◌, ◌++◌, All, length, ℤ, pos, ◌+ℤ◌, ◌*ℤ◌, FitsSigned, Result, Ok, Err, Option, Some, None, refl, sym, ap, ◌∙◌, subst, arith}
use Rattle.std.specs.Int.{w128}
use Rattle.std.specs.Option.{option_and_then}
use Rattle.std.proofs.lemmas.Option.{none-some, same_Some}
use Rattle.std.proofs.lemmas.List.Elements.{All-nil, All-head, All-tail, All-append, All-cons}
use Rattle.grind_lemmas.specs.Products.{ProductsCancel}
use Rattle.grind_monomials.specs.Order.{place}
use Rattle.grind_monomials.specs.Monomials.{IsMonomial}
use Rattle.grind_monomials.proofs.CountLemmas.{rises-product}
use Rattle.grind_polynomials.specs.declared.poly.Term.{Term}
use Rattle.grind_polynomials.specs.declared.poly.PolyRefusal.{PolyRefusal}
use Rattle.grind_polynomials.specs.declared.poly.PolyRefusal.TheVariants.{Degree}
use Rattle.grind_polynomials.specs.Polynomials.{term_of, IsPoly, is_over}
use Rattle.grind_polynomials.specs.Sums.{and_then, with_more, with_product, with_products, with_all_products, sum_product}
use Rattle.grind_polynomials.specs.Readings.{answered}
use Rattle.grind_polynomials.proofs.Fits.{ok-err, same_Ok, fit_in, fit_is}
use Rattle.grind_polynomials.proofs.Products.{multiple-is, product-over, product-within, products-nil, products-cons, all-nil, all-cons}
use Rattle.grind_polynomials.proofs.Falling.{made_of, multiple-made, product-made, poly-more}
use Rattle.grind_polynomials.proofs.ReadingLemmas.{answered-some}
use Rattle.grind_differences.specs.Equations.{multiple_poly}
use Rattle.grind_claims.specs.declared.claim.Claim.{Claim}
use Rattle.grind_claims.specs.declared.claim.Claim.TheVariants as claims
use Rattle.grind_arithmetic_rules.specs.PolyRules.{zero_of, gathered, IsIdeal}
use Rattle.grind_fitting_claims.specs.Results.{AllowsResult, IsWellMade}
use Rattle.grind_fitting_claims.specs.PolyResults.{chosen, number_at, Pair, pair_number, pair_monomial, pairs_with, pairs_of, all_pairs, with_pair_added, with_pairs_added, ProductsFit, nothing, AreZeros, Divided, IsIdealResult, IdealFits, SaysZero}
use Rattle.grind_fitting_claims.proofs.PolysFit.{is_fitting}
use Rattle.grind_fitting_claims.proofs.MoreExactly.{same_at, more_is, more_there, one_poly}

-- ---- one product
pub within : (q b : Term) (terms all : List Term) → with_product q b terms ≡ Ok all
    → is_over (length q.monomial + length b.monomial) ≡ false
within q b terms all e = at_test (is_over (length q.monomial + length b.monomial)) refl
  where
    at_test : (over : Bool) → is_over (length q.monomial + length b.monomial) ≡ over → is_over (length q.monomial + length b.monomial) ≡ false
    at_test true judged = absurd (ok-err (with_product q b terms) all Degree e (product-over q b terms judged))
    at_test false judged = judged

-- the monomials of a pair are some
abbrev pub ArePlain : Pair → Type 0
ArePlain pair = IsMonomial pair.first.monomial × IsMonomial pair.second.monomial

-- what one pair adds
record Adds (pair : Pair) (terms all : List Term) : Type 0 where
  poly : IsPoly all
  numbers : (n : List ℕ) → number_at n all ≡ number_at n terms +ℤ chosen (place (pair_monomial pair) n) (pair_number pair) (pos 0)
  degree : is_over (length pair.first.monomial + length pair.second.monomial) ≡ false
  product_fits : FitsSigned w128 (pair_number pair)
  sum_fits : FitsSigned w128 (number_at (pair_monomial pair) terms +ℤ pair_number pair)

one_added : (pair : Pair) (terms all : List Term) → ArePlain pair → IsPoly terms → with_product pair.first pair.second terms ≡ Ok all
    → Adds pair terms all
one_added pair terms all plain poly e =
    let w = multiple-made false pair.first.coefficient pair.first.monomial pair.second terms all (product-made pair.first pair.second terms all e) in
    let number : w.0 ≡ pair_number pair = fit_is (pair_number pair) w.0 w.1 in
    let there : with_more (pair_number pair) (pair_monomial pair) terms ≡ Ok all =
    subst (λ (z : ℤ). with_more z (pair_monomial pair) terms ≡ Ok all) number w.2 in
    let goes = more_is (pair_number pair) (pair_monomial pair) terms all poly there in record {
      poly = poly-more (pair_number pair) (pair_monomial pair) terms all
          (rises-product pair.first.monomial pair.second.monomial 0 plain.0 plain.1) poly there;
      numbers = goes.0;
      degree = within pair.first pair.second terms all e;
      product_fits = subst (FitsSigned w128) number (is_fitting (pair_number pair) w.0 w.1);
      sum_fits = goes.1;
    }

one_there : (pair : Pair) (terms : List Term) → IsPoly terms → is_over (length pair.first.monomial + length pair.second.monomial) ≡ false
    → FitsSigned w128 (pair_number pair) → FitsSigned w128 (number_at (pair_monomial pair) terms +ℤ pair_number pair)
    → (all : List Term) × (with_product pair.first pair.second terms ≡ Ok all)
one_there pair terms poly degree fits sum_fits =
    let w = more_there (pair_number pair) (pair_monomial pair) terms poly sum_fits in (
      w.0,
      product-within pair.first pair.second terms degree
          ∙ multiple-is false pair.first.coefficient pair.first.monomial pair.second terms
          ∙ ap (and_then (λ (number : ℤ). with_more number (pair_monomial pair) terms)) (fit_in (pair_number pair) fits) ∙ w.1,
    )

-- ---- all pairs in turn
abbrev pub all_added : List Pair → List Term → Result (List Term) PolyRefusal
all_added [] terms = Ok terms
all_added (pair ∷ rest) terms = and_then (all_added rest) (with_product pair.first pair.second terms)

then_twice : (h f g : List Term → Result (List Term) PolyRefusal) (r : Result (List Term) PolyRefusal)
    → ((terms : List Term) → h terms ≡ and_then g (f terms)) → and_then h r ≡ and_then g (and_then f r)
then_twice h f g (Ok terms) same = same terms
then_twice h f g (Err refusal) same = refl

added-append : (pairs rest : List Pair) (terms : List Term) → all_added (pairs ++ rest) terms ≡ and_then (all_added rest) (all_added pairs terms)
added-append [] rest terms = refl
added-append (pair ∷ pairs) rest terms =
    then_twice (all_added (pairs ++ rest)) (all_added pairs) (all_added rest) (with_product pair.first pair.second terms)
    (λ all. added-append pairs rest all)

then_same : (f g : List Term → Result (List Term) PolyRefusal) (r : Result (List Term) PolyRefusal) → ((terms : List Term) → f terms ≡ g terms)
    → and_then f r ≡ and_then g r
then_same f g (Ok terms) same = same terms
then_same f g (Err refusal) same = refl

added-with : (q : Term) (bs terms : List Term) → with_products q bs terms ≡ all_added (pairs_with q bs) terms
added-with q [] terms = products-nil q terms
added-with q (b ∷ bs) terms =
    products-cons q b bs terms
    ∙ then_same (with_products q bs) (all_added (pairs_with q bs)) (with_product q b terms) (λ all. added-with q bs all)

pub added-of : (qs bs terms : List Term) → with_all_products qs bs terms ≡ all_added (pairs_of qs bs) terms
added-of [] bs terms = all-nil bs terms
added-of (q ∷ qs) bs terms =
    all-cons q qs bs terms
    ∙ then_same (with_all_products qs bs) (all_added (pairs_of qs bs)) (with_products q bs terms) (λ all. added-of qs bs all)
    ∙ ap (and_then (all_added (pairs_of qs bs))) (added-with q bs terms) ∙ sym (added-append (pairs_with q bs) (pairs_of qs bs) terms)

-- what all of them add to a polynomial of these coefficients
pub record AddsAll (at : List ℕ → ℤ) (pairs : List Pair) (all : List Term) : Type 0 where
  pub poly : IsPoly all
  pub numbers : (n : List ℕ) → number_at n all ≡ with_pairs_added at pairs n
  pub fit : ProductsFit at pairs

-- the coefficients after one pair
next_numbers : (at : List ℕ → ℤ) (pair : Pair) (terms all : List Term) → ((n : List ℕ) → number_at n terms ≡ at n) → Adds pair terms all
    → (n : List ℕ) → number_at n all ≡ with_pair_added at pair n
next_numbers at pair terms all same adds n =
    adds.numbers n ∙ ap (λ (z : ℤ). z +ℤ chosen (place (pair_monomial pair) n) (pair_number pair) (pos 0)) (same n)

-- the coefficient to which a pair is added
at_pair : (at : List ℕ → ℤ) (pair : Pair) (terms : List Term) → ((n : List ℕ) → number_at n terms ≡ at n)
    → number_at (pair_monomial pair) terms +ℤ pair_number pair ≡ with_pair_added at pair (pair_monomial pair)
at_pair at pair terms same =
    (λ i. same (pair_monomial pair) i +ℤ sym (same_at (pair_monomial pair) (pair_monomial pair) (pair_number pair) (pos 0) refl) i)

pub from_added : (at : List ℕ → ℤ) (pairs : List Pair) (terms all : List Term) → All ArePlain pairs → IsPoly terms
    → ((n : List ℕ) → number_at n terms ≡ at n) → all_added pairs terms ≡ Ok all → AddsAll at pairs all
from_added at [] terms all plain poly same e =
    let is : terms ≡ all = same_Ok (all_added [] terms) terms all refl e in record {
      poly = subst IsPoly is poly;
      numbers = λ n. ap (number_at n) (sym is) ∙ same n;
      fit = tt;
    }
from_added at (pair ∷ rest) terms all plain poly same e =
    let w = made_of (all_added rest) (with_product pair.first pair.second terms) all e in
    let adds = one_added pair terms w.0 (All-head ArePlain pair rest plain) poly w.1 in
    let later = from_added (with_pair_added at pair) rest w.0 all (All-tail ArePlain pair rest plain) adds.poly
    (next_numbers at pair terms w.0 same adds) w.2 in record {
      poly = later.poly;
      numbers = later.numbers;
      fit = (adds.degree, adds.product_fits, subst (FitsSigned w128) (at_pair at pair terms same) adds.sum_fits, later.fit);
    }

pub to_added : (at : List ℕ → ℤ) (pairs : List Pair) (terms : List Term) → All ArePlain pairs → IsPoly terms
    → ((n : List ℕ) → number_at n terms ≡ at n) → ProductsFit at pairs → (all : List Term) × (all_added pairs terms ≡ Ok all)
to_added at [] terms plain poly same fits = (terms, refl)
to_added at (pair ∷ rest) terms plain poly same fits =
    let w = one_there pair terms poly fits.0 fits.1 (subst (FitsSigned w128) (sym (at_pair at pair terms same)) fits.2) in
    let adds = one_added pair terms w.0 (All-head ArePlain pair rest plain) poly w.1 in
    let later = to_added (with_pair_added at pair) rest w.0 (All-tail ArePlain pair rest plain) adds.poly
    (next_numbers at pair terms w.0 same adds) fits.3 in
    (later.0, ap (and_then (all_added rest)) w.1 ∙ later.1)

-- ---- pairs of polynomials have monomials
pub plain_with : (q : Term) (bs : List Term) → IsMonomial q.monomial → IsPoly bs → All ArePlain (pairs_with q bs)
plain_with q [] one poly = All-nil ArePlain
plain_with q (b ∷ bs) one poly =
    All-cons ArePlain (record { first = q; second = b }) (pairs_with q bs) (one, poly.0) (plain_with q bs one poly.3)

pub plain_of : (qs bs : List Term) → IsPoly qs → IsPoly bs → All ArePlain (pairs_of qs bs)
plain_of [] bs left right = All-nil ArePlain
plain_of (q ∷ qs) bs left right =
    All-append ArePlain (pairs_with q bs) (pairs_of qs bs) (plain_with q bs left.0 right) (plain_of qs bs left.3 right)

plain_all : (factors polys : List (List Term)) → All IsPoly factors → All IsPoly polys → All ArePlain (all_pairs factors polys)
plain_all [] polys left right = All-nil ArePlain
plain_all (factor ∷ factors) [] left right = All-nil ArePlain
plain_all (factor ∷ factors) (poly ∷ polys) left right =
    All-append ArePlain (pairs_of factor poly) (all_pairs factors polys)
    (plain_of factor poly (All-head IsPoly factor factors left) (All-head IsPoly poly polys right))
    (plain_all factors polys (All-tail IsPoly factor factors left) (All-tail IsPoly poly polys right))

-- ---- premises
polys_are : (premises : List Claim) (polys : List (List Term)) → AreZeros premises polys → All IsWellMade premises → All IsPoly polys
polys_are [] [] zeros made = All-nil IsPoly
polys_are [] (poly ∷ polys) zeros made = absurd zeros
polys_are (premise ∷ premises) [] zeros made = absurd zeros
polys_are (premise ∷ premises) (poly ∷ polys) zeros made =
    All-cons IsPoly poly polys (subst IsWellMade zeros.0 (All-head IsWellMade premise premises made))
    (polys_are premises polys zeros.1 (All-tail IsWellMade premise premises made))

zero_is : (claim : Claim) (poly : List Term) → zero_of claim ≡ Some poly → claim ≡ claims.Zero poly
zero_is (claims.Zero it) poly e = ap (λ (p : List Term). claims.Zero p) (same_Some it poly e)
zero_is (claims.Holds n) poly e = absurd (none-some poly e)
zero_is (claims.Fails n) poly e = absurd (none-some poly e)
zero_is (claims.Same a b) poly e = absurd (none-some poly e)
zero_is (claims.Differ a b) poly e = absurd (none-some poly e)
zero_is (claims.AtMost form) poly e = absurd (none-some poly e)
zero_is claims.Absurd poly e = absurd (none-some poly e)

and_then_some : {A B : Type 0} (f : A → Option B) (o : Option A) (b : B) → option_and_then f o ≡ Some b → (a : A) × (o ≡ Some a) × (f a ≡ Some b)
and_then_some f None b e = absurd (none-some b e)
and_then_some f (Some a) b e = (a, refl, e)

-- the premises of what was gathered, and all their pairs in turn
from_gathered : (sum : List Term) (factors : List (List Term)) (premises : List Claim) (whole : List Term) → gathered sum factors premises ≡ Some whole
    → (polys : List (List Term)) × AreZeros premises polys × (length factors ≡ length premises) × (all_added (all_pairs factors polys) sum ≡ Ok whole)
from_gathered sum [] [] whole e = ([], tt, refl, ap (λ (p : List Term). Ok p) (same_Some sum whole e))
from_gathered sum [] (premise ∷ premises) whole e = absurd (none-some whole e)
from_gathered sum (factor ∷ factors) [] whole e = absurd (none-some whole e)
from_gathered sum (factor ∷ factors) (premise ∷ premises) whole e =
    let step = and_then_some (λ (next : List Term). gathered next factors premises)
    (option_and_then (λ (poly : List Term). answered (sum_product sum factor poly)) (zero_of premise)) whole e in
    let one = and_then_some (λ (poly : List Term). answered (sum_product sum factor poly)) (zero_of premise) step.0 step.1 in
    let rest = from_gathered step.0 factors premises whole step.2 in
    let first : all_added (pairs_of factor one.0) sum ≡ Ok step.0 =
    sym (added-of factor one.0 sum) ∙ answered-some (sum_product sum factor one.0) step.0 one.2 in (
      one.0 ∷ rest.0,
      (zero_is premise one.0 one.1, rest.1),
      ap suc rest.2,
      added-append (pairs_of factor one.0) (all_pairs factors rest.0) sum ∙ ap (and_then (all_added (all_pairs factors rest.0))) first ∙ rest.3,
    )

to_gathered : (sum : List Term) (factors : List (List Term)) (premises : List Claim) (polys : List (List Term)) (whole : List Term)
    → AreZeros premises polys → length factors ≡ length premises → all_added (all_pairs factors polys) sum ≡ Ok whole
    → gathered sum factors premises ≡ Some whole
to_gathered sum [] [] [] whole zeros count e = ap answered e
to_gathered sum [] [] (poly ∷ polys) whole zeros count e = absurd zeros
to_gathered sum [] (premise ∷ premises) polys whole zeros count e = absurd (omega (arith, count))
to_gathered sum (factor ∷ factors) [] polys whole zeros count e = absurd (omega (arith, count))
to_gathered sum (factor ∷ factors) (premise ∷ premises) [] whole zeros count e = absurd zeros
to_gathered sum (factor ∷ factors) (premise ∷ premises) (poly ∷ polys) whole zeros count e =
    let parts = made_of (all_added (all_pairs factors polys)) (all_added (pairs_of factor poly) sum) whole
    (sym (added-append (pairs_of factor poly) (all_pairs factors polys) sum) ∙ e) in
    let first : sum_product sum factor poly ≡ Ok parts.0 = added-of factor poly sum ∙ parts.1 in
    let step : option_and_then (λ (it : List Term). answered (sum_product sum factor it)) (zero_of premise) ≡ Some parts.0 =
    ap (λ (claim : Claim). option_and_then (λ (it : List Term). answered (sum_product sum factor it)) (zero_of claim)) zeros.0 ∙ ap answered first in
    ap (option_and_then (λ (next : List Term). gathered next factors premises)) step
    ∙ to_gathered parts.0 factors premises polys whole zeros.1 (omega (arith, count)) parts.2

same_polys : (premises : List Claim) (polys others : List (List Term)) → AreZeros premises polys → AreZeros premises others → polys ≡ others
same_polys [] [] [] is also = refl
same_polys [] [] (other ∷ others) is also = absurd also
same_polys [] (poly ∷ polys) others is also = absurd is
same_polys (premise ∷ premises) [] others is also = absurd is
same_polys (premise ∷ premises) (poly ∷ polys) [] is also = absurd also
same_polys (premise ∷ premises) (poly ∷ polys) (other ∷ others) is also =
    let first = same_Some poly other (ap zero_of (sym is.0 ∙ also.0)) in
    let rest = same_polys premises polys others is.1 also.1 in λ i. first i ∷ rest i

-- ---- quotients
head_of : List Term → Term → Term
head_of [] other = other
head_of (x ∷ xs) other = x

same_quotients : ProductsCancel → (k : ℤ) → k ≢ pos 0 → (xs ys : List Term) → multiple_poly k xs ≡ multiple_poly k ys → xs ≡ ys
same_quotients cancel k nonzero [] [] e = refl
same_quotients cancel k nonzero [] (y ∷ ys) e = absurd (let size = ap length e in omega (arith, size))
same_quotients cancel k nonzero (x ∷ xs) [] e = absurd (let size = ap length e in omega (arith, size))
same_quotients cancel k nonzero (x ∷ xs) (y ∷ ys) e =
    let first : term_of (k *ℤ x.coefficient) x.monomial ≡ term_of (k *ℤ y.coefficient) y.monomial = cc in
    let rest : multiple_poly k xs ≡ multiple_poly k ys = cc in
    let coefficient = cancel k x.coefficient y.coefficient nonzero (ap (λ (t : Term). t.coefficient) first) in
    let monomial = ap (λ (t : Term). t.monomial) first in
    let others = same_quotients cancel k nonzero xs ys rest in λ i. term_of (coefficient i) (monomial i) ∷ others i

-- ---- the rule
module _ (divisor : ℤ) (factors : List (List Term)) (premises : List Claim) (made : All IsWellMade premises) (are : All IsPoly factors) where
  from_ideal : (claim : Claim) → IsIdeal divisor factors premises claim
      → (it : Divided) × IsIdealResult divisor factors premises it × IdealFits factors it × SaysZero it claim
  from_ideal claim h =
      let w = from_gathered [] factors premises (multiple_poly divisor h.0) h.3 in
      let all = from_added nothing (all_pairs factors w.0) [] (multiple_poly divisor h.0)
      (plain_all factors w.0 are (polys_are premises w.0 w.1 made)) tt (λ n. refl) w.3 in (
        record { polys = w.0; sum = multiple_poly divisor h.0; rest = h.0 },
        record {
          zeros = w.1;
          counts = w.2;
          sum_is_poly = all.poly;
          numbers = all.numbers;
          nonzero = h.2;
          rest_is = refl;
        },
        (all.fit, h.4),
        h.1,
      )

  to_ideal : (claim : Claim) → ((it : Divided) × IsIdealResult divisor factors premises it × IdealFits factors it × SaysZero it claim)
      → IsIdeal divisor factors premises claim
  to_ideal claim w =
      let is = w.1 in
      let plain = plain_all factors w.0.polys are (polys_are premises w.0.polys is.zeros made) in
      let there = to_added nothing (all_pairs factors w.0.polys) [] plain tt (λ n. refl) w.2.0 in
      let all = from_added nothing (all_pairs factors w.0.polys) [] there.0 plain tt (λ n. refl) there.1 in
      let same : there.0 ≡ multiple_poly divisor w.0.rest =
      one_poly there.0 w.0.sum all.poly is.sum_is_poly (λ n. all.numbers n ∙ sym (is.numbers n)) ∙ is.rest_is in (
        w.0.rest,
        w.3,
        is.nonzero,
        to_gathered [] factors premises w.0.polys (multiple_poly divisor w.0.rest) is.zeros is.counts
            (there.1 ∙ ap (λ (p : List Term). Ok p) same),
        w.2.1,
      )

  pub ideal_results : ProductsCancel
      → AllowsResult (IsIdealResult divisor factors premises) (IdealFits factors) SaysZero (IsIdeal divisor factors premises)
  ideal_results cancel = record { exact = λ claim. (from_ideal claim, to_ideal claim); one = one_result }
    where
      one_result : (it other : Divided) → IsIdealResult divisor factors premises it → IsIdealResult divisor factors premises other → it ≡ other
      one_result it other is also =
          let polys = same_polys premises it.polys other.polys is.zeros also.zeros in
          let sum : it.sum ≡ other.sum = one_poly it.sum other.sum is.sum_is_poly also.sum_is_poly
          (λ n. is.numbers n ∙ ap (λ (all : List (List Term)). with_pairs_added nothing (all_pairs factors all) n) polys ∙ sym (also.numbers n)) in
          let rest : it.rest ≡ other.rest =
          same_quotients cancel divisor is.nonzero it.rest other.rest (sym is.rest_is ∙ sum ∙ also.rest_is) in
          λ i. record { polys = polys i; sum = sum i; rest = rest i }
