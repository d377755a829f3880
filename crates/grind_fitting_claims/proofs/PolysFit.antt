-- Polynomials that terms are read as fit.
use Rattle.std.proofs.Common.{◌≡◌, ℕ, zero, suc, ◌+◌, Bool, true, false, ltb, ◌^◌, ℤ, pos, negsuc, ◌+ℤ◌, ◌*ℤ◌, FitsSigned, List, [], ◌∷◌, ◌++◌, All, Result, Ok, Err, Option, Some, None, length, refl, ap, subst, lit<}
use Rattle.std.specs.Prelude.{if◌then◌else◌}
use Rattle.std.specs.Option.{option_and_then}
use Rattle.std.specs.Int.{w128}
use Rattle.std.proofs.lemmas.Bool.{ltb-true}
use Rattle.std.proofs.lemmas.Option.{none-some, same_Some}
use Rattle.std.proofs.lemmas.List.Elements.{All-nil, All-cons, All-head, All-tail, All-push}
use Rattle.grind_term_graph.specs.declared.head.Head.{Head}
use Rattle.grind_term_graph.specs.declared.head.Head.TheVariants as head
use Rattle.grind_term_graph.specs.declared.node.Node.{Node}
use Rattle.grind_monomials.specs.declared.order.Place.{Place}
use Rattle.grind_monomials.specs.declared.order.Place.TheVariants.{Above, Same, Below}
use Rattle.grind_monomials.specs.Order.{place}
use Rattle.grind_monomials.specs.Monomials.{product}
use Rattle.grind_reach.specs.Readings.{of_one, of_two, reading_of, found, readings}
use Rattle.grind_polynomials.specs.declared.poly.PolyRefusal.{PolyRefusal}
use Rattle.grind_polynomials.specs.declared.poly.PolyRefusal.TheVariants.{Degree, Overflow}
use Rattle.grind_polynomials.specs.declared.poly.Term.{Term}
use Rattle.grind_polynomials.specs.Polynomials.{term_of, fit_or_refuse, is_over, degree}
use Rattle.grind_polynomials.specs.Sums.{and_then, signed, in_front, front, more_beside, with_more, with_multiple, with_multiples, with_product, with_products, with_all_products, sum_product}
use Rattle.grind_polynomials.specs.Readings.{answered, number_poly, node_poly, sum_poly, negated_poly, product_poly, poly_operations, polynomial}
use Rattle.grind_polynomials.proofs.Fits.{ok-err, same_Ok}
use Rattle.grind_differences.specs.Differences.{is_number_sort, poly_reading, less_poly, poly_difference}
use Rattle.grind_arithmetic_rules.specs.PolyRules.{CoefficientsFit}
use Rattle.grind_term_graph.specs.Terms.{sort_at}
use Rattle.grind_fitting_claims.specs.Fitting.{HeadFits, NumbersFit}

abbrev TermFits : Term → Type 0
TermFits term = FitsSigned w128 term.coefficient

-- a result, where it is there, fits
abbrev Fit : Result (List Term) PolyRefusal → Type 0
Fit result = (poly : List Term) → result ≡ Ok poly → CoefficientsFit poly

abbrev AnswerFits : Option (List Term) → Type 0
AnswerFits answer = (poly : List Term) → answer ≡ Some poly → CoefficientsFit poly

parts_of : {A B : Type 0} (f : A → Result B PolyRefusal) (r : Result A PolyRefusal) (y : B) → and_then f r ≡ Ok y →
    (x : A) × (r ≡ Ok x) × (f x ≡ Ok y)
parts_of {A} {B} f (Ok x) y e = (x, refl, e)
parts_of {A} {B} f (Err refusal) y e = let wrong : Result B PolyRefusal = Err refusal in absurd (ok-err wrong y refusal e refl)

pub is_fitting : (z y : ℤ) → fit_or_refuse z ≡ Ok y → FitsSigned w128 y
unfolding fit_or_refuse
is_fitting (pos n) y e = by_range (ltb n (2 ^ 127)) (pos n) y Overflow (λ low. record { sfits = ltb-true n (2 ^ 127) low }) e
  where
    by_range : (b : Bool) (z y : ℤ) (refusal : PolyRefusal) → (b ≡ true → FitsSigned w128 z) → (if b then Ok z else Err refusal) ≡ Ok y →
        FitsSigned w128 y
    by_range true z y refusal fits e = let there : Result ℤ PolyRefusal = Ok z in subst (FitsSigned w128) (same_Ok there z y refl e) (fits refl)
    by_range false z y refusal fits e = let wrong : Result ℤ PolyRefusal = Err refusal in absurd (ok-err wrong y refusal e refl)
is_fitting (negsuc n) y e = by_range (ltb n (2 ^ 127)) (negsuc n) y Overflow (λ low. record { sfits = ltb-true n (2 ^ 127) low }) e
  where
    by_range : (b : Bool) (z y : ℤ) (refusal : PolyRefusal) → (b ≡ true → FitsSigned w128 z) → (if b then Ok z else Err refusal) ≡ Ok y →
        FitsSigned w128 y
    by_range true z y refusal fits e = let there : Result ℤ PolyRefusal = Ok z in subst (FitsSigned w128) (same_Ok there z y refl e) (fits refl)
    by_range false z y refusal fits e = let wrong : Result ℤ PolyRefusal = Err refusal in absurd (ok-err wrong y refusal e refl)

in_front_fits : (number : ℤ) (monomial : List ℕ) (rest : List Term) → FitsSigned w128 number → CoefficientsFit rest →
    CoefficientsFit (in_front number monomial rest)
in_front_fits (pos zero) monomial rest fits h = h
in_front_fits (pos (suc n)) monomial rest fits h = All-cons TermFits (term_of (pos (suc n)) monomial) rest fits h
in_front_fits (negsuc n) monomial rest fits h = All-cons TermFits (term_of (negsuc n) monomial) rest fits h

front_fits : (number : ℤ) (monomial : List ℕ) (rest : List Term) → CoefficientsFit rest → Fit (front number monomial rest)
front_fits number monomial rest h poly e =
    let made = parts_of (λ (z : ℤ). Ok (in_front z monomial rest)) (fit_or_refuse number) poly e in
    let there : Result (List Term) PolyRefusal = Ok (in_front made.0 monomial rest) in
    subst CoefficientsFit (same_Ok there (in_front made.0 monomial rest) poly refl made.2)
    (in_front_fits made.0 monomial rest (is_fitting number made.0 made.1) h)

beside_fits : (at : Place) (number : ℤ) (monomial : List ℕ) (term : Term) (rest : List Term) (later : Result (List Term) PolyRefusal) →
    TermFits term → CoefficientsFit rest → Fit later → Fit (more_beside at number monomial term rest later)
beside_fits Above number monomial term rest later one others goes poly e =
    let made = parts_of (λ (terms : List Term). Ok ((term ∷ []) ++ terms)) later poly e in
    let there : Result (List Term) PolyRefusal = Ok (term ∷ made.0) in
    subst CoefficientsFit (same_Ok there (term ∷ made.0) poly refl made.2) (All-cons TermFits term made.0 one (goes made.0 made.1))
beside_fits Same number monomial term rest later one others goes poly e = front_fits (term.coefficient +ℤ number) monomial rest others poly e
beside_fits Below number monomial term rest later one others goes poly e =
    front_fits number monomial (term ∷ rest) (All-cons TermFits term rest one others) poly e

more_fits : (number : ℤ) (monomial : List ℕ) (terms : List Term) → CoefficientsFit terms → Fit (with_more number monomial terms)
unfolding with_more
more_fits number monomial [] h poly e = front_fits number monomial [] h poly e
more_fits number monomial (term ∷ rest) h poly e =
    let others = All-tail TermFits term rest h in
    beside_fits (place term.monomial monomial) number monomial term rest (with_more number monomial rest) (All-head TermFits term rest h)
    others (more_fits number monomial rest others) poly e

multiple_fits : (minus : Bool) (coefficient : ℤ) (monomial : List ℕ) (b : Term) (terms : List Term) → CoefficientsFit terms →
    Fit (with_multiple minus coefficient monomial b terms)
unfolding with_multiple
multiple_fits minus coefficient monomial b terms h poly e =
    let made = parts_of (λ (number : ℤ). with_more (signed minus number) (product monomial b.monomial) terms)
    (fit_or_refuse (coefficient *ℤ b.coefficient)) poly e in
    more_fits (signed minus made.0) (product monomial b.monomial) terms h poly made.2

same_terms : (terms poly : List Term) (result : Result (List Term) PolyRefusal) → result ≡ Ok terms → result ≡ Ok poly →
    CoefficientsFit terms → CoefficientsFit poly
same_terms terms poly result is e h = subst CoefficientsFit (same_Ok result terms poly is e) h

multiples_fit : (minus : Bool) (coefficient : ℤ) (monomial : List ℕ) (bs terms : List Term) → CoefficientsFit terms →
    Fit (with_multiples minus coefficient monomial bs terms)
unfolding with_multiples
multiples_fit minus coefficient monomial [] terms h poly e = same_terms terms poly (Ok terms) refl e h
multiples_fit minus coefficient monomial (b ∷ bs) terms h poly e =
    let made = parts_of (with_multiples minus coefficient monomial bs) (with_multiple minus coefficient monomial b terms) poly e in
    multiples_fit minus coefficient monomial bs made.0 (multiple_fits minus coefficient monomial b terms h made.0 made.1) poly made.2

by_if : {A : Type 0} (P : A → Type 0) (b : Bool) (one other : A) → P one → P other → P (if b then one else other)
by_if P true one other first second = first
by_if P false one other first second = second

none_refused : (refusal : PolyRefusal) → Fit (Err refusal)
none_refused refusal poly e = let wrong : Result (List Term) PolyRefusal = Err refusal in absurd (ok-err wrong poly refusal e refl)

product_fits : (q b : Term) (terms : List Term) → CoefficientsFit terms → Fit (with_product q b terms)
unfolding with_product
product_fits q b terms h =
    by_if Fit (is_over (length q.monomial + length b.monomial)) (Err Degree) (with_multiple false q.coefficient q.monomial b terms) (none_refused Degree)
    (multiple_fits false q.coefficient q.monomial b terms h)

products_fit : (q : Term) (bs terms : List Term) → CoefficientsFit terms → Fit (with_products q bs terms)
unfolding with_products
products_fit q [] terms h poly e = same_terms terms poly (Ok terms) refl e h
products_fit q (b ∷ bs) terms h poly e =
    let made = parts_of (with_products q bs) (with_product q b terms) poly e in
    products_fit q bs made.0 (product_fits q b terms h made.0 made.1) poly made.2

all_products_fit : (qs bs terms : List Term) → CoefficientsFit terms → Fit (with_all_products qs bs terms)
unfolding with_all_products
all_products_fit [] bs terms h poly e = same_terms terms poly (Ok terms) refl e h
all_products_fit (q ∷ qs) bs terms h poly e =
    let made = parts_of (with_all_products qs bs) (with_products q bs terms) poly e in
    all_products_fit qs bs made.0 (products_fit q bs terms h made.0 made.1) poly made.2

-- ---- readings

answer_fits : (result : Result (List Term) PolyRefusal) → Fit result → AnswerFits (answered result)
answer_fits (Ok it) fits poly e = fits poly (ap (λ (p : List Term). Ok p) (same_Some it poly e))
answer_fits (Err refusal) fits poly e = absurd (none-some poly e)

one_fits : FitsSigned w128 (pos 1)
one_fits = record { sfits = lit< tt }

node_fits : (n : ℕ) → CoefficientsFit (node_poly n)
node_fits n = All-cons TermFits (term_of (pos 1) (n ∷ [])) [] one_fits (All-nil TermFits)

some_fits : (it : List Term) → CoefficientsFit it → AnswerFits (Some it)
some_fits it h poly e = subst CoefficientsFit (same_Some it poly e) h

of_one_fits : (look : ℕ → Option (List Term)) (f : List Term → Option (List Term)) (args : List ℕ) →
    ((n : ℕ) → AnswerFits (look n)) → ((a : List Term) → CoefficientsFit a → AnswerFits (f a)) → AnswerFits (of_one look f args)
of_one_fits look f [] looks goes poly e = absurd (none-some poly e)
of_one_fits look f (a ∷ []) looks goes poly e = at (look a) (looks a) e
  where
    at : (o : Option (List Term)) → AnswerFits o → option_and_then f o ≡ Some poly → CoefficientsFit poly
    at None fits e = absurd (none-some poly e)
    at (Some it) fits e = goes it (fits it refl) poly e
of_one_fits look f (a ∷ b ∷ rest) looks goes poly e = absurd (none-some poly e)

of_two_fits : (look : ℕ → Option (List Term)) (f : List Term → List Term → Option (List Term)) (args : List ℕ) →
    ((n : ℕ) → AnswerFits (look n)) → ((a b : List Term) → CoefficientsFit a → CoefficientsFit b → AnswerFits (f a b)) →
    AnswerFits (of_two look f args)
of_two_fits look f [] looks goes poly e = absurd (none-some poly e)
of_two_fits look f (a ∷ []) looks goes poly e = absurd (none-some poly e)
of_two_fits look f (a ∷ b ∷ []) looks goes poly e = at (look a) (look b) (looks a) (looks b) e
  where
    at : (first second : Option (List Term)) → AnswerFits first → AnswerFits second →
        option_and_then (λ left. option_and_then (f left) second) first ≡ Some poly → CoefficientsFit poly
    at None second one other e = absurd (none-some poly e)
    at (Some left) None one other e = absurd (none-some poly e)
    at (Some left) (Some right) one other e = goes left right (one left refl) (other right refl) poly e
of_two_fits look f (a ∷ b ∷ c ∷ rest) looks goes poly e = absurd (none-some poly e)

sum_goes : (a b : List Term) → CoefficientsFit a → CoefficientsFit b → AnswerFits (sum_poly a b)
sum_goes a b one other = answer_fits _ (multiples_fit false (pos 1) [] b a one)

negation_goes : (a : List Term) → CoefficientsFit a → AnswerFits (negated_poly a)
negation_goes a one = answer_fits _ (multiples_fit true (pos 1) [] a [] (All-nil TermFits))

product_goes : (n : ℕ) (a b : List Term) → CoefficientsFit a → CoefficientsFit b → AnswerFits (product_poly n a b)
product_goes n a b one other =
    by_if AnswerFits (is_over (degree a + degree b)) (Some (node_poly n)) (answered (sum_product [] a b)) (some_fits (node_poly n) (node_fits n))
    (answer_fits _ (all_products_fit a b [] (All-nil TermFits)))

reading_fits : (look : ℕ → Option (List Term)) (n : ℕ) (it : Head) (args : List ℕ) → HeadFits it → ((m : ℕ) → AnswerFits (look m)) →
    AnswerFits (reading_of poly_operations look n it args)
reading_fits look n head.True args fits looks = some_fits (node_poly n) (node_fits n)
reading_fits look n head.False args fits looks = some_fits (node_poly n) (node_fits n)
reading_fits look n head.Not args fits looks = some_fits (node_poly n) (node_fits n)
reading_fits look n head.And args fits looks = some_fits (node_poly n) (node_fits n)
reading_fits look n head.Or args fits looks = some_fits (node_poly n) (node_fits n)
reading_fits look n head.Implies args fits looks = some_fits (node_poly n) (node_fits n)
reading_fits look n head.Eq args fits looks = some_fits (node_poly n) (node_fits n)
reading_fits look n head.Le args fits looks = some_fits (node_poly n) (node_fits n)
reading_fits look n (head.Int number) args fits looks = some_fits (number_poly number) (in_front_fits number [] [] fits (All-nil TermFits))
reading_fits look n head.Add args fits looks = of_two_fits look sum_poly args looks sum_goes
reading_fits look n head.Neg args fits looks = of_one_fits look negated_poly args looks negation_goes
reading_fits look n head.Mul args fits looks = of_two_fits look (product_poly n) args looks (product_goes n)
reading_fits look n (head.Fun function) args fits looks = some_fits (node_poly n) (node_fits n)
reading_fits look n (head.Const constant) args fits looks = some_fits (node_poly n) (node_fits n)

found_fits : (list : List (Option (List Term))) → All AnswerFits list → (n : ℕ) → AnswerFits (found list n)
found_fits [] all n poly e = absurd (none-some poly e)
found_fits (first ∷ rest) all zero poly e = All-head AnswerFits first rest all poly e
found_fits (first ∷ rest) all (suc n) poly e = found_fits rest (All-tail AnswerFits first rest all) n poly e

readings_fit : (done : List (Option (List Term))) (nodes : List Node) → All AnswerFits done → NumbersFit nodes →
    All AnswerFits (readings poly_operations done nodes)
unfolding readings
readings_fit done [] all fits = all
readings_fit done (node ∷ rest) all fits =
    readings_fit (done ++ reading_of poly_operations (found done) (length done) node.head node.args ∷ []) rest
    (All-push AnswerFits done (reading_of poly_operations (found done) (length done) node.head node.args) all
    (reading_fits (found done) (length done) node.head node.args (All-head (λ (it : Node). HeadFits it.head) node rest fits) (found_fits done all)))
    (All-tail (λ (it : Node). HeadFits it.head) node rest fits)

polynomial_fits : (nodes : List Node) (n : ℕ) → NumbersFit nodes → AnswerFits (polynomial nodes n)
unfolding polynomial
polynomial_fits nodes n fits = found_fits (readings poly_operations [] nodes) (readings_fit [] nodes (All-nil AnswerFits) fits) n

none_answered : AnswerFits None
none_answered poly e = absurd (none-some poly e)

poly_reading_fits : (nodes : List Node) (n : ℕ) → NumbersFit nodes → AnswerFits (poly_reading nodes n)
unfolding poly_reading
poly_reading_fits nodes n fits =
    by_if AnswerFits (is_number_sort (sort_at nodes n)) (polynomial nodes n) None (polynomial_fits nodes n fits) none_answered

of_readings : (left right : Option (List Term)) (poly : List Term) → AnswerFits left →
    option_and_then (λ a. option_and_then (λ b. less_poly a b) right) left ≡ Some poly → CoefficientsFit poly
of_readings None right poly fits e = absurd (none-some poly e)
of_readings (Some a) None poly fits e = absurd (none-some poly e)
of_readings (Some a) (Some b) poly fits e =
    answer_fits (sum_product a (number_poly (negsuc 0)) b) (all_products_fit (number_poly (negsuc 0)) b a (fits a refl)) poly e

-- a difference fits, where the numbers among the nodes do
pub poly_difference_fits : (nodes : List Node) (a b : ℕ) (poly : List Term) → NumbersFit nodes → poly_difference nodes a b ≡ Some poly →
    CoefficientsFit poly
unfolding poly_difference
poly_difference_fits nodes a b poly fits e =
    of_readings (poly_reading nodes a) (poly_reading nodes b) poly (poly_reading_fits nodes a fits) e
