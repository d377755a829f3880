-- The order, the product and the quotient of monomials, clause by clause.
use Rattle.std.proofs.Common.{◌≡◌, ℕ, suc, ◌<◌, ◌≤◌, ltb, cond, List, [], ◌∷◌, ◌++◌, length, arith, sym, ap, ◌∙◌, refl}
use Rattle.std.proofs.lemmas.Bool.{cond-true, cond-false, lt-ltb, le-ltb}
use Rattle.std.proofs.lemmas.List.{append_assoc, append-nil}
use Rattle.grind_monomials.specs.declared.order.Place.TheVariants.{Above, Same, Below}
use Rattle.grind_monomials.specs.Order.{place, place_by_nodes}
use Rattle.grind_monomials.specs.Monomials.{product, product_from, quotient, quotient_from}

-- ---- the order
nodes-cons : (x y : ℕ) (xs ys : List ℕ)
    → place_by_nodes (x ∷ xs) (y ∷ ys) ≡ cond (ltb x y) Above (cond (ltb y x) Below (place_by_nodes xs ys))
unfolding place_by_nodes
nodes-cons x y xs ys = refl

nodes-none : (ys : List ℕ) → place_by_nodes [] ys ≡ Same
unfolding place_by_nodes
nodes-none ys = refl

nodes-no_others : (x : ℕ) (xs : List ℕ) → place_by_nodes (x ∷ xs) [] ≡ Same
unfolding place_by_nodes
nodes-no_others x xs = refl

pub nodes-less : (x y : ℕ) (xs ys rest others : List ℕ) → rest ≡ x ∷ xs → others ≡ y ∷ ys → x < y → place_by_nodes rest others ≡ Above
nodes-less x y xs ys rest others e f h =
    (λ i. place_by_nodes (e i) (f i)) ∙ nodes-cons x y xs ys ∙ cond-true (ltb x y) _ _ (lt-ltb x y h)

pub nodes-more : (x y : ℕ) (xs ys rest others : List ℕ) → rest ≡ x ∷ xs → others ≡ y ∷ ys → y < x → place_by_nodes rest others ≡ Below
nodes-more x y xs ys rest others e f h =
    (λ i. place_by_nodes (e i) (f i)) ∙ nodes-cons x y xs ys ∙ cond-false (ltb x y) _ _ (le-ltb x y (omega arith))
    ∙ cond-true (ltb y x) _ _ (lt-ltb y x h)

pub nodes-same : (x y : ℕ) (xs ys rest others : List ℕ) → rest ≡ x ∷ xs → others ≡ y ∷ ys → x ≤ y → y ≤ x
    → place_by_nodes rest others ≡ place_by_nodes xs ys
nodes-same x y xs ys rest others e f h i =
    (λ k. place_by_nodes (e k) (f k)) ∙ nodes-cons x y xs ys ∙ cond-false (ltb x y) _ _ (le-ltb x y i)
    ∙ cond-false (ltb y x) _ _ (le-ltb y x h)

pub nodes-end : (rest others : List ℕ) → length rest ≡ 0 → place_by_nodes rest others ≡ Same
nodes-end [] others e = nodes-none others
nodes-end (x ∷ xs) others e = absurd (omega arith)

pub nodes-no_more : (rest others : List ℕ) → length others ≡ 0 → place_by_nodes rest others ≡ Same
nodes-no_more [] others e = nodes-none others
nodes-no_more (x ∷ xs) [] e = nodes-no_others x xs
nodes-no_more (x ∷ xs) (y ∷ ys) e = absurd (omega arith)

pub place-above : (a b : List ℕ) → length b < length a → place a b ≡ Above
unfolding place
place-above a b h = cond-true (ltb (length b) (length a)) _ _ (lt-ltb (length b) (length a) h)

pub place-below : (a b : List ℕ) → length a < length b → place a b ≡ Below
unfolding place
place-below a b h =
    cond-false (ltb (length b) (length a)) _ _ (le-ltb (length b) (length a) (omega arith))
    ∙ cond-true (ltb (length a) (length b)) _ _ (lt-ltb (length a) (length b) h)

pub place-one : (a b : List ℕ) → length a ≤ length b → length b ≤ length a → place a b ≡ place_by_nodes a b
unfolding place
place-one a b h i =
    cond-false (ltb (length b) (length a)) _ _ (le-ltb (length b) (length a) h)
    ∙ cond-false (ltb (length a) (length b)) _ _ (le-ltb (length a) (length b) i)

-- ---- the product
pub product-nil : (ys : List ℕ) → product [] ys ≡ ys
unfolding product
product-nil ys = refl

pub product-last : (x : ℕ) (xs : List ℕ) → product (x ∷ xs) [] ≡ x ∷ product xs []
unfolding product product_from
product-last x xs = refl

product-cons : (x y : ℕ) (xs ys : List ℕ)
    → product (x ∷ xs) (y ∷ ys) ≡ cond (ltb y x) (y ∷ product (x ∷ xs) ys) (x ∷ product xs (y ∷ ys))
unfolding product product_from
product-cons x y xs ys = refl

pub product-left : (xs : List ℕ) → product xs [] ≡ xs
product-left [] = product-nil []
product-left (x ∷ xs) = product-last x xs ∙ ap (λ (all : List ℕ). x ∷ all) (product-left xs)

pub product-more : (x y : ℕ) (xs ys : List ℕ) → y < x → product (x ∷ xs) (y ∷ ys) ≡ y ∷ product (x ∷ xs) ys
product-more x y xs ys h = product-cons x y xs ys ∙ cond-true (ltb y x) _ _ (lt-ltb y x h)

pub product-less : (x y : ℕ) (xs ys : List ℕ) → x ≤ y → product (x ∷ xs) (y ∷ ys) ≡ x ∷ product xs (y ∷ ys)
product-less x y xs ys h = product-cons x y xs ys ∙ cond-false (ltb y x) _ _ (le-ltb y x h)

-- ---- the quotient
pub quotient-nil : (ys : List ℕ) → quotient [] ys ≡ []
unfolding quotient
quotient-nil ys = refl

pub quotient-last : (x : ℕ) (xs : List ℕ) → quotient (x ∷ xs) [] ≡ x ∷ quotient xs []
unfolding quotient quotient_from
quotient-last x xs = refl

quotient-cons : (x y : ℕ) (xs ys : List ℕ) → quotient (x ∷ xs) (y ∷ ys)
    ≡ cond (ltb y x) (quotient (x ∷ xs) ys) (cond (ltb x y) (x ∷ quotient xs (y ∷ ys)) (quotient xs ys))
unfolding quotient quotient_from
quotient-cons x y xs ys = refl

pub quotient-left : (xs : List ℕ) → quotient xs [] ≡ xs
quotient-left [] = quotient-nil []
quotient-left (x ∷ xs) = quotient-last x xs ∙ ap (λ (all : List ℕ). x ∷ all) (quotient-left xs)

pub quotient-more : (x y : ℕ) (xs ys : List ℕ) → y < x → quotient (x ∷ xs) (y ∷ ys) ≡ quotient (x ∷ xs) ys
quotient-more x y xs ys h = quotient-cons x y xs ys ∙ cond-true (ltb y x) _ _ (lt-ltb y x h)

pub quotient-less : (x y : ℕ) (xs ys : List ℕ) → x < y → quotient (x ∷ xs) (y ∷ ys) ≡ x ∷ quotient xs (y ∷ ys)
quotient-less x y xs ys h =
    quotient-cons x y xs ys ∙ cond-false (ltb y x) _ _ (le-ltb y x (omega arith)) ∙ cond-true (ltb x y) _ _ (lt-ltb x y h)

pub quotient-same : (x y : ℕ) (xs ys : List ℕ) → x ≤ y → y ≤ x → quotient (x ∷ xs) (y ∷ ys) ≡ quotient xs ys
quotient-same x y xs ys h i =
    quotient-cons x y xs ys ∙ cond-false (ltb y x) _ _ (le-ltb y x h) ∙ cond-false (ltb x y) _ _ (le-ltb x y i)

-- ---- the steps of the loops
module _ (whole all rest others xs ys : List ℕ) (x y : ℕ) (rest_is : rest ≡ x ∷ xs) (others_is : others ≡ y ∷ ys) where
  module _ (so_far : all ++ product rest others ≡ whole) where
    product_opened : all ++ product (x ∷ xs) (y ∷ ys) ≡ whole
    product_opened = (λ i. all ++ product (sym rest_is i) (sym others_is i)) ∙ so_far

    pub product_step_more : (new : List ℕ) → new ≡ all ++ y ∷ [] → y < x → new ++ product rest ys ≡ whole
    product_step_more new e h =
        (λ i. e i ++ product (rest_is i) ys) ∙ append_assoc all (y ∷ []) (product (x ∷ xs) ys)
        ∙ ap (λ (more : List ℕ). all ++ more) (sym (product-more x y xs ys h)) ∙ product_opened

    pub product_step_less : (new : List ℕ) → new ≡ all ++ x ∷ [] → x ≤ y → new ++ product xs others ≡ whole
    product_step_less new e h =
        (λ i. e i ++ product xs (others_is i)) ∙ append_assoc all (x ∷ []) (product xs (y ∷ ys))
        ∙ ap (λ (more : List ℕ). all ++ more) (sym (product-less x y xs ys h)) ∙ product_opened

  module _ (so_far : all ++ quotient rest others ≡ whole) where
    quotient_opened : all ++ quotient (x ∷ xs) (y ∷ ys) ≡ whole
    quotient_opened = (λ i. all ++ quotient (sym rest_is i) (sym others_is i)) ∙ so_far

    pub quotient_step_more : y < x → all ++ quotient rest ys ≡ whole
    quotient_step_more h =
        ap (λ (more : List ℕ). all ++ quotient more ys) rest_is
        ∙ ap (λ (more : List ℕ). all ++ more) (sym (quotient-more x y xs ys h)) ∙ quotient_opened

    pub quotient_step_less : (new : List ℕ) → new ≡ all ++ x ∷ [] → x < y → new ++ quotient xs others ≡ whole
    quotient_step_less new e h =
        (λ i. e i ++ quotient xs (others_is i)) ∙ append_assoc all (x ∷ []) (quotient xs (y ∷ ys))
        ∙ ap (λ (more : List ℕ). all ++ more) (sym (quotient-less x y xs ys h)) ∙ quotient_opened

    pub quotient_step_same : x ≤ y → y ≤ x → all ++ quotient xs ys ≡ whole
    quotient_step_same h i = ap (λ (more : List ℕ). all ++ more) (sym (quotient-same x y xs ys h i)) ∙ quotient_opened

-- ---- the ends of the loops
pub product_end : (all rest others : List ℕ) → length rest ≡ 0 → all ++ product rest others ≡ all ++ others
product_end all [] others e = ap (λ (more : List ℕ). all ++ more) (product-nil others)
product_end all (x ∷ xs) others e = absurd (omega arith)

pub product_rest : (all rest others : List ℕ) → length others ≡ 0 → all ++ product rest others ≡ all ++ rest
product_rest all rest [] e = ap (λ (more : List ℕ). all ++ more) (product-left rest)
product_rest all rest (y ∷ ys) e = absurd (omega arith)

pub quotient_end : (all rest others : List ℕ) → length rest ≡ 0 → all ++ quotient rest others ≡ all
quotient_end all [] others e = ap (λ (more : List ℕ). all ++ more) (quotient-nil others) ∙ append-nil all
quotient_end all (x ∷ xs) others e = absurd (omega arith)

pub quotient_rest : (all rest others : List ℕ) → length others ≡ 0 → all ++ quotient rest others ≡ all ++ rest
quotient_rest all rest [] e = ap (λ (more : List ℕ). all ++ more) (quotient-left rest)
quotient_rest all rest (y ∷ ys) e = absurd (omega arith)

-- ---- divisibility
module _ (rest others xs ys : List ℕ) (x y : ℕ) (rest_is : rest ≡ x ∷ xs) (others_is : others ≡ y ∷ ys) where
  pub divides_step_more : y < x → quotient rest ys ≡ quotient rest others
  divides_step_more h =
      ap (λ (more : List ℕ). quotient more ys) rest_is ∙ sym (quotient-more x y xs ys h)
      ∙ (λ i. quotient (sym rest_is i) (sym others_is i))

  pub divides_step_same : x ≤ y → y ≤ x → quotient xs ys ≡ quotient rest others
  divides_step_same h i = sym (quotient-same x y xs ys h i) ∙ (λ i. quotient (sym rest_is i) (sym others_is i))

  pub divides_fails : x < y → quotient rest others ≡ [] → ⊥
  divides_fails h e =
      cons_nil x (quotient xs (y ∷ ys)) (sym (quotient-less x y xs ys h) ∙ (λ i. quotient (sym rest_is i) (sym others_is i)) ∙ e)
    where
      cons_nil : (x : ℕ) (xs : List ℕ) → x ∷ xs ≡ [] → ⊥
      cons_nil x xs e = let size : suc (length xs) ≡ 0 = ap length e in omega arith

pub divides_end : (rest others : List ℕ) → length rest ≡ 0 → quotient rest others ≡ []
divides_end [] others e = quotient-nil others
divides_end (x ∷ xs) others e = absurd (omega arith)

pub divides_no_more : (rest others xs : List ℕ) (x : ℕ) → rest ≡ x ∷ xs → length others ≡ 0 → quotient rest others ≡ [] → ⊥
divides_no_more rest [] xs x rest_is e f =
    let size : suc (length xs) ≡ 0 = ap length (sym rest_is ∙ sym (quotient-left rest) ∙ f) in omega arith
divides_no_more rest (y ∷ ys) xs x rest_is e f = absurd (omega arith)
