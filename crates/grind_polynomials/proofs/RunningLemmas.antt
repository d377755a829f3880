-- A running sum: one coefficient is put at a key, and the terms have the monomial so often more.
use Rattle.std.proofs.Common.{◌≡◌, zero, suc, List, [], ◌∷◌, ◌++◌, ℤ, pos, negsuc, ◌+ℤ◌, Option, Some, Result, Ok, Err, Bool, cond, sym, ap, ◌∙◌, refl, subst}
use Rattle.std.proofs.lemmas.Bool.{cond-false}
use Rattle.std.proofs.lemmas.List.{append_assoc}
use Rattle.std.proofs.lemmas.Map.{NonePasses, lookup-none}
use Rattle.std.proofs.lemmas.Map.Entries.{none_below_head}
use Rattle.std.proofs.lemmas.Map.Keys.{sorted_tail}
use Rattle.std.specs.BTreeMap.{insert_entry, is_at}
use Rattle.std.specs.Cmp.{IsTotalOrder, on_total}
use Rattle.std.specs.List.Sorted.{IsStrictlySortedBy}
use Rattle.std.specs.Map.{keys_of, lookup, remove_entry}
use Rattle.std.specs.Option.{unwrap_or}
use Rattle.std.specs.Ordering.{is_eq, match_ordering}
use Rattle.grind_monomials.specs.declared.order.Place.{Place}
use Rattle.grind_monomials.specs.declared.order.Place.TheVariants.{Above, Same, Below}
use Rattle.grind_monomials.specs.Order.{place}
use Rattle.grind_monomials.proofs.Orders.{place-same, place-chain}
use Rattle.grind_polynomials.specs.declared.keys.Key.{Key}
use Rattle.grind_polynomials.specs.declared.poly.Term.{Term}
use Rattle.grind_polynomials.specs.declared.poly.PolyRefusal.{PolyRefusal}
use Rattle.grind_polynomials.specs.Polynomials.{IsPoly, term_of, fit_or_refuse}
use Rattle.grind_polynomials.specs.Keys.{order_of, descending_total}
use Rattle.grind_polynomials.specs.Running.{key_order, entry_terms, coefficient_of_key, with_coefficient}
use Rattle.grind_polynomials.specs.Sums.{and_then, in_front, behind, with_more}
use Rattle.grind_polynomials.proofs.Putting.{more-nil, more-above, more-same, more-below, zero_first}

pub key_order_total : IsTotalOrder key_order
key_order_total = on_total (λ k. k.monomial) descending_total

-- what is made of two numbers that are one is one
same_made : (x y : ℤ) (f g : ℤ → List Term) → x ≡ y → ((c : ℤ) → f c ≡ g c)
    → and_then (λ c. Ok (f c)) (fit_or_refuse x) ≡ and_then (λ c. Ok (g c)) (fit_or_refuse y)
same_made x y f g e h = λ i. and_then (λ c. Ok (h c i)) (fit_or_refuse (e i))

behind-made_of : (x : Term) (f : ℤ → List Term) (r : Result ℤ PolyRefusal)
    → behind (x ∷ []) (and_then (λ c. Ok (f c)) r) ≡ and_then (λ c. Ok (x ∷ f c)) r
behind-made_of x f (Ok c) = refl
behind-made_of x f (Err e) = refl

remove-none : (test : Key → Bool) (es : List (Key × ℤ)) → NonePasses test es → remove_entry test es ≡ es
remove-none test [] none = refl
remove-none test (e ∷ es) none =
    cond-false (test e.0) _ _ none.0 ∙ ap (λ (rest : List (Key × ℤ)). e ∷ rest) (remove-none test es none.1)

-- ---- the coefficient at a key, and another one put there
module _ (key : Key) (e : Key × ℤ) (es : List (Key × ℤ)) where
  at-above : place e.0.monomial key.monomial ≡ Above → coefficient_of_key key (e ∷ es) ≡ coefficient_of_key key es
  at-above is = λ i. unwrap_or (cond (is_eq (order_of (is i))) (Some e.1) (lookup (is_at (key_order key)) es)) (pos 0)

  at-same : place e.0.monomial key.monomial ≡ Same → coefficient_of_key key (e ∷ es) ≡ e.1
  at-same is = λ i. unwrap_or (cond (is_eq (order_of (is i))) (Some e.1) (lookup (is_at (key_order key)) es)) (pos 0)

  put-above : place e.0.monomial key.monomial ≡ Above → (c : ℤ)
      → with_coefficient c key (e ∷ es) ≡ e ∷ with_coefficient c key es
  put-above is (pos zero) = λ i. cond (is_eq (order_of (is i))) es (e ∷ remove_entry (is_at (key_order key)) es)
  put-above is (pos (suc n)) =
      λ i. match_ordering (order_of (is i)) ((key, pos (suc n)) ∷ e ∷ es) ((e.0, pos (suc n)) ∷ es) (e ∷ insert_entry key_order es key (pos (suc n)))
  put-above is (negsuc n) =
      λ i. match_ordering (order_of (is i)) ((key, negsuc n) ∷ e ∷ es) ((e.0, negsuc n) ∷ es) (e ∷ insert_entry key_order es key (negsuc n))

  put-same : place e.0.monomial key.monomial ≡ Same → (c : ℤ)
      → in_front c key.monomial (entry_terms es) ≡ entry_terms (with_coefficient c key (e ∷ es))
  put-same is (pos zero) =
      sym (λ i. entry_terms (cond (is_eq (order_of (is i))) es (e ∷ remove_entry (is_at (key_order key)) es)))
  put-same is (pos (suc n)) =
      (λ i. term_of (pos (suc n)) (sym (place-same e.0.monomial key.monomial is) i) ∷ entry_terms es)
      ∙ sym (λ i. entry_terms (match_ordering (order_of (is i)) ((key, pos (suc n)) ∷ e ∷ es) ((e.0, pos (suc n)) ∷ es) (e ∷ insert_entry key_order es key (pos (suc n)))))
  put-same is (negsuc n) =
      (λ i. term_of (negsuc n) (sym (place-same e.0.monomial key.monomial is) i) ∷ entry_terms es)
      ∙ sym (λ i. entry_terms (match_ordering (order_of (is i)) ((key, negsuc n) ∷ e ∷ es) ((e.0, negsuc n) ∷ es) (e ∷ insert_entry key_order es key (negsuc n))))

  module _ (sorted : IsStrictlySortedBy key_order (keys_of (e ∷ es))) (is : place e.0.monomial key.monomial ≡ Below) where
    none-below : NonePasses (is_at (key_order key)) (e ∷ es)
    none-below = none_below_head key_order_total key e es sorted (ap order_of is)

    at-below : coefficient_of_key key (e ∷ es) ≡ pos 0
    at-below = ap (λ (found : Option ℤ). unwrap_or found (pos 0)) (lookup-none (is_at (key_order key)) (e ∷ es) none-below)

    put-below : (c : ℤ) → in_front c key.monomial (entry_terms (e ∷ es)) ≡ entry_terms (with_coefficient c key (e ∷ es))
    put-below (pos zero) = sym (ap entry_terms (remove-none (is_at (key_order key)) (e ∷ es) none-below))
    put-below (pos (suc n)) =
        sym (λ i. entry_terms (match_ordering (order_of (is i)) ((key, pos (suc n)) ∷ e ∷ es) ((e.0, pos (suc n)) ∷ es) (e ∷ insert_entry key_order es key (pos (suc n)))))
    put-below (negsuc n) =
        sym (λ i. entry_terms (match_ordering (order_of (is i)) ((key, negsuc n) ∷ e ∷ es) ((e.0, negsuc n) ∷ es) (e ∷ insert_entry key_order es key (negsuc n))))

put-nil : (key : Key) (c : ℤ) → in_front c key.monomial [] ≡ entry_terms (with_coefficient c key [])
put-nil key (pos zero) = refl
put-nil key (pos (suc n)) = refl
put-nil key (negsuc n) = refl

-- ---- a multiple of a monomial more
abbrev made_at : ℤ → Key → List (Key × ℤ) → Result (List Term) PolyRefusal
made_at z key es = and_then (λ c. Ok (entry_terms (with_coefficient c key es))) (fit_or_refuse (coefficient_of_key key es +ℤ z))

pub more-is : (z : ℤ) (key : Key) (es : List (Key × ℤ)) → IsStrictlySortedBy key_order (keys_of es)
    → with_more z key.monomial (entry_terms es)
    ≡ and_then (λ c. Ok (entry_terms (with_coefficient c key es))) (fit_or_refuse (coefficient_of_key key es +ℤ z))
more-is z key [] sorted =
    more-nil z key.monomial
    ∙ same_made z (pos 0 +ℤ z) (λ c. in_front c key.monomial []) (λ c. entry_terms (with_coefficient c key [])) (sym (zero_first z)) (put-nil key)
more-is z key (e ∷ es) sorted =
    at_place (place e.0.monomial key.monomial) refl (more-is z key es (sorted_tail key_order e.0 (keys_of es) sorted))
  where
    at_place : (p : Place) → place e.0.monomial key.monomial ≡ p → with_more z key.monomial (entry_terms es) ≡ made_at z key es
        → with_more z key.monomial (entry_terms (e ∷ es)) ≡ made_at z key (e ∷ es)
    at_place Above is later =
        more-above z key.monomial (term_of e.1 e.0.monomial) (entry_terms es) is
        ∙ ap (behind (term_of e.1 e.0.monomial ∷ [])) later
        ∙ behind-made_of (term_of e.1 e.0.monomial) (λ c. entry_terms (with_coefficient c key es)) (fit_or_refuse (coefficient_of_key key es +ℤ z))
        ∙ same_made (coefficient_of_key key es +ℤ z) (coefficient_of_key key (e ∷ es) +ℤ z)
        (λ c. term_of e.1 e.0.monomial ∷ entry_terms (with_coefficient c key es)) (λ c. entry_terms (with_coefficient c key (e ∷ es)))
        (ap (λ (x : ℤ). x +ℤ z) (sym (at-above key e es is))) (λ c. ap entry_terms (sym (put-above key e es is c)))
    at_place Same is later =
        more-same z key.monomial (term_of e.1 e.0.monomial) (entry_terms es) is
        ∙ same_made (e.1 +ℤ z) (coefficient_of_key key (e ∷ es) +ℤ z)
        (λ c. in_front c key.monomial (entry_terms es)) (λ c. entry_terms (with_coefficient c key (e ∷ es)))
        (ap (λ (x : ℤ). x +ℤ z) (sym (at-same key e es is))) (put-same key e es is)
    at_place Below is later =
        more-below z key.monomial (term_of e.1 e.0.monomial) (entry_terms es) is
        ∙ same_made z (coefficient_of_key key (e ∷ es) +ℤ z)
        (λ c. in_front c key.monomial (entry_terms (e ∷ es))) (λ c. entry_terms (with_coefficient c key (e ∷ es)))
        (sym (ap (λ (x : ℤ). x +ℤ z) (at-below key e es sorted is) ∙ zero_first z)) (put-below key e es sorted is)

module _ (z : ℤ) (key : Key) (es new : List (Key × ℤ)) (sorted : IsStrictlySortedBy key_order (keys_of es)) where
  pub more_put : (c : ℤ) → fit_or_refuse (coefficient_of_key key es +ℤ z) ≡ Ok c → new ≡ with_coefficient c key es
      → with_more z key.monomial (entry_terms es) ≡ Ok (entry_terms new)
  more_put c fits is =
      more-is z key es sorted
      ∙ ap (and_then (λ c. Ok (entry_terms (with_coefficient c key es)))) fits
      ∙ ap (λ (entries : List (Key × ℤ)). Ok (entry_terms entries)) (sym is)

  pub more_refused : (refusal : PolyRefusal) → fit_or_refuse (coefficient_of_key key es +ℤ z) ≡ Err refusal
      → with_more z key.monomial (entry_terms es) ≡ Err refusal
  more_refused refusal over =
      more-is z key es sorted ∙ ap (and_then (λ c. Ok (entry_terms (with_coefficient c key es)))) over

-- ---- the terms of a polynomial, entered in turn
-- of terms that fall, the first stands above a later one
falls-above : (x : Term) (before : List Term) (later : Term) (rest : List Term) → IsPoly (x ∷ before ++ later ∷ rest)
    → place x.monomial later.monomial ≡ Above
falls-above x [] later rest poly = poly.2
falls-above x (y ∷ ys) later rest poly =
    place-chain x.monomial y.monomial later.monomial poly.2 (falls-above y ys later rest poly.3)

entered : (key : Key) (c : ℤ) (es : List (Key × ℤ)) (rest : List Term) → IsPoly (entry_terms es ++ term_of c key.monomial ∷ rest)
    → entry_terms (insert_entry key_order es key c) ≡ entry_terms es ++ term_of c key.monomial ∷ []
entered key c [] rest poly = refl
entered key c (e ∷ es) rest poly =
    let above = falls-above (term_of e.1 e.0.monomial) (entry_terms es) (term_of c key.monomial) rest poly in
    (λ i. entry_terms (match_ordering (order_of (above i)) ((key, c) ∷ e ∷ es) ((e.0, c) ∷ es) (e ∷ insert_entry key_order es key c)))
    ∙ ap (λ (terms : List Term). term_of e.1 e.0.monomial ∷ terms) (entered key c es rest poly.3)

module _ (key : Key) (c : ℤ) (es new : List (Key × ℤ)) (x : Term) (rest tail whole : List Term) (rest_is : rest ≡ x ∷ tail)
    (term_is : term_of c key.monomial ≡ x) where
  pub started_step : IsPoly whole → new ≡ insert_entry key_order es key c → entry_terms es ++ rest ≡ whole → entry_terms new ++ tail ≡ whole
  started_step poly new_is so_far =
      let opened : entry_terms es ++ term_of c key.monomial ∷ tail ≡ whole =
      (λ i. entry_terms es ++ term_is i ∷ tail) ∙ ap (λ (terms : List Term). entry_terms es ++ terms) (sym rest_is) ∙ so_far in
      (λ i. entry_terms (new_is i) ++ tail)
      ∙ ap (λ (terms : List Term). terms ++ tail) (entered key c es tail (subst IsPoly (sym opened) poly))
      ∙ append_assoc (entry_terms es) (term_of c key.monomial ∷ []) tail ∙ opened
