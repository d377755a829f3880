-- The order of monomials is one.
use Rattle.std.proofs.Common.{◌≡◌, ◌⊎◌, inl, inr, ℕ, ◌<◌, List, [], ◌∷◌, length, arith, sym, ◌∙◌, refl}
use Rattle.std.proofs.lemmas.Bool.{cases_order}
use Rattle.grind_monomials.specs.declared.order.Place.TheVariants.{Above, Same, Below}
use Rattle.grind_monomials.specs.Order.{place, place_by_nodes}
use Rattle.grind_monomials.proofs.Clauses.{nodes-less, nodes-more, nodes-same, nodes-end, nodes-no_more, place-above, place-below, place-one}

pub same-not_above : Same ≡ Above → ⊥
same-not_above e = cc

pub below-not_above : Below ≡ Above → ⊥
below-not_above e = cc

pub above-not_same : Above ≡ Same → ⊥
above-not_same e = cc

below-not_same : Below ≡ Same → ⊥
below-not_same e = cc

same-not_below : Same ≡ Below → ⊥
same-not_below e = cc

above-not_below : Above ≡ Below → ⊥
above-not_below e = cc

-- ---- lists of one length
module _ (x y : ℕ) (xs ys : List ℕ) where
  pub less : x < y → place_by_nodes (x ∷ xs) (y ∷ ys) ≡ Above
  less h = nodes-less x y xs ys (x ∷ xs) (y ∷ ys) refl refl h

  pub more : y < x → place_by_nodes (x ∷ xs) (y ∷ ys) ≡ Below
  more h = nodes-more x y xs ys (x ∷ xs) (y ∷ ys) refl refl h

  pub same : x ≡ y → place_by_nodes (x ∷ xs) (y ∷ ys) ≡ place_by_nodes xs ys
  same e = nodes-same x y xs ys (x ∷ xs) (y ∷ ys) refl refl (omega arith) (omega arith)

pub nodes-one : (xs ys : List ℕ) → length xs ≡ length ys → place_by_nodes xs ys ≡ Same → xs ≡ ys
nodes-one [] [] size e = refl
nodes-one [] (y ∷ ys) size e = absurd (omega arith)
nodes-one (x ∷ xs) [] size e = absurd (omega arith)
nodes-one (x ∷ xs) (y ∷ ys) size e = elim (cases_order x y) [
  | inl is ↦ (λ i. is i ∷ nodes-one xs ys (omega arith) (sym (same x y xs ys is) ∙ e) i)
  | inr (inl h) ↦ absurd (above-not_same (sym (less x y xs ys h) ∙ e))
  | inr (inr h) ↦ absurd (below-not_same (sym (more x y xs ys h) ∙ e))
]

pub nodes-itself : (xs : List ℕ) → place_by_nodes xs xs ≡ Same
nodes-itself [] = nodes-end [] [] refl
nodes-itself (x ∷ xs) = same x x xs xs refl ∙ nodes-itself xs

nodes-turn : (xs ys : List ℕ) → place_by_nodes xs ys ≡ Below → place_by_nodes ys xs ≡ Above
nodes-turn [] ys e = absurd (same-not_below (sym (nodes-end [] ys refl) ∙ e))
nodes-turn (x ∷ xs) [] e = absurd (same-not_below (sym (nodes-no_more (x ∷ xs) [] refl) ∙ e))
nodes-turn (x ∷ xs) (y ∷ ys) e = elim (cases_order x y) [
  | inl is ↦ same y x ys xs (sym is) ∙ nodes-turn xs ys (sym (same x y xs ys is) ∙ e)
  | inr (inl h) ↦ absurd (above-not_below (sym (less x y xs ys h) ∙ e))
  | inr (inr h) ↦ less y x ys xs h
]

nodes-chain : (xs ys zs : List ℕ) → place_by_nodes xs ys ≡ Above → place_by_nodes ys zs ≡ Above → place_by_nodes xs zs ≡ Above
nodes-chain [] ys zs e f = absurd (same-not_above (sym (nodes-end [] ys refl) ∙ e))
nodes-chain (x ∷ xs) [] zs e f = absurd (same-not_above (sym (nodes-no_more (x ∷ xs) [] refl) ∙ e))
nodes-chain (x ∷ xs) (y ∷ ys) [] e f = absurd (same-not_above (sym (nodes-no_more (y ∷ ys) [] refl) ∙ f))
nodes-chain (x ∷ xs) (y ∷ ys) (z ∷ zs) e f = elim (cases_order x y) [
  | inl is ↦ elim (cases_order y z) [
    | inl also ↦ same x z xs zs (is ∙ also)
        ∙ nodes-chain xs ys zs (sym (same x y xs ys is) ∙ e) (sym (same y z ys zs also) ∙ f)
    | inr (inl h) ↦ less x z xs zs (omega arith)
    | inr (inr h) ↦ absurd (below-not_above (sym (more y z ys zs h) ∙ f))
  ]
  | inr (inl h) ↦ elim (cases_order y z) [
    | inl also ↦ less x z xs zs (omega arith)
    | inr (inl i) ↦ less x z xs zs (omega arith)
    | inr (inr i) ↦ absurd (below-not_above (sym (more y z ys zs i) ∙ f))
  ]
  | inr (inr h) ↦ absurd (below-not_above (sym (more x y xs ys h) ∙ e))
]

-- ---- lists of any length
pub above-is : (a b : List ℕ) → place a b ≡ Above
    → (length b < length a) ⊎ ((length a ≡ length b) × (place_by_nodes a b ≡ Above))
above-is a b e = elim (cases_order (length a) (length b)) [
  | inl one ↦ inr (one, sym (place-one a b (omega arith) (omega arith)) ∙ e)
  | inr (inl h) ↦ absurd (below-not_above (sym (place-below a b h) ∙ e))
  | inr (inr h) ↦ inl h
]

pub above-by_nodes : (a b : List ℕ) → length a ≡ length b → place_by_nodes a b ≡ Above → place a b ≡ Above
above-by_nodes a b one e = place-one a b (omega arith) (omega arith) ∙ e

pub place-same : (a b : List ℕ) → place a b ≡ Same → a ≡ b
place-same a b e = elim (cases_order (length a) (length b)) [
  | inl one ↦ nodes-one a b one (sym (place-one a b (omega arith) (omega arith)) ∙ e)
  | inr (inl h) ↦ absurd (below-not_same (sym (place-below a b h) ∙ e))
  | inr (inr h) ↦ absurd (above-not_same (sym (place-above a b h) ∙ e))
]

pub place-turn : (a b : List ℕ) → place a b ≡ Below → place b a ≡ Above
place-turn a b e = elim (cases_order (length a) (length b)) [
  | inl one ↦ above-by_nodes b a (sym one) (nodes-turn a b (sym (place-one a b (omega arith) (omega arith)) ∙ e))
  | inr (inl h) ↦ place-above b a h
  | inr (inr h) ↦ absurd (above-not_below (sym (place-above a b h) ∙ e))
]

pub place-chain : (a b c : List ℕ) → place a b ≡ Above → place b c ≡ Above → place a c ≡ Above
place-chain a b c e f = elim (above-is a b e) [
  | inl h ↦ elim (above-is b c f) [
    | inl i ↦ place-above a c (omega arith)
    | inr i ↦ let size = i.0 in place-above a c (omega arith)
  ]
  | inr h ↦ let size = h.0 in elim (above-is b c f) [
    | inl i ↦ place-above a c (omega arith)
    | inr i ↦ above-by_nodes a c (size ∙ i.0) (nodes-chain a b c h.1 i.1)
  ]
]
