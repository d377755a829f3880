-- What a polynomial of degree at most 1 is as a linear form is one.
use Rattle.std.proofs.Common.{◌≡◌, ◌≢◌, ℕ, suc, ◌<◌, ◌≤◌, List, [], ◌∷◌, Option, Some, None, refl, sym, ap, ◌∙◌, subst, arith, inl, inr, ℤ, pos, ◌+ℤ◌}
use Rattle.std.specs.Prelude.{⊤}
use Rattle.std.specs.Option.{option_and_then}
use Rattle.std.proofs.lemmas.Bool.{cases_order}
use Rattle.std.proofs.lemmas.Option.{none-some, same_Some}
use Rattle.grind_linear_forms.specs.Forms.{FormData, form_data, part_of, number_form, RisesFrom, IsForm}
use Rattle.grind_monomials.specs.declared.order.Place.TheVariants.{Above}
use Rattle.grind_monomials.specs.Order.{place}
use Rattle.grind_monomials.proofs.Clauses.{nodes-end}
use Rattle.grind_monomials.proofs.Orders.{above-is, same-not_above, below-not_above, more, same}
use Rattle.grind_polynomials.specs.declared.poly.Term.{Term}
use Rattle.grind_polynomials.specs.Polynomials.{IsPoly, StartsBelow}
use Rattle.grind_differences.specs.Equations.{with_term, form_of}

and_then_some : {A B : Type 0} (f : A → Option B) (o : Option A) (b : B) → option_and_then f o ≡ Some b → (a : A) × (o ≡ Some a) × (f a ≡ Some b)
and_then_some f None b e = absurd (none-some b e)
and_then_some f (Some a) b e = (a, refl, e)

-- ---- the order of monomials

-- no monomial is below the one without nodes
empty_least : (m : List ℕ) → place [] m ≡ Above → ⊥
empty_least m e = elim (above-is [] m e) [
  | inl h ↦ omega (arith, h)
  | inr h ↦ same-not_above (sym (nodes-end [] m refl) ∙ h.1)
]

-- a term without nodes is the last one
none_below : (rest : List Term) → StartsBelow [] rest → rest ≡ []
none_below [] h = refl
none_below (term ∷ rest) h = absurd (empty_least term.monomial h)

-- of two nodes the greater is the monomial below
node_below : (k n : ℕ) → place (k ∷ []) (n ∷ []) ≡ Above → k < n
node_below k n e = elim (above-is (k ∷ []) (n ∷ []) e) [
  | inl h ↦ absurd (omega (arith, h))
  | inr h ↦ elim (cases_order k n) [
    | inl is ↦ absurd (same-not_above (sym (same k n [] [] is ∙ nodes-end [] [] refl) ∙ h.1))
    | inr (inl less) ↦ less
    | inr (inr after) ↦ absurd (below-not_above (sym (more k n [] [] after) ∙ h.1))
  ]
]

-- ---- forms keep their order

-- the first of the terms, where it is a node, is no lesser node
abbrev StartsFrom : ℕ → List Term → Type 0
StartsFrom least [] = ⊤
StartsFrom least (term ∷ rest) = (n : ℕ) → term.monomial ≡ n ∷ [] → least ≤ n

starts_behind : (k : ℕ) (rest : List Term) → StartsBelow (k ∷ []) rest → StartsFrom (suc k) rest
starts_behind k [] h = tt
starts_behind k (term ∷ rest) h = λ n is.
    let below = node_below k n (ap (λ (m : List ℕ). place (k ∷ []) m) (sym is) ∙ h) in omega (arith, below)

rises_with : (m : List ℕ) (c : ℤ) (f form : FormData) (least : ℕ) → c ≢ pos 0 → ((n : ℕ) → m ≡ n ∷ [] → least ≤ n)
    → (m ≡ [] → RisesFrom least f.parts) → ((n : ℕ) → m ≡ n ∷ [] → RisesFrom (suc n) f.parts) → with_term m c f ≡ Some form
    → RisesFrom least form.parts
rises_with [] c f form least nonzero from last behind e =
    subst (λ (it : FormData). RisesFrom least it.parts) (same_Some (form_data f.parts (f.constant +ℤ c)) form e) (last refl)
rises_with (n ∷ []) c f form least nonzero from last behind e =
    subst (λ (it : FormData). RisesFrom least it.parts) (same_Some (form_data (part_of n c ∷ f.parts) f.constant) form e)
    (from n refl, nonzero, behind n refl)
rises_with (n ∷ m ∷ more) c f form least nonzero from last behind e = absurd (none-some form e)

-- the form of no terms has no parts
no_parts : (rest : List Term) (least : ℕ) (form : FormData) → rest ≡ [] → form_of rest ≡ Some form → RisesFrom least form.parts
no_parts rest least form none e =
    subst (λ (it : FormData). RisesFrom least it.parts)
    (same_Some (number_form (pos 0)) form (sym (ap form_of none) ∙ e)) tt

rises : (poly : List Term) (least : ℕ) (form : FormData) → IsPoly poly → StartsFrom least poly → form_of poly ≡ Some form
    → RisesFrom least form.parts
rises [] least form falls starts e = no_parts [] least form refl e
rises (term ∷ rest) least form falls starts e =
    let is = and_then_some (with_term term.monomial term.coefficient) (form_of rest) form e in
    rises_with term.monomial term.coefficient is.0 form least falls.1 starts
    (λ none. no_parts rest least is.0 (none_below rest (subst (λ (m : List ℕ). StartsBelow m rest) none falls.2)) is.1)
    (λ n one. rises rest (suc n) is.0 falls.3 (starts_behind n rest (subst (λ (m : List ℕ). StartsBelow m rest) one falls.2)) is.1)
    is.2

starts_at_0 : (poly : List Term) → StartsFrom 0 poly
starts_at_0 [] = tt
starts_at_0 (term ∷ rest) = λ n is. omega arith

-- what a polynomial is as a form is one
pub form_of_is : (poly : List Term) (form : FormData) → IsPoly poly → form_of poly ≡ Some form → IsForm form
form_of_is poly form falls e = rises poly 0 form falls (starts_at_0 poly) e
