-- Polynomials read as linear forms.
use Rattle.std.proofs.Common.{◌≡◌, ◌≢◌, ℕ, suc, ◌<◌, ◌≤◌, List, [], ◌∷◌, ◌++◌, length, Option, Some, None, refl, sym, ap, ◌∙◌, subst, arith, inl, inr, ℤ, pos, ◌+ℤ◌}
use Rattle.std.specs.Prelude.{⊤}
use Rattle.std.specs.Option.{option_and_then, option_map}
use Rattle.std.proofs.lemmas.Bool.{cases_order}
use Rattle.std.proofs.lemmas.List.{append_assoc, append-nil}
use Rattle.std.proofs.lemmas.Option.{none-some, same_Some}
use lib.IntN.{+ℤ_idl}
use Rattle.grind_linear_forms.specs.declared.form.Part.{Part}
use Rattle.grind_linear_forms.specs.Forms.{FormData, form_data, part_of, number_form, RisesFrom, IsForm}
use Rattle.grind_monomials.specs.declared.order.Place.TheVariants.{Above}
use Rattle.grind_monomials.specs.Order.{place}
use Rattle.grind_monomials.proofs.Clauses.{nodes-end}
use Rattle.grind_monomials.proofs.Orders.{above-is, same-not_above, below-not_above, more, same}
use Rattle.grind_polynomials.specs.declared.poly.Term.{Term}
use Rattle.grind_polynomials.specs.Polynomials.{IsPoly, StartsBelow}
use Rattle.grind_differences.specs.Equations.{with_term, form_of}
use Rattle.grind_differences.proofs.BoundLemmas.{and_then_some}

-- ---- the order of monomials

-- no monomial is below the one without nodes
empty_least : (m : List ℕ) → place [] m ≡ Above → ⊥
empty_least m e = elim (above-is [] m e) [
  | inl h ↦ omega (arith, h)
  | inr h ↦ same-not_above (sym (nodes-end [] m refl) ∙ h.1)
]

-- a term without nodes is the last one
pub none_below : (rest : List Term) → StartsBelow [] rest → rest ≡ []
none_below [] h = refl
none_below (term ∷ rest) h = absurd (empty_least term.monomial h)

-- of two nodes the greater is the monomial below
node_below : (k n : ℕ) → place (k ∷ []) (n ∷ []) ≡ Above → k < n
node_below k n e = elim (above-is (k ∷ []) (n ∷ []) e) [
  | inl h ↦ absurd (omega (arith, h))
  | inr h ↦ elim (cases_order k n) [
    | inl is ↦ absurd (same-not_above (sym (same k n [] [] is ∙ nodes-end [] [] refl) ∙ h.1))
    | inr (inl less) ↦ less
    | inr (inr after) ↦ absurd (below-not_above (sym (more k n [] [] after) ∙ h.1))
  ]
]

-- ---- forms keep their order

-- the first of the terms, where it is a node, is no lesser node
abbrev StartsFrom : ℕ → List Term → Type 0
StartsFrom least [] = ⊤
StartsFrom least (term ∷ rest) = (n : ℕ) → term.monomial ≡ n ∷ [] → least ≤ n

starts_behind : (k : ℕ) (rest : List Term) → StartsBelow (k ∷ []) rest → StartsFrom (suc k) rest
starts_behind k [] h = tt
starts_behind k (term ∷ rest) h = λ n is.
    let below = node_below k n (ap (λ (m : List ℕ). place (k ∷ []) m) (sym is) ∙ h) in omega (arith, below)

rises_with : (m : List ℕ) (c : ℤ) (f form : FormData) (least : ℕ) → c ≢ pos 0 → ((n : ℕ) → m ≡ n ∷ [] → least ≤ n)
    → (m ≡ [] → RisesFrom least f.parts) → ((n : ℕ) → m ≡ n ∷ [] → RisesFrom (suc n) f.parts) → with_term m c f ≡ Some form
    → RisesFrom least form.parts
rises_with [] c f form least nonzero from last behind e =
    subst (λ (it : FormData). RisesFrom least it.parts) (same_Some (form_data f.parts (f.constant +ℤ c)) form e) (last refl)
rises_with (n ∷ []) c f form least nonzero from last behind e =
    subst (λ (it : FormData). RisesFrom least it.parts) (same_Some (form_data (part_of n c ∷ f.parts) f.constant) form e)
    (from n refl, nonzero, behind n refl)
rises_with (n ∷ m ∷ more) c f form least nonzero from last behind e = absurd (none-some form e)

-- the form of no terms has no parts
no_parts : (rest : List Term) (least : ℕ) (form : FormData) → rest ≡ [] → form_of rest ≡ Some form → RisesFrom least form.parts
no_parts rest least form none e =
    subst (λ (it : FormData). RisesFrom least it.parts)
    (same_Some (number_form (pos 0)) form (sym (ap form_of none) ∙ e)) tt

rises : (poly : List Term) (least : ℕ) (form : FormData) → IsPoly poly → StartsFrom least poly → form_of poly ≡ Some form
    → RisesFrom least form.parts
rises [] least form falls starts e = no_parts [] least form refl e
rises (term ∷ rest) least form falls starts e =
    let is = and_then_some (with_term term.monomial term.coefficient) (form_of rest) form e in
    rises_with term.monomial term.coefficient is.0 form least falls.1 starts
    (λ none. no_parts rest least is.0 (none_below rest (subst (λ (m : List ℕ). StartsBelow m rest) none falls.2)) is.1)
    (λ n one. rises rest (suc n) is.0 falls.3 (starts_behind n rest (subst (λ (m : List ℕ). StartsBelow m rest) one falls.2)) is.1)
    is.2

starts_at_0 : (poly : List Term) → StartsFrom 0 poly
starts_at_0 [] = tt
starts_at_0 (term ∷ rest) = λ n is. omega arith

-- what a polynomial is as a form is one
pub form_of_is : (poly : List Term) (form : FormData) → IsPoly poly → form_of poly ≡ Some form → IsForm form
form_of_is poly form falls e = rises poly 0 form falls (starts_at_0 poly) e

-- ---- the loop

empty_of : {A : Type 0} (xs : List A) → length xs ≡ 0 → xs ≡ []
empty_of [] e = refl
empty_of (x ∷ xs) e = absurd (omega (arith, e))

-- these parts before those of the form
abbrev put : List Part → FormData → FormData
put parts form = form_data (parts ++ form.parts) form.constant

-- the parts, before what the rest gives, are what the whole gives
abbrev pub IsSoFar : List Term → List Part → List Term → Type 0
IsSoFar whole parts rest = form_of whole ≡ option_map (put parts) (form_of rest)

put_nothing : (o : Option FormData) → o ≡ option_map (put []) o
put_nothing None = refl
put_nothing (Some form) = refl

pub so_far_start : (whole : List Term) → IsSoFar whole [] whole
so_far_start whole = put_nothing (form_of whole)

moved : (parts : List Part) (n : ℕ) (c : ℤ) (o : Option FormData)
    → option_map (put parts) (option_and_then (with_term (n ∷ []) c) o) ≡ option_map (put (parts ++ part_of n c ∷ [])) o
moved parts n c None = refl
moved parts n c (Some form) =
    ap (λ (all : List Part). Some (form_data all form.constant)) (sym (append_assoc parts (part_of n c ∷ []) form.parts))

none_over : (parts : List Part) (n k : ℕ) (more : List ℕ) (c : ℤ) (o : Option FormData)
    → option_map (put parts) (option_and_then (with_term (n ∷ k ∷ more) c) o) ≡ None
none_over parts n k more c None = refl
none_over parts n k more c (Some form) = refl

module _ (whole : List Term) (parts : List Part) (rest : List Term) (so_far : IsSoFar whole parts rest) where
  -- nothing is left
  pub so_far_end : length rest ≡ 0 → form_of whole ≡ Some (form_data parts (pos 0))
  so_far_end none =
      so_far ∙ ap (λ (it : List Term). option_map (put parts) (form_of it)) (empty_of rest none)
      ∙ ap (λ (all : List Part). Some (form_data all (pos 0))) (append-nil parts)

  module _ (term : Term) (tail : List Term) (is : rest ≡ term ∷ tail) where
    at_monomial : (m : List ℕ) → term.monomial ≡ m
        → form_of whole ≡ option_map (put parts) (option_and_then (with_term m term.coefficient) (form_of tail))
    at_monomial m e =
        so_far ∙ ap (λ (it : List Term). option_map (put parts) (form_of it)) is
        ∙ ap (λ (it : List ℕ). option_map (put parts) (option_and_then (with_term it term.coefficient) (form_of tail))) e

    -- a node comes
    pub so_far_node : (n : ℕ) (more : List ℕ) → term.monomial ≡ n ∷ more → more ≡ []
        → IsSoFar whole (parts ++ part_of n term.coefficient ∷ []) tail
    so_far_node n more e none =
        at_monomial (n ∷ []) (e ∙ ap (λ (it : List ℕ). n ∷ it) none) ∙ moved parts n term.coefficient (form_of tail)

    -- a product comes
    pub so_far_product : (n : ℕ) (more : List ℕ) → term.monomial ≡ n ∷ more → (more ≡ [] → ⊥) → form_of whole ≡ None
    so_far_product n [] e some = absurd (some refl)
    so_far_product n (k ∷ more) e some = at_monomial (n ∷ k ∷ more) e ∙ none_over parts n k more term.coefficient (form_of tail)

    -- a number comes, and nothing after it
    pub so_far_number : IsPoly rest → length term.monomial ≡ 0 → form_of whole ≡ Some (form_data parts term.coefficient)
    so_far_number falls none =
        let empty = empty_of term.monomial none in
        let last = none_below tail (subst (λ (m : List ℕ). StartsBelow m tail) empty (subst IsPoly is falls).2) in
        at_monomial [] empty
        ∙ ap (λ (it : List Term). option_map (put parts) (option_and_then (with_term [] term.coefficient) (form_of it))) last
        ∙ ap (λ (c : ℤ). Some (form_data (parts ++ []) c)) (+ℤ_idl term.coefficient)
        ∙ ap (λ (all : List Part). Some (form_data all term.coefficient)) (append-nil parts)
