-- The value of a sum of multiples of forms.
use Rattle.std.proofs.Common.{◌≡◌, inl, inr, ℕ, zero, suc, ◌<◌, List, [], ◌∷◌, ℤ, pos, negsuc, ◌+ℤ◌, ◌*ℤ◌, Option, Some, None, arith, sym, ap, ◌∙◌, refl}
use Rattle.std.proofs.lemmas.Bool.{cases_order}
use Rattle.std.proofs.lemmas.Option.{none-some, same_Some}
use lib.IntN.{zero-*ℤ, *ℤ-zero, +ℤ_idl}
use Rattle.grind_lemmas.specs.Products.{ProductsAssociate, ProductsCommute, ProductsDistribute}
use Rattle.grind_linear_forms.specs.declared.form.Part.{Part}
use Rattle.grind_linear_forms.specs.Forms.{FormData}
use Rattle.grind_linear_forms.specs.Sums.{multiple, combination, in_front, front, multiplied, merged, scaled_form, scaled_sum}
use Rattle.grind_linear_forms.specs.Values.{parts_value, form_value}
use Rattle.grind_linear_forms.proofs.Linear.{linear}
use Rattle.grind_linear_forms.proofs.Fits.{multiple_is, combination_is}
use Rattle.grind_linear_forms.proofs.Merging.{multiplied-nil, multiplied-cons, merged-nil, merged-left, merged-less, merged-more, merged-same, both-some}

-- what stands after a coefficient and the other parts of a sum
pub front-some : (node : ℕ) (c : Option ℤ) (rest : Option (List Part)) (all : List Part) → front node c rest ≡ Some all
    → (d : ℤ) × (parts : List Part) × (c ≡ Some d) × (rest ≡ Some parts) × (in_front node d parts ≡ all)
front-some node None rest all e = absurd (none-some all e)
front-some node (Some c) None all e = absurd (none-some all e)
front-some node (Some c) (Some parts) all e = (c, parts, refl, refl, same_Some _ _ e)

module _ (v : ℕ → ℤ) where
  value-in_front : (node : ℕ) (c : ℤ) (rest : List Part)
      → parts_value v (in_front node c rest) ≡ c *ℤ v node +ℤ parts_value v rest
  value-in_front node (pos zero) rest = sym (ap (λ (z : ℤ). z +ℤ parts_value v rest) (zero-*ℤ (v node)) ∙ +ℤ_idl (parts_value v rest))
  value-in_front node (pos (suc n)) rest = refl
  value-in_front node (negsuc n) rest = refl

  module _ (associate : ProductsAssociate) (commute : ProductsCommute) (distribute : ProductsDistribute) where
    add-mul : (a b c : ℤ) → (a +ℤ b) *ℤ c ≡ a *ℤ c +ℤ b *ℤ c
    add-mul a b c =
        let e = distribute c a b in
        let whole = commute (a +ℤ b) c in
        let one = commute a c in
        let two = commute b c in omega (arith, linear)

    -- one more part on the left, on the right, or on both sides
    step_left : (m a x s t r c : ℤ) → c ≡ m *ℤ a → r ≡ m *ℤ s +ℤ t → c *ℤ x +ℤ r ≡ m *ℤ (a *ℤ x +ℤ s) +ℤ t
    step_left m a x s t r c e f =
        let sum = distribute m (a *ℤ x) s in
        let product = associate m a x in
        let first : c *ℤ x ≡ (m *ℤ a) *ℤ x = ap (λ (z : ℤ). z *ℤ x) e in omega (arith, linear)

    step_right : (k b x s t r c : ℤ) → c ≡ k *ℤ b → r ≡ t +ℤ k *ℤ s → c *ℤ x +ℤ r ≡ t +ℤ k *ℤ (b *ℤ x +ℤ s)
    step_right k b x s t r c e f =
        let sum = distribute k (b *ℤ x) s in
        let product = associate k b x in
        let first : c *ℤ x ≡ (k *ℤ b) *ℤ x = ap (λ (z : ℤ). z *ℤ x) e in omega (arith, linear)

    step_both : (m a k b x s t r c : ℤ) → c ≡ m *ℤ a +ℤ k *ℤ b → r ≡ m *ℤ s +ℤ k *ℤ t
        → c *ℤ x +ℤ r ≡ m *ℤ (a *ℤ x +ℤ s) +ℤ k *ℤ (b *ℤ x +ℤ t)
    step_both m a k b x s t r c e f =
        let one = distribute m (a *ℤ x) s in
        let two = distribute k (b *ℤ x) t in
        let three = associate m a x in
        let four = associate k b x in
        let five = add-mul (m *ℤ a) (k *ℤ b) x in
        let first : c *ℤ x ≡ (m *ℤ a +ℤ k *ℤ b) *ℤ x = ap (λ (z : ℤ). z *ℤ x) e in omega (arith, linear)

    value-multiplied : (m : ℤ) (parts all : List Part) → multiplied m parts ≡ Some all
        → parts_value v all ≡ m *ℤ parts_value v parts
    value-multiplied m [] all e =
        ap (parts_value v) (sym (same_Some _ _ (sym (multiplied-nil m) ∙ e))) ∙ sym (*ℤ-zero m)
    value-multiplied m (x ∷ xs) all e =
        let w = front-some x.node (multiple m x.coefficient) (multiplied m xs) all (sym (multiplied-cons m x xs) ∙ e) in
        let rest = value-multiplied m xs w.1 w.3 in
        let zero_more : parts_value v w.1 ≡ m *ℤ parts_value v xs +ℤ pos 0 = omega (arith, linear) in
        let step = step_left m x.coefficient (v x.node) (parts_value v xs) (pos 0) (parts_value v w.1) w.0
        (multiple_is m x.coefficient w.0 w.2) zero_more in
        let made = value-in_front x.node w.0 w.1 in
        let all_is = ap (parts_value v) w.4 in omega (arith, linear)

    module _ (m k : ℤ) (x : Part) (xs : List Part)
        (below : (ys all : List Part) → merged m xs k ys ≡ Some all
        → parts_value v all ≡ m *ℤ parts_value v xs +ℤ k *ℤ parts_value v ys) where
      module _ (y : Part) (ys all : List Part) (e : merged m (x ∷ xs) k (y ∷ ys) ≡ Some all) where
        both_sides : x.node ≡ y.node → parts_value v all ≡ m *ℤ parts_value v (x ∷ xs) +ℤ k *ℤ parts_value v (y ∷ ys)
        both_sides same =
            let w = front-some x.node (combination m x.coefficient k y.coefficient) (merged m xs k ys) all
            (sym (merged-same m k x y xs ys (omega arith) (omega arith)) ∙ e) in
            let rest = below ys w.1 w.3 in
            let step = step_both m x.coefficient k y.coefficient (v x.node) (parts_value v xs) (parts_value v ys)
            (parts_value v w.1) w.0 (combination_is m x.coefficient k y.coefficient w.0 w.2) rest in
            let made = value-in_front x.node w.0 w.1 in
            let all_is = ap (parts_value v) w.4 in
            let other = ap (λ (n : ℕ). k *ℤ (y.coefficient *ℤ v n +ℤ parts_value v ys)) same in omega (arith, linear)

        left_side : x.node < y.node → parts_value v all ≡ m *ℤ parts_value v (x ∷ xs) +ℤ k *ℤ parts_value v (y ∷ ys)
        left_side less =
            let w = front-some x.node (multiple m x.coefficient) (merged m xs k (y ∷ ys)) all
            (sym (merged-less m k x y xs ys less) ∙ e) in
            let rest = below (y ∷ ys) w.1 w.3 in
            let step = step_left m x.coefficient (v x.node) (parts_value v xs) (k *ℤ parts_value v (y ∷ ys))
            (parts_value v w.1) w.0 (multiple_is m x.coefficient w.0 w.2) rest in
            let made = value-in_front x.node w.0 w.1 in
            let all_is = ap (parts_value v) w.4 in omega (arith, linear)

        right_side : ((parts : List Part) → merged m (x ∷ xs) k ys ≡ Some parts
            → parts_value v parts ≡ m *ℤ parts_value v (x ∷ xs) +ℤ k *ℤ parts_value v ys)
            → y.node < x.node → parts_value v all ≡ m *ℤ parts_value v (x ∷ xs) +ℤ k *ℤ parts_value v (y ∷ ys)
        right_side later more =
            let w = front-some y.node (multiple k y.coefficient) (merged m (x ∷ xs) k ys) all
            (sym (merged-more m k x y xs ys more) ∙ e) in
            let rest = later w.1 w.3 in
            let step = step_right k y.coefficient (v y.node) (parts_value v ys) (m *ℤ parts_value v (x ∷ xs))
            (parts_value v w.1) w.0 (multiple_is k y.coefficient w.0 w.2) rest in
            let made = value-in_front y.node w.0 w.1 in
            let all_is = ap (parts_value v) w.4 in omega (arith, linear)

      value-merged_from : (ys all : List Part) → merged m (x ∷ xs) k ys ≡ Some all
          → parts_value v all ≡ m *ℤ parts_value v (x ∷ xs) +ℤ k *ℤ parts_value v ys
      value-merged_from [] all e =
          let h = value-multiplied m (x ∷ xs) all (sym (merged-left m k (x ∷ xs)) ∙ e) in
          let none = *ℤ-zero k in omega (arith, linear)
      value-merged_from (y ∷ ys) all e = elim (cases_order x.node y.node) [
        | inl same ↦ both_sides y ys all e same
        | inr (inl less) ↦ left_side y ys all e less
        | inr (inr more) ↦ right_side y ys all e (value-merged_from ys) more
      ]

    value-merged : (m k : ℤ) (xs ys all : List Part) → merged m xs k ys ≡ Some all
        → parts_value v all ≡ m *ℤ parts_value v xs +ℤ k *ℤ parts_value v ys
    value-merged m k [] ys all e =
        let h = value-multiplied k ys all (sym (merged-nil m k ys) ∙ e) in
        let none = *ℤ-zero m in omega (arith, linear)
    value-merged m k (x ∷ xs) ys all e = value-merged_from m k x xs (value-merged m k xs) ys all e

    pub value-scaled_sum : (a b sum : FormData) (m k : ℤ) → scaled_sum a m b k ≡ Some sum
        → form_value v sum ≡ (m *ℤ form_value v a) +ℤ (k *ℤ form_value v b)
    value-scaled_sum a b sum m k e =
        let w = both-some (merged m a.parts k b.parts) (combination m a.constant k b.constant) sum e in
        let parts = value-merged m k a.parts b.parts sum.parts w.0 in
        let constant = combination_is m a.constant k b.constant sum.constant w.1 in
        let one = distribute m (parts_value v a.parts) a.constant in
        let two = distribute k (parts_value v b.parts) b.constant in omega (arith, linear)

    pub value-scaled_form : (a form : FormData) (m : ℤ) → scaled_form m a ≡ Some form
        → form_value v form ≡ m *ℤ form_value v a
    value-scaled_form a form m e =
        let w = both-some (multiplied m a.parts) (multiple m a.constant) form e in
        let parts = value-multiplied m a.parts form.parts w.0 in
        let constant = multiple_is m a.constant form.constant w.1 in
        let one = distribute m (parts_value v a.parts) a.constant in omega (arith, linear)
