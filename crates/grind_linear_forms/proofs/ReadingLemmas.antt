-- The readings of terms as linear forms: they stay, and they have the values of the terms.
use Rattle.std.proofs.Common.{◌≡◌, inl, inr, ℕ, ◌<◌, true, List, [], ◌∷◌, ◌++◌, length, ℤ, pos, negsuc, ◌+ℤ◌, ◌*ℤ◌, neg_ℤ, Some, arith, sym, ap, ◌∙◌}
use Rattle.std.proofs.lemmas.Bool.{cases_Bool, cond-true, cond-false}
use Rattle.std.proofs.lemmas.Option.{same_Some}
use lib.IntN.{+ℤ_idl}
use borrow.Author.Differences.{ints}
use Rattle.grind_lemmas.specs.Products.{ProductsAssociate, ProductsCommute, ProductsDistribute}
use Rattle.grind_term_graph.specs.declared.node.Node.{Node}
use Rattle.grind_reach.specs.Values.{RespectsArithmetic, KeepValues}
use Rattle.grind_reach.proofs.ReadingLemmas.{reading-stays}
use Rattle.grind_reach.proofs.ValueLemmas.{value-read}
use Rattle.grind_linear_forms.specs.declared.form.Part.{Part}
use Rattle.grind_linear_forms.specs.Forms.{FormData, number_form, node_form}
use Rattle.grind_linear_forms.specs.Sums.{scaled_form, scaled_sum}
use Rattle.grind_linear_forms.specs.Readings.{is_number, product_form, form_operations, linear}
use Rattle.grind_linear_forms.specs.Values.{parts_value, form_value}
use Rattle.grind_linear_forms.proofs.Linear.{linear as linear_facts}
use Rattle.grind_linear_forms.proofs.SumValues.{value-scaled_sum, value-scaled_form}

-- the reading of a term stays the same where the table grows
pub linear-stays : (nodes more : List Node) (n : ℕ) → n < length nodes → linear (nodes ++ more) n ≡ linear nodes n
unfolding linear
linear-stays nodes more n h = reading-stays form_operations nodes more n h

-- ---- values
module _ (v : ℕ → ℤ) (associate : ProductsAssociate) (commute : ProductsCommute) (distribute : ProductsDistribute) where
  value-number : (number : ℤ) → form_value v (number_form number) ≡ number
  value-number number = +ℤ_idl number

  value-node : (n : ℕ) → form_value v (node_form n) ≡ v n
  value-node n =
      let unit : pos 1 *ℤ v n ≡ v n = omega (arith, ints) in omega (arith, linear_facts)

  -- the value of a form without parts
  value-constant : (form : FormData) → is_number form.parts ≡ true → form_value v form ≡ form.constant
  value-constant form e = at_parts form.parts form.constant e
    where
      at_parts : (parts : List Part) (constant : ℤ) → is_number parts ≡ true → parts_value v parts +ℤ constant ≡ constant
      at_parts [] constant e = +ℤ_idl constant
      at_parts (part ∷ rest) constant e = absurd cc

  -- the value of a product, read by one factor where the other is a number
  value-product : (n : ℕ) (a b form : FormData) → product_form n a b ≡ Some form → v n ≡ form_value v a *ℤ form_value v b
      → form_value v form ≡ v n
  value-product n a b form e is = elim (cases_Bool (is_number a.parts)) [
    | inl yes_a ↦
        let scaled = sym (cond-true (is_number a.parts) (scaled_form a.constant b) _ yes_a) ∙ e in
        value-scaled_form v associate commute distribute b form a.constant scaled
        ∙ ap (λ (z : ℤ). z *ℤ form_value v b) (sym (value-constant a yes_a)) ∙ sym is
    | inr no_a ↦ elim (cases_Bool (is_number b.parts)) [
      | inl yes_b ↦
          let scaled = sym (cond-false (is_number a.parts) (scaled_form a.constant b) _ no_a
          ∙ cond-true (is_number b.parts) (scaled_form b.constant a) _ yes_b) ∙ e in
          value-scaled_form v associate commute distribute a form b.constant scaled
          ∙ ap (λ (z : ℤ). z *ℤ form_value v a) (sym (value-constant b yes_b))
          ∙ commute (form_value v b) (form_value v a) ∙ sym is
      | inr no_b ↦
          let itself = sym (cond-false (is_number a.parts) (scaled_form a.constant b) _ no_a
          ∙ cond-false (is_number b.parts) (scaled_form b.constant a) _ no_b) ∙ e in
          ap (form_value v) (sym (same_Some _ _ itself)) ∙ value-node n
    ]
  ]

  value-sum : (a b form : FormData) → scaled_sum a (pos 1) b (pos 1) ≡ Some form → form_value v form ≡ form_value v a +ℤ form_value v b
  value-sum a b form e =
      let sum = value-scaled_sum v associate commute distribute a b form (pos 1) (pos 1) e in
      let one : pos 1 *ℤ form_value v a ≡ form_value v a = omega (arith, ints) in
      let two : pos 1 *ℤ form_value v b ≡ form_value v b = omega (arith, ints) in omega (arith, linear_facts)

  value-negation : (a form : FormData) → scaled_form (negsuc 0) a ≡ Some form → form_value v form ≡ neg_ℤ (form_value v a)
  value-negation a form e =
      let product = value-scaled_form v associate commute distribute a form (negsuc 0) e in
      let turned : negsuc 0 *ℤ form_value v a ≡ neg_ℤ (form_value v a) = omega (arith, ints) in omega (arith, linear_facts)

  operations-keep : KeepValues form_operations (form_value v) v
  operations-keep = record {
    numbers = λ number form e. ap (form_value v) (sym (same_Some _ _ e)) ∙ value-number number;
    atoms = λ n form e. ap (form_value v) (sym (same_Some _ _ e)) ∙ value-node n;
    sums = value-sum;
    negations = value-negation;
    products = value-product;
  }

  -- a term has the value of its reading
  pub value-linear : (nodes : List Node) (n : ℕ) (form : FormData) → RespectsArithmetic nodes v → linear nodes n ≡ Some form
      → form_value v form ≡ v n
  unfolding linear
  value-linear nodes n form respects e = value-read form_operations (form_value v) v operations-keep nodes n form respects e
