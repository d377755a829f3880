-- The values of differences, opposites, multiples and forms of polynomials.
use Rattle.std.proofs.Common.{◌≡◌, ℕ, List, [], ◌∷◌, map, Some, Result, Ok, Err, refl, sym, ap, ◌∙◌, arith, ℤ, pos, negsuc, neg_ℤ, ◌+ℤ◌, ◌*ℤ◌}
use Rattle.std.proofs.lemmas.Option.{none-some, same_Some}
use lib.IntN.{*ℤ-zero}
use borrow.Author.Differences.{ints}
use Rattle.grind_lemmas.proofs.Rings.{linear, int_mul-assoc, int_mul-add, int_neg-mul}
use Rattle.grind_term_graph.specs.declared.node.Node.{Node}
use Rattle.grind_linear_forms.specs.declared.form.Part.{Part}
use Rattle.grind_linear_forms.specs.Forms.{FormData, form_data}
use Rattle.grind_linear_forms.specs.Laws as forms
use Rattle.grind_linear_forms.specs.Values.{RespectsArithmetic, parts_value, form_value}
use Rattle.grind_monomials.specs.Counts.{monomial_value}
use Rattle.grind_polynomials.specs.declared.poly.PolyRefusal.{PolyRefusal}
use Rattle.grind_polynomials.specs.declared.poly.Term.{Term}
use Rattle.grind_polynomials.specs.Laws as polys
use Rattle.grind_polynomials.specs.Readings.{answered, number_poly}
use Rattle.grind_polynomials.specs.Sums.{sum_product}
use Rattle.grind_polynomials.specs.Values.{poly_value}
use Rattle.grind_differences.specs.Bounds.{negated_part, opposite_form}
use Rattle.grind_differences.specs.Differences.{difference, poly_difference}
use Rattle.grind_differences.specs.Equations.{multiple_poly, with_term, form_of}
use Rattle.grind_differences.proofs.BoundLemmas.{and_then_some, reading-sort, difference-parts}
use Rattle.grind_differences.proofs.PolyLemmas.{poly_reading-sort, poly_difference-parts}

-- ---- whole numbers

once_less : (x y : ℤ) → (pos 1 *ℤ x) +ℤ (negsuc 0 *ℤ y) ≡ x +ℤ neg_ℤ y
once_less x y = omega (arith, ints)

less_once : (x y : ℤ) → x +ℤ (((negsuc 0 *ℤ pos 1) +ℤ pos 0) *ℤ y) ≡ x +ℤ neg_ℤ y
less_once x y = omega (arith, ints)

-- ---- differences

pub difference_value : forms.ReadingsHaveTheirValues → forms.SumsHaveTheirValues → (nodes : List Node) (v : ℕ → ℤ) (a b : ℕ)
    (form : FormData) → RespectsArithmetic nodes v → difference nodes a b ≡ Some form → form_value v form ≡ v a +ℤ neg_ℤ (v b)
difference_value readings sums nodes v a b form respects e =
    let is = difference-parts nodes a b form e in
    let left = readings nodes v a is.0 respects (reading-sort nodes a is.0 is.2).1 in
    let right = readings nodes v b is.1 respects (reading-sort nodes b is.1 is.3).1 in
    sums v is.0 is.1 form (pos 1) (negsuc 0) is.4 ∙ once_less (form_value v is.0) (form_value v is.1)
    ∙ ap (λ (x : ℤ). x +ℤ neg_ℤ (form_value v is.1)) left ∙ ap (λ (y : ℤ). v a +ℤ neg_ℤ y) right

-- the polynomial that was answered
of_answered : (r : Result (List Term) PolyRefusal) (poly : List Term) → answered r ≡ Some poly → r ≡ Ok poly
of_answered (Ok it) poly e = ap (λ (p : List Term). Ok p) (same_Some it poly e)
of_answered (Err refusal) poly e = absurd (none-some poly e)

pub poly_difference_value : polys.ReadingsHaveTheirValues → polys.SumsHaveTheirValues → (nodes : List Node) (v : ℕ → ℤ) (a b : ℕ)
    (poly : List Term) → RespectsArithmetic nodes v → poly_difference nodes a b ≡ Some poly → poly_value v poly ≡ v a +ℤ neg_ℤ (v b)
poly_difference_value readings sums nodes v a b poly respects e =
    let is = poly_difference-parts nodes a b poly e in
    let left = readings nodes v a is.0 respects (poly_reading-sort nodes a is.0 is.2).1 in
    let right = readings nodes v b is.1 respects (poly_reading-sort nodes b is.1 is.3).1 in
    sums v is.0 (number_poly (negsuc 0)) is.1 poly (of_answered (sum_product is.0 (number_poly (negsuc 0)) is.1) poly is.4)
    ∙ less_once (poly_value v is.0) (poly_value v is.1)
    ∙ ap (λ (x : ℤ). x +ℤ neg_ℤ (poly_value v is.1)) left ∙ ap (λ (y : ℤ). v a +ℤ neg_ℤ y) right

-- ---- opposites

neg_sum : (x a b : ℤ) → x ≡ neg_ℤ a → (y : ℤ) → y ≡ neg_ℤ b → x +ℤ y ≡ neg_ℤ (a +ℤ b)
neg_sum x a b e y f = omega (arith, linear, e, f)

one_less : (x y c : ℤ) → x ≡ neg_ℤ y → x +ℤ (pos 1 +ℤ neg_ℤ c) ≡ pos 1 +ℤ neg_ℤ (y +ℤ c)
one_less x y c e = omega (arith, linear, e)

negated_value : (v : ℕ → ℤ) (parts : List Part) → parts_value v (map negated_part parts) ≡ neg_ℤ (parts_value v parts)
negated_value v [] = refl
negated_value v (part ∷ parts) =
    neg_sum (neg_ℤ part.coefficient *ℤ v part.node) (part.coefficient *ℤ v part.node) (parts_value v parts)
    (int_neg-mul part.coefficient (v part.node)) (parts_value v (map negated_part parts)) (negated_value v parts)

pub opposite_value : (v : ℕ → ℤ) (form : FormData) → form_value v (opposite_form form) ≡ pos 1 +ℤ neg_ℤ (form_value v form)
opposite_value v form =
    one_less (parts_value v (map negated_part form.parts)) (parts_value v form.parts) form.constant (negated_value v form.parts)

-- ---- multiples

pub multiple_value : (v : ℕ → ℤ) (k : ℤ) (poly : List Term) → poly_value v (multiple_poly k poly) ≡ k *ℤ poly_value v poly
multiple_value v k [] = sym (*ℤ-zero k)
multiple_value v k (term ∷ rest) =
    ap (λ (x : ℤ). x +ℤ poly_value v (multiple_poly k rest)) (int_mul-assoc k term.coefficient (monomial_value v term.monomial))
    ∙ ap (λ (x : ℤ). k *ℤ (term.coefficient *ℤ monomial_value v term.monomial) +ℤ x) (multiple_value v k rest)
    ∙ sym (int_mul-add k (term.coefficient *ℤ monomial_value v term.monomial) (poly_value v rest))

-- ---- forms of polynomials

number_more : (p q c r : ℤ) → p +ℤ q ≡ r → p +ℤ (q +ℤ c) ≡ (c *ℤ pos 1) +ℤ r
number_more p q c r e = omega (arith, ints, e)

node_more : (w x p q r : ℤ) → w ≡ x → p +ℤ q ≡ r → (x +ℤ p) +ℤ q ≡ w +ℤ r
node_more w x p q r same e = omega (arith, linear, same, e)

once : (x : ℤ) → x *ℤ pos 1 ≡ x
once x = omega (arith, ints)

with_value : (v : ℕ → ℤ) (m : List ℕ) (c r : ℤ) (f form : FormData) → form_value v f ≡ r → with_term m c f ≡ Some form
    → form_value v form ≡ (c *ℤ monomial_value v m) +ℤ r
with_value v [] c r f form value e =
    sym (ap (form_value v) (same_Some (form_data f.parts (f.constant +ℤ c)) form e))
    ∙ number_more (parts_value v f.parts) f.constant c r value
with_value v (n ∷ []) c r f form value e =
    sym (ap (form_value v) (same_Some (form_data (record { coefficient = c; node = n } ∷ f.parts) f.constant) form e))
    ∙ node_more (c *ℤ (v n *ℤ pos 1)) (c *ℤ v n) (parts_value v f.parts) f.constant r (ap (λ (x : ℤ). c *ℤ x) (once (v n))) value
with_value v (n ∷ m ∷ more) c r f form value e = absurd (none-some form e)

pub value-form_of : (v : ℕ → ℤ) (poly : List Term) (form : FormData) → form_of poly ≡ Some form → form_value v form ≡ poly_value v poly
value-form_of v [] form e = sym (ap (form_value v) (same_Some (form_data [] (pos 0)) form e))
value-form_of v (term ∷ rest) form e =
    let is = and_then_some (with_term term.monomial term.coefficient) (form_of rest) form e in
    with_value v term.monomial term.coefficient (poly_value v rest) is.0 form (value-form_of v rest is.0 is.1) is.2
