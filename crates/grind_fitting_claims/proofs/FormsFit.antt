-- Sums of linear forms fit.
use Rattle.std.proofs.Common.{◌≡◌, ℕ, zero, suc, Bool, true, false, cond, ltb, ◌^◌, ℤ, pos, negsuc, ◌+ℤ◌, ◌*ℤ◌, FitsSigned, List, [], ◌∷◌, All, Option, Some, None, refl, sym, subst}
use Rattle.std.specs.Prelude.{nat_lt, if◌then◌else◌}
use Rattle.std.specs.Option.{option_and_then}
use Rattle.std.specs.Int.{w128}
use Rattle.std.proofs.lemmas.Bool.{ltb-true}
use Rattle.std.proofs.lemmas.Option.{none-some, same_Some}
use Rattle.std.proofs.lemmas.List.Elements.{All-nil, All-cons}
use Rattle.grind_term_graph.specs.declared.node.Node.{Node}
use Rattle.grind_linear_forms.specs.declared.form.Part.{Part}
use Rattle.grind_linear_forms.specs.Forms.{FormData, form_data, part_of, fit}
use Rattle.grind_linear_forms.specs.Sums.{multiple, combination, in_front, front, multiplied, merged_from, merged, both, scaled_sum}
use Rattle.grind_differences.specs.Differences.{reading, difference}
use Rattle.grind_fitting_claims.specs.Fitting.{FormNumbersFit}

by_range : (b : Bool) (z y : ℤ) → (b ≡ true → FitsSigned w128 z) → cond b (Some z) None ≡ Some y → FitsSigned w128 y
by_range true z y fits e = subst (FitsSigned w128) (same_Some z y e) (fits refl)
by_range false z y fits e = absurd (none-some y e)

-- what is answered fits
pub fit_fits : (z y : ℤ) → fit z ≡ Some y → FitsSigned w128 y
unfolding fit
fit_fits (pos n) y e = by_range (ltb n (2 ^ 127)) (pos n) y (λ low. record { sfits = ltb-true n (2 ^ 127) low }) e
fit_fits (negsuc n) y e = by_range (ltb n (2 ^ 127)) (negsuc n) y (λ low. record { sfits = ltb-true n (2 ^ 127) low }) e

pub multiple_fits : (m x y : ℤ) → multiple m x ≡ Some y → FitsSigned w128 y
unfolding multiple
multiple_fits m x y e = fit_fits (m *ℤ x) y e

of_both : (first second : Option ℤ) (z : ℤ) → option_and_then (λ p. option_and_then (λ q. fit (p +ℤ q)) second) first ≡ Some z →
    FitsSigned w128 z
of_both None second z e = absurd (none-some z e)
of_both (Some p) None z e = absurd (none-some z e)
of_both (Some p) (Some q) z e = fit_fits (p +ℤ q) z e

combination_fits : (m x k y z : ℤ) → combination m x k y ≡ Some z → FitsSigned w128 z
unfolding combination
combination_fits m x k y z e = of_both (multiple m x) (multiple k y) z e

abbrev PartsFit : List Part → Type 0
PartsFit parts = All (λ (part : Part). FitsSigned w128 part.coefficient) parts

in_front_fits : (node : ℕ) (coefficient : ℤ) (rest : List Part) → FitsSigned w128 coefficient → PartsFit rest →
    PartsFit (in_front node coefficient rest)
in_front_fits node (pos zero) rest fits h = h
in_front_fits node (pos (suc n)) rest fits h =
    All-cons (λ (part : Part). FitsSigned w128 part.coefficient) (part_of node (pos (suc n))) rest fits h
in_front_fits node (negsuc n) rest fits h =
    All-cons (λ (part : Part). FitsSigned w128 part.coefficient) (part_of node (negsuc n)) rest fits h

front_fits : (node : ℕ) (coefficient : Option ℤ) (rest : Option (List Part)) (parts : List Part) →
    ((z : ℤ) → coefficient ≡ Some z → FitsSigned w128 z) → ((xs : List Part) → rest ≡ Some xs → PartsFit xs) →
    front node coefficient rest ≡ Some parts → PartsFit parts
front_fits node None rest parts one others e = absurd (none-some parts e)
front_fits node (Some z) None parts one others e = absurd (none-some parts e)
front_fits node (Some z) (Some xs) parts one others e =
    subst PartsFit (same_Some (in_front node z xs) parts e) (in_front_fits node z xs (one z refl) (others xs refl))

multiplied_fits : (m : ℤ) (xs parts : List Part) → multiplied m xs ≡ Some parts → PartsFit parts
unfolding multiplied
multiplied_fits m [] parts e = subst PartsFit (same_Some [] parts e) (All-nil (λ (part : Part). FitsSigned w128 part.coefficient))
multiplied_fits m (x ∷ xs) parts e =
    front_fits x.node (multiple m x.coefficient) (multiplied m xs) parts (λ z f. multiple_fits m x.coefficient z f)
    (λ ys f. multiplied_fits m xs ys f) e

by_if : (P : List Part → Type 0) (b : Bool) (one other : Option (List Part)) (parts : List Part) → (one ≡ Some parts → P parts) →
    (other ≡ Some parts → P parts) → (if b then one else other) ≡ Some parts → P parts
by_if P true one other parts first second e = first e
by_if P false one other parts first second e = second e

merged_from_fits : (m : ℤ) (x : Part) (k : ℤ) (next : List Part → Option (List Part)) (ys parts : List Part) →
    ((zs ps : List Part) → next zs ≡ Some ps → PartsFit ps) → merged_from m x k next ys ≡ Some parts → PartsFit parts
unfolding merged_from
merged_from_fits m x k next [] parts fits e =
    front_fits x.node (multiple m x.coefficient) (next []) parts (λ z f. multiple_fits m x.coefficient z f) (λ ps f. fits [] ps f) e
merged_from_fits m x k next (y ∷ ys) parts fits e =
    by_if PartsFit (nat_lt x.node y.node) (front x.node (multiple m x.coefficient) (next (y ∷ ys))) _ parts
    (λ f. front_fits x.node (multiple m x.coefficient) (next (y ∷ ys)) parts (λ z g. multiple_fits m x.coefficient z g) (λ ps g. fits (y ∷ ys) ps g) f)
    (λ f. by_if PartsFit (nat_lt y.node x.node) (front y.node (multiple k y.coefficient) (merged_from m x k next ys)) _ parts
    (λ g. front_fits y.node (multiple k y.coefficient) (merged_from m x k next ys) parts (λ z d. multiple_fits k y.coefficient z d)
    (λ ps d. merged_from_fits m x k next ys ps fits d) g)
    (λ g. front_fits x.node (combination m x.coefficient k y.coefficient) (next ys) parts
    (λ z d. combination_fits m x.coefficient k y.coefficient z d) (λ ps d. fits ys ps d) g) f) e

merged_fits : (m : ℤ) (xs : List Part) (k : ℤ) (ys parts : List Part) → merged m xs k ys ≡ Some parts → PartsFit parts
unfolding merged
merged_fits m [] k ys parts e = multiplied_fits k ys parts e
merged_fits m (x ∷ xs) k ys parts e = merged_from_fits m x k (merged m xs k) ys parts (λ zs ps f. merged_fits m xs k zs ps f) e

both_fit : (parts : Option (List Part)) (constant : Option ℤ) (form : FormData) → ((xs : List Part) → parts ≡ Some xs → PartsFit xs) →
    ((z : ℤ) → constant ≡ Some z → FitsSigned w128 z) → both parts constant ≡ Some form → FormNumbersFit form
both_fit None constant form first second e = absurd (none-some form e)
both_fit (Some xs) None form first second e = absurd (none-some form e)
both_fit (Some xs) (Some z) form first second e = subst FormNumbersFit (same_Some (form_data xs z) form e) (first xs refl, second z refl)

sum_fits : (a : FormData) (m : ℤ) (b : FormData) (k : ℤ) (form : FormData) → scaled_sum a m b k ≡ Some form → FormNumbersFit form
sum_fits a m b k form e =
    both_fit (merged m a.parts k b.parts) (combination m a.constant k b.constant) form (λ xs f. merged_fits m a.parts k b.parts xs f)
    (λ z f. combination_fits m a.constant k b.constant z f) e

of_readings : (left right : Option FormData) (form : FormData) →
    option_and_then (λ a. option_and_then (λ b. scaled_sum a (pos 1) b (negsuc 0)) right) left ≡ Some form → FormNumbersFit form
of_readings None right form e = absurd (none-some form e)
of_readings (Some a) None form e = absurd (none-some form e)
of_readings (Some a) (Some b) form e = sum_fits a (pos 1) b (negsuc 0) form e

-- a difference fits
pub difference_fits : (nodes : List Node) (a b : ℕ) (form : FormData) → difference nodes a b ≡ Some form → FormNumbersFit form
unfolding difference
difference_fits nodes a b form e = of_readings (reading nodes a) (reading nodes b) form e

-- a form with these parts
pub with_parts : (form base : FormData) → form.parts ≡ base.parts → FormNumbersFit base → FitsSigned w128 form.constant → FormNumbersFit form
with_parts form base e fits constant = (subst PartsFit (sym e) fits.0, constant)
