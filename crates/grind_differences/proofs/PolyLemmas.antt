-- Readings of whole numbers as polynomials, and their differences.
use Rattle.std.proofs.Common.{◌≡◌, ◌↔◌, ℕ, List, ◌++◌, Option, Some, None, Bool, true, false, true≢false, cond, refl, sym, ap, ◌∙◌}
use Rattle.std.specs.Prelude.{IsTrue, nat_eq, slice_get}
use Rattle.std.specs.Option.{option_and_then}
use Rattle.std.proofs.lemmas.Bool.Decides.{Decides-eqb}
use Rattle.std.proofs.lemmas.Option.{same_Some, none-some}
use Rattle.grind_term_graph.specs.declared.node.Node.{Node}
use Rattle.grind_term_graph.specs.Terms.{int, sort_at}
use Rattle.grind_polynomials.specs.declared.poly.Term.{Term}
use Rattle.grind_polynomials.specs.Laws.{ReadingsStay}
use Rattle.grind_polynomials.specs.Readings.{polynomial}
use Rattle.grind_differences.specs.Differences.{is_number_sort, poly_reading, less_poly, poly_difference}
use Rattle.grind_differences.proofs.BoundLemmas.{and_then_some, field_is_still, no_number_sort, within_of_sort}

-- ---- readings

pub poly_reading-number : (nodes : List Node) (n : ℕ) → sort_at nodes n ≡ Some int → poly_reading nodes n ≡ polynomial nodes n
unfolding poly_reading
poly_reading-number nodes n e = ap (λ (sort : Option ℕ). cond (is_number_sort sort) (polynomial nodes n) None) e

pub poly_reading-other : (nodes : List Node) (n : ℕ) → ¬ (sort_at nodes n ≡ Some int) → poly_reading nodes n ≡ None
unfolding poly_reading
poly_reading-other nodes n h = ap (λ (is : Bool). cond is (polynomial nodes n) None) (no_number_sort (sort_at nodes n) h)

by_test : (sort : ℕ) (b : Bool) (r : Option (List Term)) (poly : List Term) → nat_eq sort int ≡ b → cond b r None ≡ Some poly
    → (Some sort ≡ Some int) × (r ≡ Some poly)
by_test sort true r poly is e = (ap Some ((Decides-eqb sort int).0 is), e)
by_test sort false r poly is e = absurd (none-some poly e)

from_sort : (sort : Option ℕ) (r : Option (List Term)) (poly : List Term) → cond (is_number_sort sort) r None ≡ Some poly
    → (sort ≡ Some int) × (r ≡ Some poly)
from_sort None r poly e = absurd (none-some poly e)
from_sort (Some sort) r poly e = by_test sort (nat_eq sort int) r poly refl e

-- a term with a reading is a whole number
pub poly_reading-sort : (nodes : List Node) (n : ℕ) (poly : List Term) → poly_reading nodes n ≡ Some poly
    → (sort_at nodes n ≡ Some int) × (polynomial nodes n ≡ Some poly)
unfolding poly_reading
poly_reading-sort nodes n poly e = from_sort (sort_at nodes n) (polynomial nodes n) poly e

pub poly_reading-stays : ReadingsStay → (nodes more : List Node) (n : ℕ) (poly : List Term) → poly_reading nodes n ≡ Some poly
    → poly_reading (nodes ++ more) n ≡ Some poly
poly_reading-stays law nodes more n poly e =
    let is = poly_reading-sort nodes n poly e in
    let still : sort_at (nodes ++ more) n ≡ Some int = field_is_still (λ (node : Node). node.sort) nodes more n int is.0 in
    poly_reading-number (nodes ++ more) n still ∙ law nodes more n (within_of_sort nodes (slice_get nodes n) n refl is.0) ∙ is.1

-- ---- differences

-- what is made of the second reading, and of the first
abbrev second : List Term → Option (List Term) → Option (List Term)
second left o = option_and_then (λ (right : List Term). less_poly left right) o

abbrev first : Option (List Term) → Option (List Term) → Option (List Term)
first right o = option_and_then (λ (left : List Term). second left right) o

pub poly_difference-from : (nodes : List Node) (a b : ℕ) (left right : List Term) → poly_reading nodes a ≡ Some left
    → poly_reading nodes b ≡ Some right → poly_difference nodes a b ≡ less_poly left right
unfolding poly_difference
poly_difference-from nodes a b left right e f = ap (first (poly_reading nodes b)) e ∙ ap (second left) f

pub poly_difference-parts : (nodes : List Node) (a b : ℕ) (poly : List Term) → poly_difference nodes a b ≡ Some poly
    → (left : List Term) × (right : List Term) × (poly_reading nodes a ≡ Some left) × (poly_reading nodes b ≡ Some right)
    × (less_poly left right ≡ Some poly)
unfolding poly_difference
poly_difference-parts nodes a b poly e =
    let one = and_then_some (λ (left : List Term). second left (poly_reading nodes b)) (poly_reading nodes a) poly e in
    let two = and_then_some (λ (right : List Term). less_poly one.0 right) (poly_reading nodes b) poly one.2 in
    (one.0, two.0, one.1, two.1, two.2)

pub poly_difference-stays : ReadingsStay → (nodes more : List Node) (a b : ℕ) (poly : List Term) → poly_difference nodes a b ≡ Some poly
    → poly_difference (nodes ++ more) a b ≡ Some poly
poly_difference-stays law nodes more a b poly e =
    let is = poly_difference-parts nodes a b poly e in
    poly_difference-from (nodes ++ more) a b is.0 is.1 (poly_reading-stays law nodes more a is.0 is.2) (poly_reading-stays law nodes more b is.1 is.3) ∙ is.4

-- the first term has no reading, or the second
pub poly_difference-left : (nodes : List Node) (a b : ℕ) → poly_reading nodes a ≡ None → poly_difference nodes a b ≡ None
unfolding poly_difference
poly_difference-left nodes a b e = ap (first (poly_reading nodes b)) e

pub poly_difference-right : (nodes : List Node) (a b : ℕ) (left : List Term) → poly_reading nodes a ≡ Some left
    → poly_reading nodes b ≡ None → poly_difference nodes a b ≡ None
unfolding poly_difference
poly_difference-right nodes a b left e f = ap (first (poly_reading nodes b)) e ∙ ap (second left) f

-- ---- tests of differences

module _ (nodes : List Node) (a b : ℕ) where
  -- a test of the difference
  pub is_poly : (base poly : List Term) (is : Bool) → poly_difference nodes a b ≡ Some base → (IsTrue is ↔ (base ≡ poly))
      → IsTrue is ↔ (poly_difference nodes a b ≡ Some poly)
  is_poly base poly is here decides = (λ h. here ∙ ap Some (decides.0 h), λ e. decides.1 (same_Some base poly (sym here ∙ e)))

  pub is_no_poly : (poly : List Term) → poly_difference nodes a b ≡ None → IsTrue false ↔ (poly_difference nodes a b ≡ Some poly)
  is_no_poly poly none = (λ h. absurd (true≢false (sym h)), λ e. absurd (none-some poly (sym none ∙ e)))
