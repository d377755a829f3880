-- Readings of whole numbers as polynomials.
use Rattle.std.proofs.Common.{◌≡◌, ℕ, ◌<◌, List, length, Option, Some, None, Bool, false, cond, refl, sym, ap}
use Rattle.std.specs.Prelude.{slice_get}
use Rattle.std.specs.Option.{option_map}
use Rattle.std.proofs.lemmas.Bool.{ne_eqb}
use Rattle.std.proofs.lemmas.Option.{none-some, slice_get_within}
use Rattle.grind_term_graph.specs.declared.node.Node.{Node}
use Rattle.grind_term_graph.specs.Terms.{int, sort_at}
use Rattle.grind_polynomials.specs.declared.poly.Term.{Term}
use Rattle.grind_polynomials.specs.Readings.{polynomial}
use Rattle.grind_differences.specs.Differences.{is_number_sort, poly_reading}

pub poly_reading-number : (nodes : List Node) (n : ℕ) → sort_at nodes n ≡ Some int → poly_reading nodes n ≡ polynomial nodes n
unfolding poly_reading
poly_reading-number nodes n e = ap (λ (sort : Option ℕ). cond (is_number_sort sort) (polynomial nodes n) None) e

no_number_sort : (sort : Option ℕ) → ¬ (sort ≡ Some int) → is_number_sort sort ≡ false
no_number_sort None h = refl
no_number_sort (Some sort) h = ne_eqb sort int (λ (e : sort ≡ int). h (ap Some e))

pub poly_reading-other : (nodes : List Node) (n : ℕ) → ¬ (sort_at nodes n ≡ Some int) → poly_reading nodes n ≡ None
unfolding poly_reading
poly_reading-other nodes n h = ap (λ (is : Bool). cond is (polynomial nodes n) None) (no_number_sort (sort_at nodes n) h)

within_of_node : (nodes : List Node) (o : Option Node) (n : ℕ) → slice_get nodes n ≡ o
    → (o ≡ None → ⊥) → n < length nodes
within_of_node nodes None n e h = absurd (h refl)
within_of_node nodes (Some node) n e h = slice_get_within nodes n node e

no_node : (nodes : List Node) (n : ℕ) → slice_get nodes n ≡ None → sort_at nodes n ≡ None
no_node nodes n e = ap (option_map (λ (node : Node). node.sort)) e

from_sort : (sort : Option ℕ) (r : Option (List Term)) (poly : List Term) → cond (is_number_sort sort) r None ≡ Some poly → sort ≡ None → ⊥
from_sort None r poly e none = none-some poly e
from_sort (Some sort) r poly e none = none-some sort (sym none)

-- a term with a reading stands in the table
pub read_within : (nodes : List Node) (n : ℕ) (poly : List Term) → poly_reading nodes n ≡ Some poly → n < length nodes
unfolding poly_reading
read_within nodes n poly e =
    within_of_node nodes (slice_get nodes n) n refl (λ none. from_sort (sort_at nodes n) (polynomial nodes n) poly e (no_node nodes n none))
