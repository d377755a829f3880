-- How terms are read as linear forms.
use Rattle.std.specs.Prelude.{ℕ, List, [], ◌∷◌, Option, Some, Bool, true, false, if◌then◌else◌, ℤ, pos, negsuc}
use Rattle.grind_term_graph.specs.declared.node.Node.{Node}
use Rattle.grind_reach.specs.Readings.{Operations, read_at}
use Rattle.grind_linear_forms.specs.declared.form.Part.{Part}
use Rattle.grind_linear_forms.specs.Forms.{FormData, number_form, node_form}
use Rattle.grind_linear_forms.specs.Sums.{scaled_form, scaled_sum}
unfoldable pub use Rattle.grind_reach.specs.Readings.{readings}

-- there are no parts
abbrev pub is_number : List Part → Bool
is_number [] = true
is_number (part ∷ rest) = false

-- the reading of a product, the node n, from those of its factors: one factor times the other where one of them is a
-- number, else the node itself
abbrev pub product_form : ℕ → FormData → FormData → Option FormData
product_form n a b =
    if is_number a.parts then scaled_form a.constant b
    else if is_number b.parts then scaled_form b.constant a
    else Some (node_form n)

-- how terms are read as linear forms: a number is a constant, and a node that is read as itself is taken once
abbrev pub form_operations : Operations FormData
form_operations = record {
  number_of = λ (number : ℤ). Some (number_form number);
  atom_of = λ (n : ℕ). Some (node_form n);
  sum_of = λ (a b : FormData). scaled_sum a (pos 1) b (pos 1);
  negation_of = scaled_form (negsuc 0);
  product_of = product_form;
}

-- the node of this number as a linear form, where each number on the way fits in 128 bits
unfoldable pub linear : List Node → ℕ → Option FormData
linear nodes n = read_at form_operations nodes n
