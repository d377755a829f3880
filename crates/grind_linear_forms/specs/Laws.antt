-- What linear forms mean, over whole numbers without bound.
use Rattle.std.specs.Prelude.{◌≡◌, ℕ, ◌<◌, List, ◌++◌, length, Some, ℤ, pos, ◌+ℤ◌, ◌*ℤ◌, ◌≤ℤ◌, ◌<ℤ◌}
use Rattle.grind_term_graph.specs.declared.node.Node.{Node}
use Rattle.grind_linear_forms.specs.Forms.{FormData}
use Rattle.grind_linear_forms.specs.Sums.{scaled_sum}
use Rattle.grind_linear_forms.specs.Cuts.{IsCut}
use Rattle.grind_linear_forms.specs.Readings.{linear}
use Rattle.grind_linear_forms.specs.Values.{form_value, RespectsArithmetic}

-- the value of m times a form and k times another is m times the value of the one and k times that of the other
abbrev pub SumsHaveTheirValues : Type 0
SumsHaveTheirValues =
    (v : ℕ → ℤ) (a b sum : FormData) (m k : ℤ) → scaled_sum a m b k ≡ Some sum →
    form_value v sum ≡ (m *ℤ form_value v a) +ℤ (k *ℤ form_value v b)

-- where a table of values respects arithmetic, a term has the value of its reading
abbrev pub ReadingsHaveTheirValues : Type 0
ReadingsHaveTheirValues =
    (nodes : List Node) (v : ℕ → ℤ) (n : ℕ) (form : FormData) → RespectsArithmetic nodes v →
    linear nodes n ≡ Some form → form_value v form ≡ v n

-- the reading of a term stays the same where the table grows
abbrev pub ReadingsStay : Type 0
ReadingsStay =
    (nodes more : List Node) (n : ℕ) → n < length nodes → linear (nodes ++ more) n ≡ linear nodes n

-- where a form is at most 0, so is each of its cuts
abbrev pub CutsStayBelow : Type 0
CutsStayBelow =
    (v : ℕ → ℤ) (form cut : FormData) (g : ℤ) → pos 0 <ℤ g → IsCut form g cut →
    form_value v form ≤ℤ pos 0 → form_value v cut ≤ℤ pos 0

-- a form has one cut by a number
abbrev pub OneCut : Type 0
OneCut =
    (form one other : FormData) (g : ℤ) → pos 0 <ℤ g → IsCut form g one → IsCut form g other → one ≡ other
