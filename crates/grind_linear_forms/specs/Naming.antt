-- Which nodes a linear form names.
use Rattle.std.specs.Prelude.{◌≡◌, ℕ, List, [], Some, All, ℤ}
use Rattle.grind_term_graph.specs.declared.node.Node.{Node}
use Rattle.grind_term_graph.specs.Shape.{IsTable}
use Rattle.grind_term_graph.specs.Terms.{int, sort_at}
use Rattle.grind_linear_forms.specs.declared.form.Part.{Part}
use Rattle.grind_linear_forms.specs.Forms.{FormData}
use Rattle.grind_linear_forms.specs.Sums.{scaled_sum}
use Rattle.grind_linear_forms.specs.Cuts.{IsCut}
use Rattle.grind_linear_forms.specs.Readings.{linear}

-- each node of the form is a whole number of the table
abbrev pub NamesNumbers : List Node → FormData → Type 0
NamesNumbers nodes form = All (λ (part : Part). sort_at nodes part.node ≡ Some int) form.parts

-- so it is with the reading of a whole number
abbrev pub ReadingsNameNumbers : Type 0
ReadingsNameNumbers =
    (nodes : List Node) (n : ℕ) (form : FormData) → IsTable [] nodes → sort_at nodes n ≡ Some int →
    linear nodes n ≡ Some form → NamesNumbers nodes form

-- with a sum of multiples of such forms
abbrev pub SumsNameNumbers : Type 0
SumsNameNumbers =
    (nodes : List Node) (a b sum : FormData) (m k : ℤ) → NamesNumbers nodes a → NamesNumbers nodes b →
    scaled_sum a m b k ≡ Some sum → NamesNumbers nodes sum

-- and with a cut of such a form
abbrev pub CutsNameNumbers : Type 0
CutsNameNumbers =
    (nodes : List Node) (form cut : FormData) (g : ℤ) → NamesNumbers nodes form → IsCut form g cut →
    NamesNumbers nodes cut
