-- What readings mean, whatever terms are read as.
use Rattle.std.specs.Prelude.{◌≡◌, ℕ, ◌<◌, List, ◌++◌, length, Some, ℤ}
use Rattle.grind_term_graph.specs.declared.node.Node.{Node}
use Rattle.grind_reach.specs.Readings.{Operations, read_at}
use Rattle.grind_reach.specs.Values.{RespectsArithmetic, KeepValues}

-- the reading of a term stays the same where the table grows
abbrev pub EachReadingStays : {R : Type 0} → Operations R → Type 0
EachReadingStays by = (nodes more : List Node) (n : ℕ) → n < length nodes → read_at by (nodes ++ more) n ≡ read_at by nodes n

-- where the operations keep values, and a table of values respects arithmetic, a term has the value of its reading
abbrev pub EachReadingHasItsValue : {R : Type 0} → Operations R → Type 0
EachReadingHasItsValue {R} by =
    (value : R → ℤ) (v : ℕ → ℤ) (nodes : List Node) (n : ℕ) (made : R) → KeepValues by value v → RespectsArithmetic nodes v →
    read_at by nodes n ≡ Some made → value made ≡ v n
