-- How many nodes a term has as it is written.
use Rattle.std.specs.Prelude.{ℕ, ◌+◌}
use Rattle.grind_grammar.specs.Terms.{Term, Row, True, False, Number, Apply, One, Two, none, more}

abbrev mutual
  -- a leaf is one node, a name or an operator one more than its parts have
  pub size : Term → ℕ
  size True = 1
  size False = 1
  size (Number value) = 1
  size (Apply name row) = row_size row + 1
  size (One op a) = size a + 1
  size (Two op a b) = size a + size b + 1

  pub row_size : Row → ℕ
  row_size none = 0
  row_size (more t row) = size t + row_size row
