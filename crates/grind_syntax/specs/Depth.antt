-- How deep a tree is, as the code counts it.
use Rattle.std.specs.Prelude.{ℕ, ◌+◌, max, List, [], ◌∷◌}
use Rattle.grind_grammar.specs.declared.syntax.Tree.{Tree, True, False, Number, Apply', One', Two', Row_of-Tree, end_of-Tree, more_of-Tree}

abbrev mutual
  -- how deep a tree is
  pub tree_depth : Tree → ℕ
  tree_depth True = 1
  tree_depth False = 1
  tree_depth (Number value) = 1
  tree_depth (Apply' name shape args) = row_depth args + 1
  tree_depth (One' op p a) = tree_depth a + 1
  tree_depth (Two' op p a q b) = max (tree_depth a) (tree_depth b) + 1

  -- how deep the deepest of a row is
  pub row_depth : {m : _} → Row_of-Tree m → ℕ
  row_depth end_of-Tree = 0
  row_depth (more_of-Tree first rest) = max (tree_depth first) (row_depth rest)

-- how deep the deepest is
abbrev pub trees_depth : List Tree → ℕ
trees_depth [] = 0
trees_depth (t ∷ ts) = max (tree_depth t) (trees_depth ts)
