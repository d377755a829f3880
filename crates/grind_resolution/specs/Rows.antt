-- The parts of a tree, as the code goes over them: for private contracts alone.
use Rattle.std.specs.Prelude.{◌≡◌, ℕ, ◌<◌, List, [], ◌∷◌, length, slice_index_or}
use Rattle.grind_grammar.specs.declared.syntax.Tree.{Tree}
use Rattle.grind_grammar.specs.Terms.{Row, none, more}
use Rattle.grind_grammar.specs.Keeps.{term_of}
use Rattle.grind_resolution.specs.Scopes.{Given}
use Rattle.grind_resolution.specs.Sorting.{HasSort}

-- the terms of these trees, in order
abbrev pub row_of_trees : List ℕ → List Tree → Row
row_of_trees text [] = none
row_of_trees text (tree ∷ trees) = more (term_of text tree) (row_of_trees text trees)

-- each of these trees has the sort at its place
abbrev pub EachHasSort : (List ℕ → Given → Type 0) → List ℕ → List Tree → List ℕ → Type 0
EachHasSort gives text trees sorts =
    (length trees ≡ length sorts)
    × ((k : ℕ) (d : Tree) (e : ℕ) → k < length trees → HasSort gives (term_of text (slice_index_or trees k d)) (slice_index_or sorts k e))
