-- The size of a term by the items of its parts.
use Rattle.std.specs.Prelude.{◌≡◌, ℕ, zero, suc, ◌+◌, ◌<◌, ◌≤◌, min, List, [], ◌∷◌, length, drop, slice_index_or, refl}
use Rattle.std.proofs.Common.{arith, sym, ap, ◌∙◌}
use Rattle.grind_grammar.specs.declared.syntax.Tree.{Tree}
use Rattle.grind_grammar.specs.Terms as terms
use Rattle.grind_grammar.specs.Terms.{Term}
use Rattle.grind_grammar.specs.Keeps.{term_of}
use Rattle.grind_resolution.specs.Sizes.{size, row_size}
use Rattle.grind_resolution.specs.Rows.{row_of_trees}

-- a name at parts of a size
pub named_size : (text name : List ℕ) (trees : List Tree) (t : Term) (below result limit : ℕ) → t ≡ terms.Apply name (row_of_trees text trees)
    → below ≡ min (row_size (row_of_trees text trees)) limit → result ≡ min (below + 1) limit → result ≡ min (size t) limit
named_size text name trees t below result limit is e f = let s = ap size is in omega arith

-- the rest of the trees begins with the next one
pub rest_at : (trees : List Tree) (k : ℕ) (item : Tree) → k < length trees → item ≡ slice_index_or trees k item → drop k trees ≡ item ∷ drop (k + 1) trees
rest_at [] k item l is = absurd (omega arith)
rest_at (first ∷ trees) zero item l is = ap (λ (n : Tree). n ∷ trees) (sym is)
rest_at (first ∷ trees) (suc k) item l is = let e : suc k + 1 ≡ suc (k + 1) = omega arith in rw e (rest_at trees k item (omega arith) is)

-- and there is no rest past the end
pub rest_past : (trees : List Tree) (k : ℕ) → length trees ≤ k → drop k trees ≡ []
rest_past [] zero l = refl
rest_past [] (suc k) l = refl
rest_past (first ∷ trees) zero l = absurd (omega arith)
rest_past (first ∷ trees) (suc k) l = rest_past trees k (omega arith)
