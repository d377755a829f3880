-- When a theorem is small, by sums up to a limit.
use Rattle.std.specs.Prelude.{◌≡◌, ◌↔◌, ℕ, ◌+◌, ◌≤◌, min, IsTrue, List, length}
use Rattle.std.proofs.Common.{arith, leb, leb-true, le-leb}
use Rattle.grind_grammar.specs.Terms.{Term, Annotation}
use Rattle.grind_resolution.specs.Sizes.{size}
use Rattle.grind_annotations.specs.Written.{written_sizes}
use Rattle.grind_theory.specs.Theorems.{IsSmallTheorem}

-- the count up to 257 tells whether there are at most 256
pub small-counted : (vars : List ℕ) (annotations : List Annotation) (body : Term) (own below whole : ℕ) → length vars ≤ 16
    → own ≡ min (size body) 257 → below ≡ min (written_sizes annotations) 257 → whole ≡ min (own + below) 257
    → IsTrue (leb whole 256) ↔ IsSmallTheorem vars annotations body
small-counted vars annotations body own below whole few e f g = (
  λ t. (few, let l : whole ≤ 256 = leb-true whole 256 t in omega arith),
  λ small. let l = small.1 in le-leb whole 256 (omega arith),
)
