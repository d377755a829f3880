use Rattle.std.proofs.Common.{◌≡◌, ◌++◌, List, drop}
use Rattle.grind_schemes.specs.declared.scheme.Scheme.{Scheme}
use Rattle.grind_patterns.specs.Copies.{AreCopies}
use Rattle.grind_patterns.proofs.copies.+copying.Given as goal

abbrev pub invariant-copied_each-loop-scheme : goal.invariant-copied_each-loop-scheme
invariant-copied_each-loop-scheme l =
    (done : List Scheme) × AreCopies l.copies.items done × (l.fn.schemes ≡ done ++ drop l.scheme-index l.fn.schemes)
