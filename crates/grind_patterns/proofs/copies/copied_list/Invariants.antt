use Rattle.std.proofs.Common.{◌≡◌, ◌++◌, List, drop}
use Rattle.grind_schemes.specs.declared.scheme.Scheme.{Scheme}
use Rattle.grind_patterns.specs.Copies.{AreCopies}
use Rattle.grind_patterns.proofs.copies.copied_list.Given as goal

abbrev pub invariant-loop-scheme : goal.invariant-loop-scheme
invariant-loop-scheme l =
    (done : List Scheme) × AreCopies l.copies done × (l.fn.schemes ≡ done ++ drop l.scheme-index l.fn.schemes)
