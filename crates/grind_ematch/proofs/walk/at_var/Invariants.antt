use Rattle.std.proofs.Common.{take}
use Rattle.grind_schemes.specs.declared.scheme.Scheme.{Var}
use Rattle.grind_ematch.specs.Partials.{ListsOneOf}
use Rattle.grind_ematch.proofs.walk.at_var.Given as goal

abbrev pub invariant-loop-n : goal.invariant-loop-n
invariant-loop-n l = ListsOneOf l.query (Var l.number) (take l.n-index l.nodes) l.found
