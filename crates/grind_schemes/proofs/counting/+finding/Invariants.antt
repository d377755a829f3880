use Rattle.std.proofs.Common.{◌++◌, drop}
use Rattle.grind_schemes.specs.Instances.{BeginsWith}
use Rattle.grind_schemes.proofs.InstanceLemmas.{IsLeft}
use Rattle.grind_schemes.proofs.counting.+finding.Given as goal

abbrev pub invariant-find_args-loop-arg : goal.invariant-find_args-loop-arg
invariant-find_args-loop-arg l = record {
  left : IsLeft (l.fn.table.nodes ++ l.fn.fresh) l.fn.subst l.fn.args (l.fn.table.nodes ++ l.fresh) l.ids (drop l.arg-index l.fn.args);
  grows : BeginsWith (l.fn.table.nodes ++ l.fn.fresh) (l.fn.table.nodes ++ l.fresh);
}
