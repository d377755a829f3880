use Rattle.std.proofs.Common.{◌≡◌, drop}
use Rattle.grind_schemes.specs.Instances.{BeginsWith}
use Rattle.grind_schemes.proofs.InstanceLemmas.{IsLeft}
use Rattle.grind_schemes.proofs.instance.+interning.Given as goal

abbrev pub invariant-intern_args-loop-arg : goal.invariant-intern_args-loop-arg
invariant-intern_args-loop-arg l = record {
  left : IsLeft l.fn.table.nodes l.fn.subst l.fn.args l.table.nodes l.ids (drop l.arg-index l.fn.args);
  grows : BeginsWith l.fn.table.nodes l.table.nodes;
  limit : l.table.limit ≡ l.fn.table.limit;
}
