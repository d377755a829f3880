use Rattle.std.proofs.Common.{rules, refl, []}
use Rattle.grind_term_graph.specs.declared.head.Head.TheVariants.{True}
use Rattle.grind_schemes.proofs.SchemeLemmas.{IsScheme-Apply}
use Rattle.grind_term_rows.proofs.theorem_tests.truth.Goals as goal

pub invariant_of-result : goal.invariant_of-result
invariant_of-result c = rw (c.new-2.ensures, c.new-3.ensures) (record {
  body = (IsScheme-Apply [] True 0 c.new.result).1 (rw c.new.ensures.items (search rules));
  formula = refl;
  patterns = search rules;
  functions = search rules;
  variables = search rules;
  wanted = search rules;
})
