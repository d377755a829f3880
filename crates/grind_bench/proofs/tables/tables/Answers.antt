use Rattle.std.proofs.Common.{[], ap, sym, ◌∙◌, append-nil}
use Rattle.grind_term_graph.specs.Terms.{Terms}
use Rattle.grind_bench.proofs.tables.tables.Goals as goal

pub returns : goal.returns
returns c = (
  [],
  ap (λ (t : Terms). t.nodes) c.in_ok-terms.ensures ∙ ap (λ (t : Terms). t.nodes) c.terms.ensures
      ∙ sym (append-nil c.args.goal.now.terms.nodes),
)
