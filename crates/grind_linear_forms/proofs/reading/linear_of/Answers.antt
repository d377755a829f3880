use Rattle.grind_reach.proofs.ReadingLemmas.{sorted-within}
use Rattle.grind_linear_forms.proofs.reading.linear_of.Goals as goal

pub read_term-requires : goal.read_term-requires
read_term-requires c = sorted-within c.args.table.now.nodes c.args.id _ c.requires
