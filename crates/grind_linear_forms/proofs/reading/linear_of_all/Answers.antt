use Rattle.grind_reach.proofs.ReadingLemmas.{all-sorted-within}
use Rattle.grind_linear_forms.proofs.reading.linear_of_all.Goals as goal

pub read_all-requires : goal.read_all-requires
read_all-requires c = all-sorted-within c.args.table.now.nodes c.args.ids.now _ c.requires
