use Rattle.indexmap.specs.IndexMap.{get}
use Rattle.grind_truth_prop.specs.Pairs.{couple_eq}
use Rattle.grind_truth_prop.proofs.PairLemmas.{finds_parted}
use Rattle.grind_truth_prop.proofs.pairs.parted_places.Goals as goal

pub returns : goal.returns
returns c =
    finds_parted c.args.known.now c.args.classes.now.lists c.in_ok-roots.roots (λ pair. get couple_eq c.in_ok-places.places pair)
    c.requires.partition c.in_ok-roots.ensures (rw c.as_slice.ensures.value at c.in_ok-places.ensures)
