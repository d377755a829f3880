use Rattle.grind_congruence.proofs.search.are_congruent.Goals as goal

pub node-left-requires : goal.node-left-requires
node-left-requires c = c.requires.fits.within c.args.a c.requires.first

pub node-right-requires : goal.node-right-requires
node-right-requires c = c.requires.fits.within c.args.b c.requires.second

pub are_all_same-requires-clause-left : goal.are_all_same-requires-clause-left
are_all_same-requires-clause-left c =
    rw c.as_slice-2.ensures.value (c.requires.fits.args c.args.a c.node-left.result.now c.requires.first c.node-left.ensures.value)

pub are_all_same-requires-clause-right : goal.are_all_same-requires-clause-right
are_all_same-requires-clause-right c =
    rw c.as_slice-3.ensures.value (c.requires.fits.args c.args.b c.node-right.result.now c.requires.second c.node-right.ensures.value)
