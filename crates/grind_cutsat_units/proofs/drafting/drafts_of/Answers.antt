use Rattle.grind_cutsat_units.proofs.DraftingLemmas.{premises_stand, half_next, half_last}
use Rattle.grind_cutsat_units.proofs.drafting.drafts_of.Goals as goal

pub put-requires : goal.put-requires
put-requires c =
    premises_stand c.args.view.now.facts.now c.args.view.now.next c.args.posts.now c.loop-it.rest.now c.in-Some.tail.now
    c.in-Some.it.now c.loop-it.drafts c.in-Some.ensures.cases.0 c.loop-it.invariant

pub loop-it-preserved : goal.loop-it-preserved
loop-it-preserved c =
    half_next c.args.view.now.facts.now c.args.view.now.next c.args.posts.now c.loop-it.rest.now c.in-Some.tail.now
    c.in-Some.it.now c.loop-it.drafts c.in-Some.ensures.cases.0 c.loop-it.invariant c.put.new.drafts c.in_ok-put.ensures

pub returns : goal.returns
returns c =
    half_last c.args.view.now.facts.now c.args.view.now.next c.args.posts.now c.loop-it.rest.now c.loop-it.drafts
    c.in_default.ensures.cases c.loop-it.invariant
