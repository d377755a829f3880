use Rattle.std.proofs.Common.{Some, subst}
use Rattle.grind_ematch.specs.Waiting.{Places, NoneWaits, Waits}
use Rattle.grind_ematch.proofs.SceneLemmas.{got_below}
use Rattle.grind_ematch.proofs.WaitingLemmas.{takes_by}
use Rattle.grind_ematch.proofs.waiting.take_next.Goals as goal

pub returns-in_default : goal.returns-in_default
returns-in_default c = subst (λ (places : Places). NoneWaits places) c.as_slice.ensures.value c.in_default.ensures

pub replace-requires : goal.replace-requires
replace-requires c =
    let waits = subst (λ (places : Places). Waits places c.in-Some.place) c.as_slice.ensures.value c.in-Some.ensures in
    got_below c.args.waiting.now c.in-Some.place (Some waits.0) waits.1

pub returns : goal.returns
returns c =
    takes_by c.args.waiting.now c.replace.new.self c.in-Some.place c.replace.result
    (subst (λ (places : Places). Waits places c.in-Some.place) c.as_slice.ensures.value c.in-Some.ensures)
    c.replace.ensures.value c.replace.ensures.new
