use Rattle.grind_ematch.specs.Partials.{AreUnion}
use Rattle.grind_ematch.proofs.SlotLemmas.{single_union}
use Rattle.grind_ematch.proofs.JoinLemmas.{JoinsOne-some}
use Rattle.grind_ematch.proofs.joining.join_two.Goals as goal

pub returns : goal.returns
returns c =
    let union : AreUnion c.args.one.now.slots c.args.other.now.slots c.in-Some.slots =
    rw (← c.as_slice.ensures.value, ← c.as_slice-2.ensures.value) (rw c.in-Some.is at c.in_ok-both.ensures) in
    JoinsOne-some c.args.one.now c.args.other.now c.args.found.now c.push.new.self c.in-Some.slots c.max-generation.result
    union c.max-generation.ensures single_union c.in_ok-push.ensures.ok
