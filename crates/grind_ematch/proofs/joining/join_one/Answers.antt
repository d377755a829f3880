use Rattle.std.proofs.Common.{[], ◌∷◌, List, take, sym, subst}
use Rattle.grind_ematch.specs.declared.partial.Partial.{Partial}
use Rattle.grind_ematch.specs.Partials.{JoinsOne}
use Rattle.grind_ematch.proofs.Along.{take_next, take_whole}
use Rattle.grind_ematch.proofs.JoinLemmas.{JoinsOne-first, JoinsOne-then}
use Rattle.grind_ematch.proofs.joining.join_one.Goals as goal

pub loop-other-init : goal.loop-other-init
loop-other-init c = JoinsOne-first c.args.one.now c.args.found.now

pub loop-other-preserved : goal.loop-other-preserved
loop-other-preserved c =
    let k = c.loop-other.other-index in
    let item = c.other-item.result in
    subst (λ (list : List Partial). JoinsOne c.args.one.now list c.args.found.now c.join_two.new.found)
    (sym (take_next c.args.right.now k item c.loop-other-test.true c.other-item.is))
    (JoinsOne-then c.args.one.now (take k c.args.right.now) (item ∷ []) c.args.found.now c.loop-other.found c.join_two.new.found
    c.loop-other.invariant c.in_ok-join_two.ensures)

pub returns : goal.returns
returns c =
    subst (λ (list : List Partial). JoinsOne c.args.one.now list c.args.found.now c.loop-other.found)
    (take_whole c.args.right.now c.loop-other.other-index c.loop-other-test.false) c.loop-other.invariant
