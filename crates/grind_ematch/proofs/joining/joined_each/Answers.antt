use Rattle.std.proofs.Common.{[], List, take, sym, subst}
use Rattle.grind_ematch.specs.declared.partial.Partial.{Partial}
use Rattle.grind_ematch.specs.Partials.{Joins}
use Rattle.grind_ematch.proofs.Along.{take_next, take_whole}
use Rattle.grind_ematch.proofs.JoinLemmas.{Joins-first, Joins-next}
use Rattle.grind_ematch.proofs.joining.joined_each.Goals as goal

pub loop-one-init : goal.loop-one-init
loop-one-init c =
    subst (λ (list : List Partial). Joins [] c.args.right.now list) (sym c.new-found.ensures) (Joins-first c.args.right.now)

pub loop-one-preserved : goal.loop-one-preserved
loop-one-preserved c =
    let k = c.loop-one.one-index in
    let item = c.one-item.result in
    subst (λ (list : List Partial). Joins list c.args.right.now c.join_one.new.found)
    (sym (take_next c.args.left.now k item c.loop-one-test.true c.one-item.is))
    (Joins-next (take k c.args.left.now) c.args.right.now c.loop-one.found c.join_one.new.found item c.loop-one.invariant c.in_ok-join_one.ensures)

pub returns : goal.returns
returns c =
    subst (λ (list : List Partial). Joins list c.args.right.now c.loop-one.found)
    (take_whole c.args.left.now c.loop-one.one-index c.loop-one-test.false) c.loop-one.invariant
