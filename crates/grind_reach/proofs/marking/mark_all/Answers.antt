use Rattle.std.proofs.Common.{◌≡◌, ◌<◌, ℕ, true, length, slice_set, sym, ap, ◌∙◌, subst}
use Rattle.std.proofs.Math.ListN.{length-set}
use Rattle.grind_reach.proofs.MarkLemmas.{so_far-within, so_far-goes_on}
use Rattle.grind_reach.proofs.marking.mark_all.Goals as goal

pub set-requires : goal.set-requires
set-requires c =
    subst (λ (n : ℕ). n < length c.loop-number.marks) (sym c.number.ensures)
    (so_far-within c.args.marks.now c.loop-number.marks c.args.numbers.now c.loop-number.rest.now c.in-Some.tail.now c.in-Some.number.now
    c.in-Some.ensures.cases.0 c.requires c.loop-number.invariant)

pub loop-number-preserved : goal.loop-number-preserved
loop-number-preserved c =
    let set_is : c.set.new.self ≡ slice_set c.loop-number.marks c.in-Some.number.now true =
    c.set.ensures ∙ ap (λ (n : ℕ). slice_set c.loop-number.marks n true) c.number.ensures in
    let size : length c.set.new.self ≡ length c.loop-number.marks = ap length set_is ∙ length-set c.loop-number.marks c.in-Some.number.now true in
    so_far-goes_on c.args.marks.now c.loop-number.marks c.set.new.self c.args.numbers.now c.loop-number.rest.now c.in-Some.tail.now
    c.in-Some.number.now c.in-Some.ensures.cases.0 set_is size c.requires c.loop-number.invariant
