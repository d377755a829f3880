use Rattle.std.proofs.Common.{◌<◌, ℕ, length, slice_set, sym, ap, ◌∙◌, subst}
use Rattle.grind_reach.proofs.ReaderLemmas.{noted-within, noted-goes_on}
use Rattle.grind_reach.proofs.readers.note_all.Goals as goal

pub set-requires : goal.set-requires
set-requires c =
    subst (λ (n : ℕ). n < length c.loop-number.readers) (sym c.number.ensures)
    (noted-within c.args.readers.now c.loop-number.readers c.args.reader c.args.numbers.now c.loop-number.rest.now c.in-Some.tail.now
    c.in-Some.number.now c.in-Some.ensures.cases.0 c.requires c.loop-number.invariant)

pub loop-number-preserved : goal.loop-number-preserved
loop-number-preserved c =
    noted-goes_on c.args.readers.now c.loop-number.readers c.args.reader c.args.numbers.now c.loop-number.rest.now c.in-Some.tail.now
    c.in-Some.number.now c.in-Some.ensures.cases.0 c.requires c.loop-number.invariant c.set.new.self
    (c.set.ensures ∙ ap (λ (n : ℕ). slice_set c.loop-number.readers n c.args.reader) c.number.ensures)
