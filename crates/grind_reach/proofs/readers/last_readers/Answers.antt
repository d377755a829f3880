use Rattle.std.proofs.Common.{rules, ◌≡◌, ℕ, ◌+◌, suc, List, slice_get, length, Some, arith, sym, subst}
use Rattle.std.proofs.lemmas.Bool.{both_ways}
use Rattle.grind_reach.proofs.ReaderLemmas.{HasReaders, readers-more, readers-same, readers-end}
use Rattle.grind_reach.proofs.readers.last_readers.Goals.{then-is_marked, else-is_marked}
use Rattle.grind_reach.proofs.readers.last_readers.Goals as goal

pub loop-number-preserved : goal.loop-number-preserved
loop-number-preserved c =
    let next : suc c.loop-number.number ≡ c.loop-number.number + 1 = omega arith in
    subst (HasReaders c.args.table.now.nodes c.args.marks.now c.if-is_marked.readers) next
    (elim c.if-is_marked.branch [
      | then-is_marked w ↦
          let value : slice_get c.args.table.now.nodes c.loop-number.number ≡ Some w.node.result.now = search rules in
          subst (λ (readers : List ℕ). HasReaders c.args.table.now.nodes c.args.marks.now readers (suc c.loop-number.number)) (sym w.readers-is)
          (readers-more c.args.table.now.nodes c.args.marks.now c.loop-number.number w.node.result.now value c.loop-number.readers w.note.new.readers
          (c.is_marked.ensures.0 w.if-is_marked.true) w.note.ensures.size w.note.ensures.noted w.note.ensures.only c.loop-number.invariant)
      | else-is_marked w ↦
          subst (λ (readers : List ℕ). HasReaders c.args.table.now.nodes c.args.marks.now readers (suc c.loop-number.number)) (sym w.readers-is)
          (readers-same c.args.table.now.nodes c.args.marks.now c.loop-number.number c.loop-number.readers
          (λ marked. both_ways c.is_marked.result w.if-is_marked.false (c.is_marked.ensures.1 marked)) c.loop-number.invariant)
    ])

pub returns-clause-last : goal.returns-clause-last
returns-clause-last c = λ a.
    let whole : c.loop-number.number ≡ length c.args.marks.now = search rules in
    readers-end c.args.table.now.nodes c.args.marks.now c.loop-number.readers
    (subst (HasReaders c.args.table.now.nodes c.args.marks.now c.loop-number.readers) whole c.loop-number.invariant) a
