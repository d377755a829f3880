use Rattle.grind_reach.proofs.ReaderLemmas.{uses-are}
use Rattle.grind_reach.proofs.readers.last_uses.Goals as goal

pub returns-clause-uses : goal.returns-clause-uses
returns-clause-uses c =
    uses-are c.args.table.now.nodes c.args.marks.now c.args.roots.now c.in_ok-uses.uses c.note_all.new.readers c.in_ok-uses.ensures.last
    c.note_all.ensures.only
