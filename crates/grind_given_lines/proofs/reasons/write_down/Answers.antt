use Rattle.grind_given_lines.proofs.ReasonLemmas.{AreWritten-start, ledger_of}
use Rattle.grind_given_lines.proofs.reasons.write_down.Goals as goal

pub write_all-requires-clause-written : goal.write_all-requires-clause-written
write_all-requires-clause-written c =
    AreWritten-start c.args.writer.now.goal.now c.in_ok-proof.proof c.in_ok-whys.whys c.in_ok-whys.ensures

pub returns-clause-ledger : goal.returns-clause-ledger
returns-clause-ledger c =
    let writer = c.args.writer.now in
    ledger_of writer.lemmas.now writer.goal.now c.write_all.new.proof c.write_all.new.whys c.args._given.now c.in_ok-write_all.ensures.root.rooted
    c.in_ok-write_all.ensures.written c.requires.sources
