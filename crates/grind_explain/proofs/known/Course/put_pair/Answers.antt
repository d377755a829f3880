use Rattle.grind_explain.proofs.NotedLemmas.{Goes-none, Goes-line, AreLines-line}
use Rattle.grind_needed_edges.proofs.PairLemmas.{HasNumber-put}
use Rattle.grind_explain.proofs.known.Course.put_pair.Goals as goal

pub returns-in-Some-clause-goes : goal.returns-in-Some-clause-goes
returns-in-Some-clause-goes c = Goes-none c.args.proof.now c.args.told.now

pub returns-in-Some-clause-has : goal.returns-in-Some-clause-has
returns-in-Some-clause-has c = (c.in-Some.field-0, c.in-Some.ensures)

pub returns-clause-goes : goal.returns-clause-goes
returns-clause-goes c =
    let writer = c.args.self.now.writer.now in
    Goes-line writer.lemmas.now writer.goal.now c.args.proof.now c.put.new.proof writer.branch c.args.told.now c.put-2.new.self c.args.pair.now.left
    c.args.pair.now.right c.in_ok-number.number c.in_ok-number.ensures.writes c.in_ok-number.ensures.next c.in_ok-number.ensures.ends c.in_default.ensures
    c.in_ok-put.ensures.ok c.requires.wanted

pub returns-clause-lines : goal.returns-clause-lines
returns-clause-lines c =
    let writer = c.args.self.now.writer.now in
    AreLines-line writer.lemmas.now writer.goal.now c.args.proof.now c.put.new.proof writer.branch c.args.told.now c.put-2.new.self c.args.pair.now.left
    c.args.pair.now.right c.in_ok-number.number c.in_ok-number.ensures.writes c.in_ok-number.ensures.ends c.requires.lines c.in_ok-put.ensures.ok

pub returns-clause-has : goal.returns-clause-has
returns-clause-has c = HasNumber-put c.args.told.now c.put-2.new.self c.args.pair.now.left c.args.pair.now.right c.in_ok-number.number c.in_ok-put.ensures.ok
