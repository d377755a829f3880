use Rattle.std.specs.Prelude.{[]}
use Rattle.grind_proof_writer.proofs.LineLemmas.{Tells-last}
use Rattle.grind_given_lines.proofs.LineLemmas.{root_can_write, root_formed, root_allows, allowed_first, root_stays}
use Rattle.grind_given_lines.proofs.fact_lines.put_first.Goals as goal

pub put_alone-requires-clause-ready : goal.put_alone-requires-clause-ready
put_alone-requires-clause-ready c = root_can_write c.args.writer.now c.args.proof.now c.requires.root

pub put_alone-requires-clause-formed : goal.put_alone-requires-clause-formed
put_alone-requires-clause-formed c = root_formed c.args.writer.now c.args.proof.now c.args.claim c.requires.root c.requires.formed

pub put_alone-requires-clause-allowed : goal.put_alone-requires-clause-allowed
put_alone-requires-clause-allowed c =
    let writer = c.args.writer.now in
    root_allows writer c.args.proof.now c.args.rule [] c.args.claim c.requires.root
    (allowed_first writer.lemmas.now writer.goal.now c.args.proof.now.lines c.args.rule c.args.claim c.requires.says)

pub returns-in_err-number-clause-root : goal.returns-in_err-number-clause-root
returns-in_err-number-clause-root c =
    root_stays c.args.writer.now c.args.proof.now c.put_alone.new.proof c.requires.root c.put_alone.ensures.writes

pub returns-clause-root : goal.returns-clause-root
returns-clause-root c = root_stays c.args.writer.now c.args.proof.now c.put_alone.new.proof c.requires.root c.put_alone.ensures.writes

pub returns-clause-tells : goal.returns-clause-tells
returns-clause-tells c =
    Tells-last c.put_alone.new.proof c.args.writer.now.branch c.in_ok-number.number c.args.claim c.in_ok-number.ensures.ends
