use Rattle.std.specs.Prelude.{◌∷◌, []}
use Rattle.grind_proof_writer.proofs.LineLemmas.{Tells-last}
use Rattle.grind_given_lines.proofs.LineLemmas.{root_can_write, root_formed, root_allows, root_stays}
use Rattle.grind_given_lines.proofs.fact_lines.put_next.Goals as goal

pub put_from-requires-clause-ready : goal.put_from-requires-clause-ready
put_from-requires-clause-ready c = root_can_write c.args.writer.now c.args.proof.now c.requires.root

pub put_from-requires-clause-formed : goal.put_from-requires-clause-formed
put_from-requires-clause-formed c = root_formed c.args.writer.now c.args.proof.now c.args.claim c.requires.root c.requires.formed

pub put_from-requires-clause-allowed : goal.put_from-requires-clause-allowed
put_from-requires-clause-allowed c =
    root_allows c.args.writer.now c.args.proof.now c.args.rule (c.args.premise ∷ []) c.args.claim c.requires.root c.requires.says

pub returns-in_err-number-clause-root : goal.returns-in_err-number-clause-root
returns-in_err-number-clause-root c =
    root_stays c.args.writer.now c.args.proof.now c.put_from.new.proof c.requires.root c.put_from.ensures.writes

pub returns-clause-root : goal.returns-clause-root
returns-clause-root c = root_stays c.args.writer.now c.args.proof.now c.put_from.new.proof c.requires.root c.put_from.ensures.writes

pub returns-clause-tells : goal.returns-clause-tells
returns-clause-tells c =
    Tells-last c.put_from.new.proof c.args.writer.now.branch c.in_ok-number.number c.args.claim c.in_ok-number.ensures.ends
