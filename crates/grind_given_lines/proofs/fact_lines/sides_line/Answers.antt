use Rattle.grind_given_lines.specs.Writing.{literal}
use Rattle.grind_proof_writer.proofs.LineLemmas.{claim_at-tells, IsUsable-tells}
use Rattle.grind_given_lines.proofs.LineLemmas.{sides_allowed}
use Rattle.grind_given_lines.proofs.fact_lines.sides_line.Goals as goal

pub put_next-requires-clause-says : goal.put_next-requires-clause-says
put_next-requires-clause-says c =
    let reading = c.args.fact.now.reading in
    sides_allowed c.args.writer.now.goal.now.terms.nodes c.args.proof.now.lines c.args.told c.args.fact.now.node c.args.holds reading.plain
    reading.equation reading.left reading.right c.claim_of_sides-claim.result c.requires.fact.reading
    (claim_at-tells c.args.proof.now c.args.writer.now.branch c.args.told (literal c.args.holds reading.equation) c.requires.told)
    c.claim_of_sides-claim.ensures

pub put_next-requires-clause-usable : goal.put_next-requires-clause-usable
put_next-requires-clause-usable c =
    IsUsable-tells c.args.proof.now c.args.writer.now.branch c.args.told (literal c.args.holds c.args.fact.now.reading.equation) c.requires.told
