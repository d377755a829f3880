use Rattle.std.specs.Prelude.{ℕ}
use Rattle.std.proofs.Common.{sym, subst}
use Rattle.grind_explain.specs.Explained.{HasReasons}
use Rattle.grind_case_split.proofs.RefutationLemmas.{reasons}
use Rattle.grind_case_split.proofs.plain.refutation.Goals as goal

pub refute-requires-clause-fits : goal.refute-requires-clause-fits
refute-requires-clause-fits c = c.requires.closure.built.fits

pub refute-requires-clause-reasons : goal.refute-requires-clause-reasons
refute-requires-clause-reasons c = λ count.
    subst (λ (b : ℕ). HasReasons c.in_ok-proof.field-0.proof b c.args.known.now.closure.edges c.in_ok-proof.field-0.whys count)
    (sym c.requires.root)
    (reasons c.args.writer.now.lemmas.now c.args.writer.now.goal.now c.in_ok-proof.field-0.proof c.in_ok-proof.field-0.whys
    c.args.known.now.given c.args.known.now.closure.edges count c.in_ok-proof.ensures.ledger c.requires.closure.built.founded)
