use Rattle.std.specs.Prelude.{◌+◌, List}
use Rattle.std.proofs.Common.{sym, subst}
use Rattle.grind_needed_edges.specs.declared.why.Why.{Why}
use Rattle.grind_given_lines.specs.Written.{AreWritten}
use Rattle.grind_given_lines.proofs.LineLemmas.{written_in_root}
use Rattle.grind_given_lines.proofs.ReasonLemmas.{AreWritten-step}
use Rattle.grind_given_lines.proofs.reasons.write_source.Goals as goal

pub returns-clause-written : goal.returns-clause-written
returns-clause-written c =
    let writer = c.args.writer.now in
    subst (λ (whys : List Why). AreWritten writer.goal.now c.reason_of.new.proof whys (c.args.k + 1)) (sym c.in_ok-push.ensures.ok)
    (AreWritten-step writer.lemmas.now writer.goal.now c.args.proof.now c.reason_of.new.proof c.args.whys.now c.in_ok-why.why c.args.k
    c.requires.written
    (written_in_root writer c.args.proof.now c.reason_of.new.proof c.requires.root c.in_ok-why.ensures.writes) c.in_ok-why.ensures.reason)
