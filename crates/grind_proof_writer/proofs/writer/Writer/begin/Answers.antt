use Rattle.std.specs.Prelude.{◌≡◌}
use Rattle.std.proofs.Common.{ap}
use Rattle.grind_schemes.specs.Goals.{GoalData}
use Rattle.grind_proof_writer.proofs.FinishLemmas.{begun_is_good}
use Rattle.grind_proof_writer.proofs.writer.Writer.begin.Goals as goal

pub returns-clause-good : goal.returns-clause-good
returns-clause-good c =
    let same : c.goal.inside.terms ≡ c.args.self.now.goal.now.terms = ap (λ (g : GoalData). g.terms) c.goal.view_is in
    begun_is_good c.args.self.now.lemmas.now c.args.self.now.goal.now c.goal.inside.terms c.in_ok-terms.terms c.new.result c.new-2.result same
    c.in_ok-terms.ensures c.new.ensures c.new-2.ensures
