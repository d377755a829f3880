use Rattle.grind_congruence.proofs.UsesLemmas.{AreNoted-take}
use Rattle.grind_congruence.proofs.agenda.Agenda.undo.Goals as goal

pub invariant_of-self : goal.invariant_of-self
invariant_of-self c =
    rw c.truncate-2.ensures (AreNoted-take c.self.inside.applications c.self.inside.uses c.args.noted.applications c.self.invariant)
