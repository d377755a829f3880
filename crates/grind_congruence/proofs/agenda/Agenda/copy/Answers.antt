use Rattle.grind_congruence.proofs.agenda.Agenda.copy.Goals as goal

pub invariant_of-result : goal.invariant_of-result
invariant_of-result c =
    rw (c.in_ok-applications.ensures, c.as_slice.ensures.value, c.in_ok-uses.ensures, c.as_slice-2.ensures.value) c.self.invariant
