use Rattle.std.specs.Prelude.{◌≡◌, ◌++◌, ℕ, List}
use Rattle.std.proofs.Common.{ap, subst}
use Rattle.grind_congruence.specs.Table.{AgendaData, agenda_of, IsTouched, uses_of_all}
use Rattle.grind_congruence.proofs.UsesLemmas.{has_users}
use Rattle.grind_congruence.proofs.agenda.Agenda.touch.Goals as goal

pub returns-clause-ok : goal.returns-clause-ok
returns-clause-ok c =
    let work_is : c.put_all_uses.new.work ≡ c.self.inside.work ++ uses_of_all c.self.inside.uses c.args.nodes.now =
    rw c.as_slice.ensures.value at c.in_ok-put_all_uses.ensures.ok in
    subst (λ (old : AgendaData). IsTouched old c.args.nodes.now
    (agenda_of c.self.inside.table c.self.inside.applications c.put_all_uses.new.work c.self.inside.cursor)) c.self.view_is (
      uses_of_all c.self.inside.uses c.args.nodes.now,
      ap (λ (ws : List ℕ). agenda_of c.self.inside.table c.self.inside.applications ws c.self.inside.cursor) work_is,
      has_users c.self.inside.applications c.self.inside.uses c.args.nodes.now c.self.invariant,
    )
