use Rattle.std.specs.Prelude.{◌≡◌, ◌∷◌, ◌++◌, [], ℕ, length}
use Rattle.std.proofs.Common.{sym, ap, ◌∙◌}
use Rattle.grind_congruence.specs.declared.view.Noted.{Noted}
use Rattle.grind_congruence.specs.Congruence.{Congruence}
use Rattle.grind_congruence.specs.Marks.{noted_now}
use Rattle.grind_congruence.proofs.MarkLemmas.{IsKept-mark, views-mark, views-length}
use Rattle.grind_congruence.proofs.closure.ClosureUndo.mark.Goals as goal

noted_is : (c : goal.In-Ok) → c.noted-noted.result ≡ noted_now c.self.inside.edges c.self.inside.agenda
noted_is c =
    c.noted-noted.ensures
    ∙ ap (λ (k : ℕ). record {
      edges = k;
      keys = length c.self.inside.agenda.table;
      applications = length c.self.inside.agenda.applications;
      work = length c.self.inside.agenda.work;
      cursor = c.self.inside.agenda.cursor;
    }) c.len.ensures.value

marks_are : (c : goal.In-Ok) → c.push.new.self ≡ c.self.inside.marks ++ noted_now c.self.inside.edges c.self.inside.agenda ∷ []
marks_are c = c.in_ok-push.ensures.ok ∙ ap (λ (it : Noted). c.self.inside.marks ++ it ∷ []) (noted_is c)

pub invariant_of-self-in-Ok : goal.invariant_of-self-in-Ok
invariant_of-self-in-Ok c =
    rw (marks_are c) (
      IsKept-mark c.self.inside.classes c.mark.new.self c.self.inside.edges c.self.inside.agenda c.self.inside.marks c.self.invariant.0
          c.in-Ok.ensures.marked c.in-Ok.ensures.present,
      c.self.invariant.1,
    )

pub returns-in-Ok-clause-place : goal.returns-in-Ok-clause-place
returns-in-Ok-clause-place c =
    c.in-Ok.ensures.place ∙ c.self.invariant.0.count
    ∙ sym (views-length c.self.inside.classes.marked c.self.inside.edges c.self.inside.agenda c.self.inside.marks c.self.invariant.0.count)
    ∙ ap (λ (t : Congruence). length t.marked) c.self.view_is

pub returns-in-Ok-clause-marked : goal.returns-in-Ok-clause-marked
returns-in-Ok-clause-marked c =
    rw (marks_are c, c.in-Ok.ensures.marked)
    (views-mark c.self.inside.classes.marked c.self.inside.edges c.self.inside.agenda c.self.inside.marks c.self.inside.classes.lists c.self.invariant.0.count)
    ∙ ap (λ (t : Congruence). t.marked ++ record { lists = t.lists; edges = t.edges; table = t.table; applications = t.applications } ∷ []) c.self.view_is
