use Rattle.std.specs.Prelude.{◌∷◌, ◌++◌, []}
use Rattle.grind_congruence.specs.Congruence.{application_of}
use Rattle.grind_congruence.proofs.UsesLemmas.{AreNoted-keeps, AreNoted-taken, AreNoted-take}
use Rattle.grind_congruence.proofs.agenda.Agenda.take_in.Goals as goal

pub invariant_of-self : goal.invariant_of-self
invariant_of-self c = AreNoted-keeps c.self.inside.applications c.self.inside.uses c.note_all.new.uses c.self.invariant c.note_all.ensures.keeps

pub invariant_of-self-in_err-push : goal.invariant_of-self-in_err-push
invariant_of-self-in_err-push c =
    rw c.in_err-push.ensures.err (AreNoted-keeps c.self.inside.applications c.self.inside.uses c.note_all.new.uses c.self.invariant c.note_all.ensures.keeps)

pub invariant_of-self-in-Ok : goal.invariant_of-self-in-Ok
invariant_of-self-in-Ok c =
    rw c.in_ok-push.ensures.ok
    (AreNoted-taken c.self.inside.applications c.self.inside.uses c.note_all.new.uses c.args.n c.len-place.result c.in_ok-term.term c.args.node.now
    c.as_slice.result.now c.self.invariant c.note_all.ensures.keeps c.len-place.ensures.value c.in_ok-term.ensures.ok c.as_slice.ensures.value
    c.in_ok-note_all.ensures.ok)

pub invariant_of-self-in_default : goal.invariant_of-self-in_default
invariant_of-self-in_default c =
    rw (c.truncate.ensures, c.in_ok-push.ensures.ok)
    (AreNoted-take (c.self.inside.applications ++ application_of c.args.n c.in_ok-term.term ∷ []) c.note_all.new.uses c.len-place.result
    (AreNoted-taken c.self.inside.applications c.self.inside.uses c.note_all.new.uses c.args.n c.len-place.result c.in_ok-term.term c.args.node.now
    c.as_slice.result.now c.self.invariant c.note_all.ensures.keeps c.len-place.ensures.value c.in_ok-term.ensures.ok c.as_slice.ensures.value
    c.in_ok-note_all.ensures.ok))
