use Rattle.std.proofs.Common.{ap, Err}
use Rattle.grind_grammar.specs.Keeps.{term_of}
use Rattle.grind_annotations.specs.Written.{annotations_of}
use Rattle.grind_theory.specs.States.{state_data, limits_data}
use Rattle.grind_theory.specs.Headings.{name_in, bounds_in, theorem_under}
use Rattle.grind_theory.specs.Building.{state_at}
use Rattle.grind_theory.proofs.FunTaking.{same_Err}
use Rattle.grind_theory.proofs.Declared.{takes-declared}
use Rattle.grind_theory.proofs.DeclTaking.{theorem_taken, theorem_held}
use Rattle.grind_theory.proofs.declarations.declare_theorem.Goals as goal

pub returns-in-Err-clause-faulty : goal.returns-in-Err-clause-faulty
returns-in-Err-clause-faulty c = λ fault e.
    let b = c.args.building.now in
    c.in-Err.ensures.faulty fault (ap Err (same_Err _ _ e)) b.theorems (limits_data b.limits) b.set b.goals

pub returns-in-Ok-push-clause-ok : goal.returns-in-Ok-push-clause-ok
returns-in-Ok-push-clause-ok c =
    let b = c.args.building.now in
    theorem_taken b.signature c.declare_label.new.self (name_in c.args.heading.now) c.bytes_of-name.result.now c.bytes_of-name.ensures c.in-Ok-declare_label.ensures.ok
    c.in-Ok.theorem b.theorems c.push.new.self (theorem_under c.args.heading.now c.args.annots.now c.args.body.now)
    c.in-Ok.ensures.ok c.in-Ok-push.ensures.ok (limits_data b.limits) b.set b.goals

pub returns-in-Ok-push-clause-declared : goal.returns-in-Ok-push-clause-declared
returns-in-Ok-push-clause-declared c = λ all.
    let b = c.args.building.now in
    let d = theorem_under c.args.heading.now c.args.annots.now c.args.body.now in
    takes-declared (state_at b) d (state_data c.declare_label.new.self c.push.new.self (limits_data b.limits) b.set b.goals)
    (theorem_taken b.signature c.declare_label.new.self (name_in c.args.heading.now) c.bytes_of-name.result.now c.bytes_of-name.ensures c.in-Ok-declare_label.ensures.ok
    c.in-Ok.theorem b.theorems c.push.new.self d c.in-Ok.ensures.ok c.in-Ok-push.ensures.ok (limits_data b.limits) b.set b.goals) all

pub returns-in-Err-declare_label-clause-faulty : goal.returns-in-Err-declare_label-clause-faulty
returns-in-Err-declare_label-clause-faulty c = λ fault e.
    let text = c.args.heading.now.text.now in
    let b = c.args.building.now in
    let r = c.refusal_of.ensures fault (same_Err _ _ e) in
    theorem_held b.signature (name_in c.args.heading.now) c.bytes_of-name.result.now (bounds_in c.args.heading.now) (annotations_of text c.args.annots.now) (term_of text c.args.body.now)
    fault c.bytes_of-name.ensures (c.in-Err-declare_label.ensures.duplicate.0 r.0) r.1 b.theorems (limits_data b.limits) b.set b.goals
