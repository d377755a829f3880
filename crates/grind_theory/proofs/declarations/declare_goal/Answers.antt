use Rattle.std.proofs.Common.{ap, Err}
use Rattle.grind_grammar.specs.Keeps.{term_of}
use Rattle.grind_annotations.specs.Written.{terms_of}
use Rattle.grind_theory.specs.States.{limits_data}
use Rattle.grind_theory.specs.Headings.{name_in, bounds_in, goal_under}
use Rattle.grind_theory.proofs.FunTaking.{same_Err}
use Rattle.grind_theory.proofs.Declared.{goal-declared}
use Rattle.grind_theory.proofs.DeclTaking.{goal_taken, goal_held}
use Rattle.grind_theory.proofs.declarations.declare_goal.Goals as goal

pub returns-in-Err-clause-faulty : goal.returns-in-Err-clause-faulty
returns-in-Err-clause-faulty c = λ fault e.
    let b = c.args.building.now in
    c.in-Err.ensures.faulty fault (ap Err (same_Err _ _ e)) b.theorems (limits_data b.limits) b.set b.goals

pub returns-in-Ok-push-clause-ok : goal.returns-in-Ok-push-clause-ok
returns-in-Ok-push-clause-ok c =
    let b = c.args.building.now in
    goal_taken b.signature c.declare_label.new.self (name_in c.args.heading.now) c.bytes_of-name.result.now c.bytes_of-name.ensures c.in-Ok-declare_label.ensures.ok
    c.in-Ok.goal b.goals c.push.new.self (goal_under c.args.heading.now c.args.hyps.now c.args.show.now)
    c.in-Ok.ensures.ok c.in-Ok-push.ensures.ok b.theorems (limits_data b.limits) b.set

pub returns-in-Ok-push-clause-declared : goal.returns-in-Ok-push-clause-declared
returns-in-Ok-push-clause-declared c = λ all.
    let b = c.args.building.now in
    goal-declared b.signature c.declare_label.new.self c.bytes_of-name.result.now c.in-Ok.goal b.goals c.push.new.self
    c.in-Ok-declare_label.ensures.ok c.in-Ok-push.ensures.ok c.in-Ok.ensures.declared all

pub returns-in-Err-declare_label-clause-faulty : goal.returns-in-Err-declare_label-clause-faulty
returns-in-Err-declare_label-clause-faulty c = λ fault e.
    let text = c.args.heading.now.text.now in
    let b = c.args.building.now in
    let r = c.refusal_of.ensures fault (same_Err _ _ e) in
    goal_held b.signature (name_in c.args.heading.now) c.bytes_of-name.result.now (bounds_in c.args.heading.now) (terms_of text c.args.hyps.now) (term_of text c.args.show.now)
    fault c.bytes_of-name.ensures (c.in-Err-declare_label.ensures.duplicate.0 r.0) r.1 b.theorems (limits_data b.limits) b.set b.goals
