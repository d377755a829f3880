use Rattle.std.proofs.Common.{sym, ap, subst, Err}
use Rattle.grind_schemes.specs.Labels.{IsLabel}
use Rattle.grind_grammar.specs.Keeps.{term_of}
use Rattle.grind_resolution.specs.Scopes.{ScopeData, Gives}
use Rattle.grind_annotations.specs.Asking.{IsFormulaTerm}
use Rattle.grind_theory.specs.Theories.{IsGoalDeclared}
use Rattle.grind_annotations.specs.Written.{terms_of}
use Rattle.grind_annotations.proofs.ItemLemmas.{All-map}
use Rattle.grind_theory.proofs.FunTaking.{same_Err}
use Rattle.grind_theory.proofs.GoalLaws.{goal-declared, goal-kept}
use Rattle.grind_theory.proofs.goals.goal_in.Goals as goal

pub name_goal-requires : goal.name_goal-requires
name_goal-requires c =
    let s = c.args.signature.now in
    let scope = c.args.scope in
    let text = c.args.heading.now.text.now in
    let single = c.one_meaning.ensures s scope c.requires.opened.keeps c.requires.opened.distinct c.requires.opened.apart in
    let all = All-map (term_of text) (IsFormulaTerm (Gives s scope)) c.args.hyps.now c.requires.formulas in
    goal-kept s scope (ap (λ (x : ScopeData). x.kind) c.requires.opened.is) single (terms_of text c.args.hyps.now) (term_of text c.args.show.now) c.in-Ok.terms.table c.in-Ok.terms.hyps c.in-Ok.terms.show
    all c.requires.formula c.in-Ok.ensures.ok c.bytes_of-name.result.now (subst IsLabel (sym c.bytes_of-name.ensures) c.requires.label) c.requires.labels
    c.requires.opened.distinct c.len-nodes.ensures.bound

pub returns-in-Ok-name_goal-clause-declared : goal.returns-in-Ok-name_goal-clause-declared
returns-in-Ok-name_goal-clause-declared c =
    let s = c.args.signature.now in
    let scope = c.args.scope in
    let text = c.args.heading.now.text.now in
    let single = c.one_meaning.ensures s scope c.requires.opened.keeps c.requires.opened.distinct c.requires.opened.apart in
    let all = All-map (term_of text) (IsFormulaTerm (Gives s scope)) c.args.hyps.now c.requires.formulas in
    subst (IsGoalDeclared s) (sym c.in-Ok-name_goal.ensures)
    (goal-declared s scope (ap (λ (x : ScopeData). x.kind) c.requires.opened.is) single (terms_of text c.args.hyps.now) (term_of text c.args.show.now) c.in-Ok.terms.table c.in-Ok.terms.hyps c.in-Ok.terms.show
    all c.requires.formula c.in-Ok.ensures.ok)

pub returns-in-Err-clause-over : goal.returns-in-Err-clause-over
returns-in-Err-clause-over c = λ fault e. c.in-Err.ensures.over fault (ap Err (same_Err _ _ e))
