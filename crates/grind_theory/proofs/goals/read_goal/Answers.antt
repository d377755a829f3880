use Rattle.std.proofs.Common.{sym, ap, subst, ◌∙◌, Err}
use Rattle.std.specs.List.{AllByRecursion}
use Rattle.grind_schemes.specs.Labels.{IsLabel}
use Rattle.grind_grammar.specs.Terms.{Goal}
use Rattle.grind_grammar.specs.Keeps.{term_of}
use Rattle.grind_resolution.specs.Scopes.{ScopeData, binder_names, Gives}
use Rattle.grind_annotations.specs.Asking.{IsFormulaTerm}
use Rattle.grind_annotations.specs.Written.{terms_of}
use Rattle.grind_theory.specs.Headings.{name_in, bounds_in}
use Rattle.grind_theory.specs.Declaring.{HasFault, FaultOfFormulas}
use Rattle.grind_annotations.proofs.ItemLemmas.{map-All}
use Rattle.grind_theory.proofs.BinderLists.{names_same}
use Rattle.grind_theory.proofs.FunTaking.{same_Err}
use Rattle.grind_theory.proofs.GoalTaking.{goal-binders, goal-many}
use Rattle.grind_theory.proofs.goals.read_goal.Goals as goal

pub returns-in-Err-clause-faulty : goal.returns-in-Err-clause-faulty
returns-in-Err-clause-faulty c = λ fault e.
    let text = c.args.heading.now.text.now in
    goal-binders c.args.signature.now (name_in c.args.heading.now) (bounds_in c.args.heading.now) (terms_of text c.args.hyps.now) (term_of text c.args.show.now) fault
    (c.in-Err.ensures.faulty fault (ap Err (same_Err _ _ e)))

pub goal_in-requires-clause-formulas : goal.goal_in-requires-clause-formulas
goal_in-requires-clause-formulas c =
    let s = c.args.signature.now in
    let text = c.args.heading.now.text.now in
    let f = subst (FaultOfFormulas (Gives s c.in-Ok.scope) (terms_of text c.args.hyps.now) (term_of text c.args.show.now)) c.in_default.is c.fault_of_formulas-found.ensures in
    map-All (term_of text) (IsFormulaTerm (Gives s c.in-Ok.scope)) c.args.hyps.now (f.2).0

pub goal_in-requires-clause-labels : goal.goal_in-requires-clause-labels
goal_in-requires-clause-labels c =
    let s = c.args.signature.now in
    let bounds = bounds_in c.args.heading.now in
    subst (AllByRecursion IsLabel) (sym (names_same s bounds) ∙ ap (λ (x : ScopeData). binder_names x.binders) (sym c.in-Ok.ensures.ok.is)) c.requires.labels

pub returns-in-Err-goal_in-clause-faulty : goal.returns-in-Err-goal_in-clause-faulty
returns-in-Err-goal_in-clause-faulty c = λ fault e.
    let s = c.args.signature.now in
    let text = c.args.heading.now.text.now in
    let f = subst (FaultOfFormulas (Gives s c.in-Ok.scope) (terms_of text c.args.hyps.now) (term_of text c.args.show.now)) c.in_default.is c.fault_of_formulas-found.ensures in
    let own = ap Err (same_Err _ _ e) in
    subst (HasFault s (Goal (name_in c.args.heading.now) (bounds_in c.args.heading.now) (terms_of text c.args.hyps.now) (term_of text c.args.show.now)))
    (sym (c.in-Err-goal_in.ensures.size fault own))
    (goal-many s (name_in c.args.heading.now) (bounds_in c.args.heading.now) (terms_of text c.args.hyps.now) (term_of text c.args.show.now) c.in-Ok.scope c.in-Ok.ensures.ok f
    (c.in-Err-goal_in.ensures.over fault own))
