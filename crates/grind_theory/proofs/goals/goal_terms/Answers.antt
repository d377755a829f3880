use Rattle.std.proofs.Common.{ap, ◌∙◌, Err}
use Rattle.grind_term_graph.specs.Terms.{Terms}
use Rattle.grind_grammar.specs.Keeps.{term_of}
use Rattle.grind_resolution.specs.Scopes.{Gives}
use Rattle.grind_annotations.specs.Written.{terms_of}
use Rattle.grind_theory.proofs.FunTaking.{same_Err}
use Rattle.grind_theory.proofs.GoalLaws.{too_many, too_many_hyps}
use Rattle.grind_theory.proofs.goals.goal_terms.Goals as goal

pub returns-in-Err-intern_formula-clause-over : goal.returns-in-Err-intern_formula-clause-over
returns-in-Err-intern_formula-clause-over c = λ fault e.
    let s = c.args.context.now.signature.now in
    let scope = c.args.context.now.scope.now in
    let text = c.args.context.now.text.now in
    let single = c.one_meaning.ensures s scope c.args.context.now.keeps c.args.context.now.distinct c.args.context.now.apart in
    too_many (Gives s scope) (c.one_scheme.ensures s scope single) (terms_of text c.args.hyps.now) (term_of text c.args.show.now) c.in-Ok.table.nodes
    c.intern_formulas.new.table.nodes c.in-Ok-intern_formulas.hyps c.intern_formulas.new.table.limit
    (ap (λ (t : Terms). t.nodes) c.in-Ok.ensures) (c.in-Ok-intern_formulas.ensures.limit ∙ ap (λ (t : Terms). t.limit) c.in-Ok.ensures)
    c.in-Ok-intern_formulas.ensures.ok (c.in-Err-intern_formula.ensures.over fault (ap Err (same_Err _ _ e)))

pub returns-in-Err-clause-over : goal.returns-in-Err-clause-over
returns-in-Err-clause-over c = λ fault e.
    let s = c.args.context.now.signature.now in
    let scope = c.args.context.now.scope.now in
    let text = c.args.context.now.text.now in
    let single = c.one_meaning.ensures s scope c.args.context.now.keeps c.args.context.now.distinct c.args.context.now.apart in
    too_many_hyps (Gives s scope) (c.one_scheme.ensures s scope single) (terms_of text c.args.hyps.now) (term_of text c.args.show.now) c.in-Ok.table.nodes
    c.in-Ok.table.limit (ap (λ (t : Terms). t.nodes) c.in-Ok.ensures) (ap (λ (t : Terms). t.limit) c.in-Ok.ensures)
    (c.in-Err.ensures.over fault (ap Err (same_Err _ _ e)))
