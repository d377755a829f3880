use Rattle.std.proofs.Common.{sym, ◌∙◌}
use Rattle.std.proofs.lemmas.Bool.{false≢true}
use Rattle.grind_cutsat_assignment.proofs.ReadingLemmas.{active_past, active_push}
use Rattle.grind_cutsat_assignment.proofs.readings.add_if_active.Goals as goal

pub returns-then-not-is_active-clause-has : goal.returns-then-not-is_active-clause-has
returns-then-not-is_active-clause-has c =
    active_past c.args.terms.now.nodes c.args.classes.now.lists c.args.ids.now c.args.node
    (λ active int. false≢true (sym c.if-not-is_active.true ∙ c.is_active.ensures.value.1 active)) c.requires.has

pub returns-then-not-is_number-clause-has : goal.returns-then-not-is_number-clause-has
returns-then-not-is_number-clause-has c =
    active_past c.args.terms.now.nodes c.args.classes.now.lists c.args.ids.now c.args.node
    (λ active int. false≢true (sym c.if-not-is_number.true ∙ c.is_number.ensures.1 int)) c.requires.has

pub returns-clause-has : goal.returns-clause-has
returns-clause-has c =
    active_push c.args.terms.now.nodes c.args.classes.now.lists c.args.ids.now c.push.new.self c.args.node
    c.in_ok-push.ensures.ok c.requires.has
