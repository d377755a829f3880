use Rattle.grind_cutsat_assignment.specs.Given.{given}
use Rattle.grind_cutsat_assignment.proofs.AssignLemmas.{atom_within}
use Rattle.grind_cutsat_assignment.proofs.UniqueLemmas.{no_assignment}
use Rattle.grind_cutsat_assignment.proofs.assignment.assign.Goals as goal

pub outcome_of-requires-clause-within : goal.outcome_of-requires-clause-within
outcome_of-requires-clause-within c =
    atom_within (given c.args.facts.now c.args.terms.now.nodes c.args.classes.now.lists) c.requires
    c.readings_name_numbers.ensures c.len-count.ensures.table

pub returns-clause-none : goal.returns-clause-none
returns-clause-none c =
    no_assignment (given c.args.facts.now c.args.terms.now.nodes c.args.classes.now.lists) c.in_ok-outcome.ensures.forms
    (atom_within (given c.args.facts.now c.args.terms.now.nodes c.args.classes.now.lists) c.requires
    c.readings_name_numbers.ensures c.len-count.ensures.table)
    c.in_ok-outcome.outcome c.in_ok-outcome.ensures.outcome
