use Rattle.grind_report_words.proofs.Cases.{empty_report, table_line, pair_of_nodes, leading_zero, minus_zero, terms_of_no_goal}
use Rattle.grind_report_words.proofs.laws.worked_cases.Goals as goal

pub returns-clause-none : goal.returns-clause-none
returns-clause-none c = empty_report

pub returns-clause-table : goal.returns-clause-table
returns-clause-table c = table_line

pub returns-clause-pair : goal.returns-clause-pair
returns-clause-pair c = pair_of_nodes

pub returns-clause-zero : goal.returns-clause-zero
returns-clause-zero c = leading_zero

pub returns-clause-minus : goal.returns-clause-minus
returns-clause-minus c = minus_zero

pub returns-clause-order : goal.returns-clause-order
returns-clause-order c = terms_of_no_goal
