use Rattle.grind_grammar.proofs.CaseLemmas.{theorem_with_patterns, goal_with_hypotheses, signs_fit, signs_are_too_many, parentheses_fit, parentheses_are_too_many, equations_first, no_double_equation, implications_go_right, differences_go_left, and_then_or, two_signs, negation_of_equation, one_limit, int_is_no_name, dot_is_missing}
use Rattle.grind_grammar.proofs.laws.worked_cases.Goals as goal

pub returns-clause-equations : goal.returns-clause-equations
returns-clause-equations c = equations_first

pub returns-clause-no_chain : goal.returns-clause-no_chain
returns-clause-no_chain c = no_double_equation

pub returns-clause-right : goal.returns-clause-right
returns-clause-right c = implications_go_right

pub returns-clause-left : goal.returns-clause-left
returns-clause-left c = differences_go_left

pub returns-clause-levels : goal.returns-clause-levels
returns-clause-levels c = and_then_or

pub returns-clause-signs : goal.returns-clause-signs
returns-clause-signs c = two_signs

pub returns-clause-negation : goal.returns-clause-negation
returns-clause-negation c = negation_of_equation

pub returns-clause-limit : goal.returns-clause-limit
returns-clause-limit c = one_limit

pub returns-clause-reserved : goal.returns-clause-reserved
returns-clause-reserved c = int_is_no_name

pub returns-clause-dot : goal.returns-clause-dot
returns-clause-dot c = dot_is_missing

pub returns-clause-patterns : goal.returns-clause-patterns
returns-clause-patterns c = theorem_with_patterns

pub returns-clause-hypotheses : goal.returns-clause-hypotheses
returns-clause-hypotheses c = goal_with_hypotheses

pub returns-clause-depth : goal.returns-clause-depth
returns-clause-depth c = signs_fit

pub returns-clause-too_deep : goal.returns-clause-too_deep
returns-clause-too_deep c = signs_are_too_many

pub returns-clause-parentheses : goal.returns-clause-parentheses
returns-clause-parentheses c = parentheses_fit

pub returns-clause-too_many : goal.returns-clause-too_many
returns-clause-too_many c = parentheses_are_too_many
