use Rattle.std.proofs.Common.{sym, ◌∙◌}
use Rattle.std.proofs.lemmas.Bool.{false≢true}
use Rattle.grind_rules.specs.Rules.{AreTwoNumbers}
use Rattle.grind_closure_steps.proofs.StepLemmas.{first_is_not, none_is}
use Rattle.grind_closure_steps.proofs.units.numbers.other_number.Goals as goal

pub loop-node-preserved : goal.loop-node-preserved
loop-node-preserved c =
    first_is_not (AreTwoNumbers c.args.terms.now.nodes c.args.one) c.args.nodes.now c.loop-node.rest.now c.in-Some.tail.now c.in-Some.node.now
    c.in-Some.ensures.cases.0 c.loop-node.invariant (λ is. false≢true (sym c.if-are_two_numbers.false ∙ c.are_two_numbers.ensures.1 is))

pub returns-clause-none : goal.returns-clause-none
returns-clause-none c = λ _.
    none_is (AreTwoNumbers c.args.terms.now.nodes c.args.one) c.args.nodes.now c.loop-node.rest.now c.in_default.ensures.cases c.loop-node.invariant
