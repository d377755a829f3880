use Rattle.std.specs.Prelude.{List, ℕ, Contains}
use Rattle.std.proofs.Common.{subst}
use Rattle.grind_rules.specs.Rules.{AreTwoNumbers}
use Rattle.grind_closure_steps.proofs.StepLemmas.{alone_in_class}
use Rattle.grind_closure_steps.proofs.units.numbers.partner.Goals as goal

pub returns-clause-none : goal.returns-clause-none
returns-clause-none c = λ none.
    alone_in_class c.args.known.now.terms.nodes c.args.classes.now.lists c.args.n c.root-root.result c.root-root.ensures.together
    (subst (λ (members : List ℕ). (m : ℕ) → Contains members m → AreTwoNumbers c.args.known.now.terms.nodes c.args.n m → ⊥)
    c.members.ensures.value (c.other_number.ensures.none none))
