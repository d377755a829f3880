use Rattle.std.proofs.Common.{ℕ, ◌≡◌, Some}
use Rattle.grind_differences.specs.Differences.{difference}
use Rattle.grind_arithmetic_rules.proofs.BoundLemmas.{compared, not_compared}
use Rattle.grind_arithmetic_rules.proofs.linear.bounds_sides.Goals as goal

pub returns-in_default : goal.returns-in_default
returns-in_default c =
    not_compared c.args.terms.now.nodes c.args.node (λ (a b : ℕ). difference c.args.terms.now.nodes a b ≡ Some c.args.form.now) c.in_default.ensures.none

pub returns : goal.returns
returns c =
    compared c.args.terms.now.nodes c.args.node (λ (a b : ℕ). difference c.args.terms.now.nodes a b ≡ Some c.args.form.now) _ _
    c.in_ok-is.is' c.in-Some.ensures.some c.in_ok-is.ensures
