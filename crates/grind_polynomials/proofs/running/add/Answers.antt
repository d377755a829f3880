use Rattle.std.proofs.Common.{◌+ℤ◌, FitsSigned, rules, sym, ◌∙◌}
use Rattle.std.specs.Int.{w128}
use Rattle.std.proofs.lemmas.Int.{to_z-of_z}
use Rattle.grind_polynomials.specs.declared.keys.Key.{Key}
use Rattle.grind_polynomials.specs.declared.poly.PolyRefusal.TheVariants.{Overflow}
use Rattle.grind_polynomials.specs.Polynomials.{fit_or_refuse}
use Rattle.grind_polynomials.proofs.RunningLemmas.{more_put, more_refused}
use Rattle.grind_polynomials.proofs.running.add.Goals as goal

pub returns-in_default-clause-overflow : goal.returns-in_default-clause-overflow
returns-in_default-clause-overflow c =
    let key : Key = record { monomial = c.args.monomial } in
    let back = to_z-of_z w128 c.args.number c.ranges.number in
    let fits : FitsSigned w128 c.coefficient_of_key-before.result = search rules in
    let sum = simp (back, to_z-of_z w128 c.coefficient_of_key-before.result fits) at c.in_default.ensures in
    let over = (λ i. fit_or_refuse (sym c.coefficient_of_key-before.ensures.value i +ℤ c.args.number)) ∙ sum in
    λ e. more_refused c.args.number key c.args.sum.now.entries c.args.sum.now.entries c.coefficient_of_key-before.ensures.ordered Overflow over

pub returns-clause-ok : goal.returns-clause-ok
returns-clause-ok c =
    let key : Key = record { monomial = c.args.monomial } in
    let back = to_z-of_z w128 c.args.number c.ranges.number in
    let fits : FitsSigned w128 c.coefficient_of_key-before.result = search rules in
    let sum = simp (back, to_z-of_z w128 c.coefficient_of_key-before.result fits) at c.in-Some.ensures in
    let made = (λ i. fit_or_refuse (sym c.coefficient_of_key-before.ensures.value i +ℤ c.args.number)) ∙ sum in
    let coefficient_fits : FitsSigned w128 c.in-Some.coefficient = search rules in
    let put = simp (to_z-of_z w128 c.in-Some.coefficient coefficient_fits) at c.in_ok-put.ensures in
    more_put c.args.number key c.args.sum.now.entries c.put.new.sum.entries c.coefficient_of_key-before.ensures.ordered c.in-Some.coefficient made put
