use Rattle.std.proofs.Common.{◌≡◌, Err, FitsSigned, IsErrOf, rules, ap, ◌∙◌}
use Rattle.std.specs.Int.{w128}
use Rattle.std.proofs.lemmas.Int.{to_z-of_z}
use Rattle.grind_monomials.specs.Monomials.{product}
use Rattle.grind_polynomials.specs.declared.poly.PolyRefusal.TheVariants.{Overflow}
use Rattle.grind_polynomials.specs.Rows.{all_of}
use Rattle.grind_polynomials.specs.Sums.{with_multiple}
use Rattle.grind_polynomials.proofs.Products.{multiple-refused, multiple-goes_on}
use Rattle.grind_polynomials.proofs.multiples.add_multiple.Goals as goal

pub returns-in_default-clause-overflow : goal.returns-in_default-clause-overflow
returns-in_default-clause-overflow c =
    let fits_by : FitsSigned w128 c.args.by.now.coefficient = search rules in
    let back = to_z-of_z w128 c.args.by.now.coefficient fits_by in
    let fits : FitsSigned w128 c.args.b.now.coefficient = search rules in
    let back_b = to_z-of_z w128 c.args.b.now.coefficient fits in
    let refused = simp (back, back_b) at c.in_default.ensures in
    λ e. multiple-refused c.args.by.now.minus c.args.by.now.coefficient c.args.by.now.monomial.now c.args.b.now (all_of c.args.parts) Overflow refused

pub returns-in_err-all-clause-overflow : goal.returns-in_err-all-clause-overflow
returns-in_err-all-clause-overflow c =
    let fits_by : FitsSigned w128 c.args.by.now.coefficient = search rules in
    let back = to_z-of_z w128 c.args.by.now.coefficient fits_by in
    let fits : FitsSigned w128 c.args.b.now.coefficient = search rules in
    let back_b = to_z-of_z w128 c.args.b.now.coefficient fits in
    let number_fits : FitsSigned w128 c.in-Some.number = search rules in
    let back_number = to_z-of_z w128 c.in-Some.number number_fits in
    let number = simp (back, back_b) at c.in-Some.ensures in
    let whole = c.in_ok-whole.ensures ∙ ap (product c.args.by.now.monomial.now) c.as_slice.ensures.value in
    let opened = multiple-goes_on c.args.by.now.minus c.args.by.now.coefficient c.args.by.now.monomial.now c.args.b.now (all_of c.args.parts) c.in-Some.number c.in_ok-whole.whole number whole in
    let leads : IsErrOf c.put_behind.result Overflow → with_multiple c.args.by.now.minus c.args.by.now.coefficient c.args.by.now.monomial.now c.args.b.now (all_of c.args.parts) ≡ Err Overflow = λ e.
    opened ∙ (simp back_number at c.put_behind.ensures.overflow) e in search rules

pub returns-clause-ok : goal.returns-clause-ok
returns-clause-ok c =
    let fits_by : FitsSigned w128 c.args.by.now.coefficient = search rules in
    let back = to_z-of_z w128 c.args.by.now.coefficient fits_by in
    let fits : FitsSigned w128 c.args.b.now.coefficient = search rules in
    let back_b = to_z-of_z w128 c.args.b.now.coefficient fits in
    let number_fits : FitsSigned w128 c.in-Some.number = search rules in
    let back_number = to_z-of_z w128 c.in-Some.number number_fits in
    let number = simp (back, back_b) at c.in-Some.ensures in
    let whole = c.in_ok-whole.ensures ∙ ap (product c.args.by.now.monomial.now) c.as_slice.ensures.value in
    let opened = multiple-goes_on c.args.by.now.minus c.args.by.now.coefficient c.args.by.now.monomial.now c.args.b.now (all_of c.args.parts) c.in-Some.number c.in_ok-whole.whole number whole in
    opened ∙ simp back_number at c.in_ok-all.ensures.ok
