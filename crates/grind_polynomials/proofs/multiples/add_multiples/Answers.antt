use Rattle.std.proofs.Common.{◌≡◌, Ok, Err, List, IsErrOf, rules, sym, ap, ◌∙◌}
use Rattle.grind_polynomials.specs.declared.poly.Term.{Term}
use Rattle.grind_polynomials.specs.declared.poly.PolyRefusal.TheVariants.{Overflow}
use Rattle.grind_polynomials.specs.Rows.{all_of}
use Rattle.grind_polynomials.specs.Sums.{with_multiples}
use Rattle.grind_polynomials.proofs.Products.{multiples_step, multiples_fail, multiples_end}
use Rattle.grind_polynomials.proofs.Rows.{row_later, row_next}
use Rattle.grind_polynomials.proofs.multiples.add_multiples.Goals as goal

pub returns-in_err-parts-2-clause-overflow : goal.returns-in_err-parts-2-clause-overflow
returns-in_err-parts-2-clause-overflow c =
    let so_far = c.loop-b.invariant in
    let told = c.add_multiple.ensures.overflow in
    let leads : IsErrOf c.add_multiple.result Overflow → with_multiples c.args.by.now.minus c.args.by.now.coefficient c.args.by.now.monomial.now c.args.bs.now c.args.terms ≡ Err Overflow = λ e.
    multiples_fail c.args.by.now.minus c.args.by.now.coefficient c.args.by.now.monomial.now (with_multiples c.args.by.now.minus c.args.by.now.coefficient c.args.by.now.monomial.now c.args.bs.now c.args.terms) c.loop-b.rest.now c.in-Some.b.now c.in-Some.tail.now (all_of c.loop-b.parts) c.in-Some.ensures.cases.0 so_far.0 Overflow (told e) in search rules

pub loop-b-preserved : goal.loop-b-preserved
loop-b-preserved c =
    let so_far = c.loop-b.invariant in
    let told = c.in_ok-parts-2.ensures.ok in (
      multiples_step c.args.by.now.minus c.args.by.now.coefficient c.args.by.now.monomial.now (with_multiples c.args.by.now.minus c.args.by.now.coefficient c.args.by.now.monomial.now c.args.bs.now c.args.terms) c.loop-b.rest.now c.in-Some.b.now c.in-Some.tail.now (all_of c.loop-b.parts) c.in-Some.ensures.cases.0 so_far.0 (all_of c.in_ok-parts-2.parts) told,
      row_later c.loop-b.rest.now c.in-Some.b.now c.in-Some.tail.now c.in-Some.ensures.cases.0 so_far.1,
      row_next c.args.by.now.monomial.now c.loop-b.rest.now c.in-Some.b.now c.in-Some.tail.now c.in_ok-parts-2.parts.done c.in-Some.ensures.cases.0 c.requires.monomial so_far.1 c.in_ok-parts-2.ensures.passed,
    )

pub returns-clause-ok : goal.returns-clause-ok
returns-clause-ok c =
    let so_far = c.loop-b.invariant in
    multiples_end c.args.by.now.minus c.args.by.now.coefficient c.args.by.now.monomial.now (with_multiples c.args.by.now.minus c.args.by.now.coefficient c.args.by.now.monomial.now c.args.bs.now c.args.terms) c.loop-b.rest.now (all_of c.loop-b.parts) c.in_default.ensures.cases so_far.0
    ∙ ap (λ (terms : List Term). Ok terms) (sym c.in_ok-all.ensures)
