use Rattle.std.proofs.Common.{rules, ◌≡◌, None, IsErrOf, true≢false, sym, ◌∙◌}
use Rattle.grind_polynomials.specs.declared.poly.PolyRefusal.TheVariants as refusal
use Rattle.grind_differences.specs.Differences.{poly_reading}
use Rattle.grind_ring_units.proofs.ReadingLemmas.{poly_reading-number, poly_reading-other}
use Rattle.grind_ring_units.proofs.units.equal_terms.poly_reading.Goals as goal

pub returns-then-not-is_number : goal.returns-then-not-is_number
returns-then-not-is_number c =
    sym (poly_reading-other c.args.terms.now.nodes c.args.node
    (λ e. true≢false (sym (c.is_number.ensures.1 e) ∙ c.if-not-is_number.true)))

pub returns-in-Ok : goal.returns-in-Ok
returns-in-Ok c =
    sym (poly_reading-number c.args.terms.now.nodes c.args.node (c.is_number.ensures.0 c.if-not-is_number.false) ∙ c.in-Ok.ensures.ok)

pub returns-in-Err-Overflow : goal.returns-in-Err-Overflow
returns-in-Err-Overflow c =
    let leads : IsErrOf c.poly_of.result refusal.Overflow → None ≡ poly_reading c.args.terms.now.nodes c.args.node = λ e.
    sym (poly_reading-number c.args.terms.now.nodes c.args.node (c.is_number.ensures.0 c.if-not-is_number.false) ∙ c.poly_of.ensures.overflow e) in
    search rules
