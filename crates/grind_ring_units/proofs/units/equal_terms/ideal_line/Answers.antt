use Rattle.std.proofs.Common.{ℤ, FitsSigned, rules, inr, ap, refl}
use Rattle.std.specs.Int.{w128}
use Rattle.std.proofs.lemmas.Int.{to_z-of_z}
use Rattle.grind_claims.specs.declared.proof.Rule.TheVariants.{Ideal}
use Rattle.grind_ring_units.proofs.EqualLemmas.{no_ideal_line}
use Rattle.grind_ring_units.proofs.units.equal_terms.ideal_line.Goals as goal

pub returns-in_default : goal.returns-in_default
returns-in_default c =
    no_ideal_line c.args.state.now c.args.poly.now c.requires.none (rw c.in_default.is at c.in_ok-found.ensures)

pub returns : goal.returns
returns c =
    let fits : FitsSigned w128 c.in-Some.line.divisor = search rules in
    inr (
      c.requires.none,
      c.in-Some.line,
      rw c.in-Some.is at c.in_ok-found.ensures,
      ap (λ (k : ℤ). Ideal k c.in-Some.line.factors) (to_z-of_z w128 c.in-Some.line.divisor fits),
      refl,
    )
