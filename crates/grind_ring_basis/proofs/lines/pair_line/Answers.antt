use Rattle.std.proofs.Common.{FitsSigned, rules}
use Rattle.std.specs.Int.{w128}
use Rattle.std.proofs.lemmas.Int.{to_z-of_z}
use Rattle.grind_ring_basis.proofs.LineLemmas.{place_missing, element_nonzero, gcd_positive, lead_gcd, pair_without, pair_unshared, pair_answer}
use Rattle.grind_ring_basis.proofs.lines.pair_line.Goals as goal

pub returns-in_default : goal.returns-in_default
returns-in_default c =
    absurd (place_missing c.args.basis.now.elements c.args.places.first c.requires.pair.first c.requires.pair.first_is
    (rw c.in_default.is at c.poly_at-one.ensures))

pub returns-in_default-two : goal.returns-in_default-two
returns-in_default-two c =
    absurd (place_missing c.args.basis.now.elements c.args.places.second c.requires.pair.second c.requires.pair.second_is
    (rw c.in_default-two.is at c.poly_at-two.ensures))

pub returns-in_default-found : goal.returns-in_default-found
returns-in_default-found c =
    pair_without c.args.basis.now c.args.places c.args.pair.now c.args.rest.now (rw c.in_default-found.is at c.in_ok-found.ensures)

pub shared_factors-requires-clause-first : goal.shared_factors-requires-clause-first
shared_factors-requires-clause-first c =
    element_nonzero c.args.basis.now c.args.places.first c.in-Some.first.now c.requires.basis (rw c.in-Some.is at c.poly_at-one.ensures)

pub shared_factors-requires-clause-second : goal.shared_factors-requires-clause-second
shared_factors-requires-clause-second c =
    element_nonzero c.args.basis.now c.args.places.second c.in-Some-two.second.now c.requires.basis (rw c.in-Some-two.is at c.poly_at-two.ensures)

pub shared_factors-requires-clause-divisor : goal.shared_factors-requires-clause-divisor
shared_factors-requires-clause-divisor c =
    lead_gcd c.args.basis.now c.args.places c.args.pair.now c.args.rest.now c.in-Some.first.now c.in-Some-two.second.now
    (rw c.in-Some.is at c.poly_at-one.ensures) (rw c.in-Some-two.is at c.poly_at-two.ensures) c.requires.pair

pub shared_factors-requires-clause-positive : goal.shared_factors-requires-clause-positive
shared_factors-requires-clause-positive c =
    gcd_positive c.in-Some.first.now c.in-Some-two.second.now c.args.pair.now.divisor c.terms-first.ensures.keeps
    (element_nonzero c.args.basis.now c.args.places.first c.in-Some.first.now c.requires.basis (rw c.in-Some.is at c.poly_at-one.ensures))
    (lead_gcd c.args.basis.now c.args.places c.args.pair.now c.args.rest.now c.in-Some.first.now c.in-Some-two.second.now
    (rw c.in-Some.is at c.poly_at-one.ensures) (rw c.in-Some-two.is at c.poly_at-two.ensures) c.requires.pair)

pub returns-in_default-shared : goal.returns-in_default-shared
returns-in_default-shared c =
    pair_unshared c.args.basis.now c.args.places c.args.pair.now c.args.rest.now c.in-Some.first.now c.in-Some-two.second.now
    (rw c.in-Some.is at c.poly_at-one.ensures) (rw c.in-Some-two.is at c.poly_at-two.ensures) c.in-Some-found.factors
    (rw c.in-Some-found.is at c.in_ok-found.ensures) (rw c.in_default-shared.is at c.in_ok-shared.ensures)

pub returns : goal.returns
returns c =
    let fits : FitsSigned w128 c.in-Some-found.factors.divisor = search rules in
    pair_answer c.args.basis.now c.args.places c.args.pair.now c.args.rest.now c.in-Some.first.now c.in-Some-two.second.now
    (rw c.in-Some.is at c.poly_at-one.ensures) (rw c.in-Some-two.is at c.poly_at-two.ensures) c.requires.pair c.in-Some-found.factors
    (rw c.in-Some-found.is at c.in_ok-found.ensures) c.in-Some-shared.list (rw c.in-Some-shared.is at c.in_ok-shared.ensures)
    c.in_ok-premises.premises.entries c.in_ok-premises.ensures c.in_ok-line.line
    (simp (to_z-of_z w128 c.in-Some-found.factors.divisor fits) at c.in_ok-line.ensures)
