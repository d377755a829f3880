use Rattle.std.proofs.Common.{ℤ, to_z, of_z, sym, subst}
use Rattle.std.specs.Int.{w128}
use Rattle.std.proofs.lemmas.Int.{to_z-of_z}
use Rattle.grind_cutsat_cuts.specs.Factors.{AreFittingFactors}
use Rattle.grind_cutsat_cuts.proofs.FactorLemmas.{gcd_of, factors_by, no_first, no_second, shared_some}
use Rattle.grind_cutsat_cuts.proofs.factors.factors_of.Goals as goal

pub share_of-requires : goal.share_of-requires
share_of-requires c =
    let size = simp (to_z-of_z w128 c.args.over c.ranges.over) at c.size.ensures in
    shared_some c.args.over c.size.result c.size-2.result c.gcd-shared.result c.requires.over size c.gcd-shared.ensures

pub returns-in_default : goal.returns-in_default
returns-in_default c =
    let one = simp (to_z-of_z w128 c.args.over c.ranges.over) at c.size.ensures in
    let two = simp (to_z-of_z w128 c.args.under c.ranges.under) at c.size-2.ensures in
    let none = simp (to_z-of_z w128 c.args.under c.ranges.under) at c.in_default.ensures in
    no_first c.args.over c.args.under c.gcd-shared.result c.requires.over c.requires.under
    (gcd_of c.args.over c.args.under c.size.result c.size-2.result c.gcd-shared.result one two c.gcd-shared.ensures) none

pub returns-in_default-share_of : goal.returns-in_default-share_of
returns-in_default-share_of c =
    let one = simp (to_z-of_z w128 c.args.over c.ranges.over) at c.size.ensures in
    let two = simp (to_z-of_z w128 c.args.under c.ranges.under) at c.size-2.ensures in
    let none = simp (to_z-of_z w128 c.args.over c.ranges.over) at c.in_default-share_of.ensures in
    no_second c.args.over c.args.under c.gcd-shared.result c.requires.over c.requires.under c.ranges.over
    (gcd_of c.args.over c.args.under c.size.result c.size-2.result c.gcd-shared.result one two c.gcd-shared.ensures) none

pub returns : goal.returns
returns c =
    let one = simp (to_z-of_z w128 c.args.over c.ranges.over) at c.size.ensures in
    let two = simp (to_z-of_z w128 c.args.under c.ranges.under) at c.size-2.ensures in
    let first = simp (to_z-of_z w128 c.args.under c.ranges.under) at c.in-Some.ensures in
    let second = simp (to_z-of_z w128 c.args.over c.ranges.over) at c.in-Some-share_of.ensures in
    let both =
    factors_by c.args.over c.args.under c.gcd-shared.result c.in-Some.first c.in-Some-share_of.second c.requires.over c.requires.under
    (gcd_of c.args.over c.args.under c.size.result c.size-2.result c.gcd-shared.result one two c.gcd-shared.ensures) first second in
    subst (λ (z : ℤ). AreFittingFactors c.args.over c.args.under z (to_z w128 (of_z w128 c.in-Some-share_of.second)))
    (sym (to_z-of_z w128 c.in-Some.first first.2))
    (subst (λ (z : ℤ). AreFittingFactors c.args.over c.args.under c.in-Some.first z)
    (sym (to_z-of_z w128 c.in-Some-share_of.second second.2)) both)
