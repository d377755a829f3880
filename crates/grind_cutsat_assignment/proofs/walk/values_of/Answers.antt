use Rattle.std.proofs.Common.{rules, ◌≡◌, ◌<◌, ◌-◌, ℕ, suc, length, arith, ◌∙◌, subst}
use Rattle.grind_cutsat_bounds.specs.Evaluations.{value_of}
use Rattle.grind_cutsat_assignment.specs.Courses.{AreSettled}
use Rattle.grind_cutsat_assignment.proofs.WalkLemmas.{settled_visit, visit_length}
use Rattle.grind_cutsat_assignment.proofs.walk.values_of.Goals as goal

pub loop-number-preserved : goal.loop-number-preserved
loop-number-preserved c =
    let before : c.loop-number.number ≡ suc (c.loop-number.number - 1) = omega arith in
    let within = c.loop-number.invariant.within in
    let count = c.loop-number.invariant.count in
    let less : c.loop-number.number - 1 < length c.loop-number.values = omega (arith, before, within, count) in
    record {
      count = visit_length c.args.facts.now c.args.marks.now (c.loop-number.number - 1) c.loop-number.values c.visit.new.values
          c.in_default.ensures ∙ count;
      within = omega (arith, before, within);
      settled = settled_visit c.args.facts.now c.requires.forms c.args.marks.now c.loop-number.number (c.loop-number.number - 1)
          c.loop-number.values c.visit.new.values before less c.in_default.ensures c.loop-number.invariant.settled;
    }

pub returns-in-Some : goal.returns-in-Some
returns-in-Some c =
    let before : c.loop-number.number ≡ suc (c.loop-number.number - 1) = omega arith in (
      c.loop-number.number - 1,
      value_of c.loop-number.values,
      c.in-Some.ensures.0,
      subst (λ (n : ℕ). AreSettled c.args.facts.now c.args.marks.now n (value_of c.loop-number.values)) before
          c.loop-number.invariant.settled,
      c.in-Some.ensures.1,
    )

pub returns : goal.returns
returns c =
    let none : c.loop-number.number ≡ 0 = search rules in
    subst (λ (n : ℕ). AreSettled c.args.facts.now c.args.marks.now n (value_of c.loop-number.values)) none
    c.loop-number.invariant.settled
