use Rattle.std.proofs.Common.{rules, pos, ◌≤ℤ◌, sym, ◌∙◌}
use Rattle.grind_cutsat_cuts.proofs.CutLemmas.{no_sum, no_new_cut, low_divisor}
use Rattle.grind_cutsat_cuts.proofs.units.cuts_a_bound.cut_of.Goals as goal

pub returns-in_default : goal.returns-in_default
returns-in_default c = no_sum c.args.facts.now c.args.form.now (sym c.in_ok-sum.ensures ∙ c.in_default.is)

pub returns-in_default-cut : goal.returns-in_default-cut
returns-in_default-cut c =
    no_new_cut c.args.facts.now c.args.form.now c.in-Some.sum (sym c.in_ok-sum.ensures ∙ c.in-Some.is)
    (rw c.in_default-cut.is at c.in_ok-cut.ensures)

pub returns-then-cut-le1 : goal.returns-then-cut-le1
returns-then-cut-le1 c =
    let low : c.in-Some-cut.cut.divisor ≤ℤ pos 1 = search rules in
    low_divisor c.args.facts.now c.args.form.now c.in-Some.sum (sym c.in_ok-sum.ensures ∙ c.in-Some.is)
    c.in-Some-cut.cut.divisor c.in-Some-cut.cut.form (rw c.in-Some-cut.is at c.in_ok-cut.ensures) low
