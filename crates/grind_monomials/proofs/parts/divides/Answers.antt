use Rattle.std.proofs.Common.{◌<◌, ◌≤◌, rules, sym, ◌∙◌}
use Rattle.grind_monomials.proofs.Clauses.{divides_step_more, divides_step_same, divides_fails, divides_end, divides_no_more}
use Rattle.grind_monomials.proofs.parts.divides.Goals as goal

pub returns-in_default-split_first : goal.returns-in_default-split_first
returns-in_default-split_first c = (
  λ h. absurd cc,
  λ e. absurd (divides_no_more c.loop-x.rest.now c.loop-x.others.now c.in-Some.xs.now c.in-Some.x.now c.in-Some.ensures.cases.0
      c.in_default-split_first.ensures.cases (c.loop-x.invariant ∙ e)),
)

pub returns-then-lt : goal.returns-then-lt
returns-then-lt c =
    let less : c.in-Some.x.now < c.in-Some-split_first.y.now = search rules in (
      λ h. absurd cc,
      λ e. absurd (divides_fails c.loop-x.rest.now c.loop-x.others.now c.in-Some.xs.now c.in-Some-split_first.ys.now
          c.in-Some.x.now c.in-Some-split_first.y.now c.in-Some.ensures.cases.0 c.in-Some-split_first.ensures.cases.0 less (c.loop-x.invariant ∙ e)),
    )

pub loop-x-preserved-then-lt-2 : goal.loop-x-preserved-then-lt-2
loop-x-preserved-then-lt-2 c =
    let more : c.in-Some-split_first.y.now < c.in-Some.x.now = search rules in
    divides_step_more c.loop-x.rest.now c.loop-x.others.now c.in-Some.xs.now c.in-Some-split_first.ys.now
    c.in-Some.x.now c.in-Some-split_first.y.now c.in-Some.ensures.cases.0 c.in-Some-split_first.ensures.cases.0 more ∙ c.loop-x.invariant

pub loop-x-preserved : goal.loop-x-preserved
loop-x-preserved c =
    let low : c.in-Some.x.now ≤ c.in-Some-split_first.y.now = search rules in
    let high : c.in-Some-split_first.y.now ≤ c.in-Some.x.now = search rules in
    divides_step_same c.loop-x.rest.now c.loop-x.others.now c.in-Some.xs.now c.in-Some-split_first.ys.now
    c.in-Some.x.now c.in-Some-split_first.y.now c.in-Some.ensures.cases.0 c.in-Some-split_first.ensures.cases.0 low high ∙ c.loop-x.invariant

pub returns : goal.returns
returns c =
    (λ h. sym c.loop-x.invariant ∙ divides_end c.loop-x.rest.now c.loop-x.others.now c.in_default.ensures.cases, λ h. search rules)
