use Rattle.std.proofs.Common.{◌<◌, ◌≤◌, rules, sym, ◌∙◌}
use Rattle.grind_monomials.proofs.Clauses.{quotient_step_more, quotient_step_less, quotient_step_same, quotient_end, quotient_rest}
use Rattle.grind_monomials.specs.Monomials.{quotient}
use Rattle.grind_monomials.proofs.parts.quotient.Goals as goal

pub returns-in_default-split_first : goal.returns-in_default-split_first
returns-in_default-split_first c =
    c.in_ok-extend.ensures.ok
    ∙ sym (quotient_rest c.loop-x.all c.loop-x.rest.now c.loop-x.others.now c.in_default-split_first.ensures.cases) ∙ c.loop-x.invariant

pub loop-x-preserved-then-lt : goal.loop-x-preserved-then-lt
loop-x-preserved-then-lt c =
    let more : c.in-Some-split_first.y.now < c.in-Some.x.now = search rules in
    quotient_step_more (quotient c.args.a.now c.args.b.now) c.loop-x.all c.loop-x.rest.now c.loop-x.others.now c.in-Some.xs.now
    c.in-Some-split_first.ys.now c.in-Some.x.now c.in-Some-split_first.y.now c.in-Some.ensures.cases.0 c.in-Some-split_first.ensures.cases.0
    c.loop-x.invariant more

pub loop-x-preserved-then-lt-2 : goal.loop-x-preserved-then-lt-2
loop-x-preserved-then-lt-2 c =
    let less : c.in-Some.x.now < c.in-Some-split_first.y.now = search rules in
    quotient_step_less (quotient c.args.a.now c.args.b.now) c.loop-x.all c.loop-x.rest.now c.loop-x.others.now c.in-Some.xs.now
    c.in-Some-split_first.ys.now c.in-Some.x.now c.in-Some-split_first.y.now c.in-Some.ensures.cases.0 c.in-Some-split_first.ensures.cases.0
    c.loop-x.invariant c.push.new.self c.in_ok-push.ensures.ok less

pub loop-x-preserved : goal.loop-x-preserved
loop-x-preserved c =
    let low : c.in-Some.x.now ≤ c.in-Some-split_first.y.now = search rules in
    let high : c.in-Some-split_first.y.now ≤ c.in-Some.x.now = search rules in
    quotient_step_same (quotient c.args.a.now c.args.b.now) c.loop-x.all c.loop-x.rest.now c.loop-x.others.now c.in-Some.xs.now
    c.in-Some-split_first.ys.now c.in-Some.x.now c.in-Some-split_first.y.now c.in-Some.ensures.cases.0 c.in-Some-split_first.ensures.cases.0
    c.loop-x.invariant low high

pub returns : goal.returns
returns c =
    sym (quotient_end c.loop-x.all c.loop-x.rest.now c.loop-x.others.now c.in_default.ensures.cases) ∙ c.loop-x.invariant
