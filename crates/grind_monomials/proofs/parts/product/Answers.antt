use Rattle.std.proofs.Common.{◌<◌, ◌≤◌, rules, sym, ◌∙◌}
use Rattle.grind_monomials.proofs.Clauses.{product_step_more, product_step_less, product_end, product_rest}
use Rattle.grind_monomials.specs.Monomials.{product}
use Rattle.grind_monomials.proofs.parts.product.Goals as goal

pub returns-in_default-split_first : goal.returns-in_default-split_first
returns-in_default-split_first c =
    c.in_ok-extend.ensures.ok
    ∙ sym (product_rest c.loop-x.all c.loop-x.rest.now c.loop-x.others.now c.in_default-split_first.ensures.cases) ∙ c.loop-x.invariant

pub loop-x-preserved-then-lt : goal.loop-x-preserved-then-lt
loop-x-preserved-then-lt c =
    let more : c.in-Some-split_first.y.now < c.in-Some.x.now = search rules in
    product_step_more (product c.args.a.now c.args.b.now) c.loop-x.all c.loop-x.rest.now c.loop-x.others.now c.in-Some.xs.now
    c.in-Some-split_first.ys.now c.in-Some.x.now c.in-Some-split_first.y.now c.in-Some.ensures.cases.0 c.in-Some-split_first.ensures.cases.0
    c.loop-x.invariant c.push.new.self c.in_ok-push.ensures.ok more

pub loop-x-preserved : goal.loop-x-preserved
loop-x-preserved c =
    let less : c.in-Some.x.now ≤ c.in-Some-split_first.y.now = search rules in
    product_step_less (product c.args.a.now c.args.b.now) c.loop-x.all c.loop-x.rest.now c.loop-x.others.now c.in-Some.xs.now
    c.in-Some-split_first.ys.now c.in-Some.x.now c.in-Some-split_first.y.now c.in-Some.ensures.cases.0 c.in-Some-split_first.ensures.cases.0
    c.loop-x.invariant c.push-else-lt.new.self c.in_ok-push-2.ensures.ok less

pub returns : goal.returns
returns c =
    c.in_ok-extend-2.ensures.ok
    ∙ sym (product_end c.loop-x.all c.loop-x.rest.now c.loop-x.others.now c.in_default.ensures.cases) ∙ c.loop-x.invariant
