use Rattle.std.proofs.Common.{◌<◌, ◌≤◌, rules, sym, ◌∙◌}
use Rattle.grind_monomials.proofs.Clauses.{nodes-less, nodes-more, nodes-same, nodes-end, nodes-no_more}
use Rattle.grind_monomials.proofs.order.compare_nodes.Goals as goal

pub returns-in_default-split_first : goal.returns-in_default-split_first
returns-in_default-split_first c =
    sym (nodes-no_more c.loop-x.rest.now c.loop-x.others.now c.in_default-split_first.ensures.cases) ∙ c.loop-x.invariant

pub returns-then-lt : goal.returns-then-lt
returns-then-lt c =
    let less : c.in-Some.x.now < c.in-Some-split_first.y.now = search rules in
    sym (nodes-less c.in-Some.x.now c.in-Some-split_first.y.now c.in-Some.xs.now c.in-Some-split_first.ys.now c.loop-x.rest.now c.loop-x.others.now
    c.in-Some.ensures.cases.0 c.in-Some-split_first.ensures.cases.0 less) ∙ c.loop-x.invariant

pub returns-then-lt-2 : goal.returns-then-lt-2
returns-then-lt-2 c =
    let more : c.in-Some-split_first.y.now < c.in-Some.x.now = search rules in
    sym (nodes-more c.in-Some.x.now c.in-Some-split_first.y.now c.in-Some.xs.now c.in-Some-split_first.ys.now c.loop-x.rest.now c.loop-x.others.now
    c.in-Some.ensures.cases.0 c.in-Some-split_first.ensures.cases.0 more) ∙ c.loop-x.invariant

pub loop-x-preserved : goal.loop-x-preserved
loop-x-preserved c =
    let low : c.in-Some.x.now ≤ c.in-Some-split_first.y.now = search rules in
    let high : c.in-Some-split_first.y.now ≤ c.in-Some.x.now = search rules in
    sym (nodes-same c.in-Some.x.now c.in-Some-split_first.y.now c.in-Some.xs.now c.in-Some-split_first.ys.now c.loop-x.rest.now c.loop-x.others.now
    c.in-Some.ensures.cases.0 c.in-Some-split_first.ensures.cases.0 low high) ∙ c.loop-x.invariant

pub returns : goal.returns
returns c = sym (nodes-end c.loop-x.rest.now c.loop-x.others.now c.in_default.ensures.cases) ∙ c.loop-x.invariant
