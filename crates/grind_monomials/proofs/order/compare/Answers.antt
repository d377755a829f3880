use Rattle.std.proofs.Common.{◌<◌, ◌≤◌, length, rules, sym, ◌∙◌}
use Rattle.grind_monomials.proofs.Clauses.{place-above, place-below, place-one}
use Rattle.grind_monomials.proofs.order.compare.Goals as goal

pub returns-then-b-a : goal.returns-then-b-a
returns-then-b-a c =
    let less : length c.args.b.now < length c.args.a.now = search rules in sym (place-above c.args.a.now c.args.b.now less)

pub returns-then-a-b : goal.returns-then-a-b
returns-then-a-b c =
    let less : length c.args.a.now < length c.args.b.now = search rules in sym (place-below c.args.a.now c.args.b.now less)

pub returns : goal.returns
returns c =
    let low : length c.args.a.now ≤ length c.args.b.now = search rules in
    let high : length c.args.b.now ≤ length c.args.a.now = search rules in
    c.compare_nodes.ensures ∙ sym (place-one c.args.a.now c.args.b.now low high)
