use Rattle.std.proofs.Common.{◌≡◌, ◌<◌, length, get_or, subst, rules, arith}
use Rattle.std.proofs.lemmas.Grind.{common_steps}
use Rattle.std.proofs.lemmas.List.Elements.{All-more}
use Rattle.grind_report.specs.Report.{IsShort}
use Rattle.grind_report.proofs.report.words.put_nodes.Goals as goal

pub loop-node-preserved : goal.loop-node-preserved
loop-node-preserved c =
    let here : c.node-item.result ≡ get_or c.args.nodes.now c.loop-node.node-index c.node-item.result = cc in
    let low : c.loop-node.node-index < length c.args.nodes.now = omega arith in
    let short : IsShort c.node-item.result = omega (arith, c.in_ok-put_number.ensures.short, c.number.ensures) in
    (first_of (grind (arith, common_steps), search rules), All-more IsShort c.args.nodes.now c.loop-node.node-index c.node-item.result low c.loop-node.invariant.1 (subst IsShort here short))
