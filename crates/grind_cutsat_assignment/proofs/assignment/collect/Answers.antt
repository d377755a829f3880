use Rattle.std.proofs.Common.{rules, FitsSigned, sym, ap, ◌∙◌}
use Rattle.std.proofs.lemmas.Int.{to_z-of_z}
use Rattle.std.specs.Int.{w128}
use Rattle.std.proofs.lemmas.Bool.{false≢true}
use Rattle.grind_cutsat_bounds.specs.Evaluations.{value_of}
use Rattle.grind_cutsat_assignment.proofs.CollectLemmas.{collected_past, collected_push}
use Rattle.grind_cutsat_assignment.proofs.assignment.collect.Goals as goal

pub returns-then-not-is_marked : goal.returns-then-not-is_marked
returns-then-not-is_marked c =
    collected_past c.args.marks.now (value_of c.args.values.now) c.args.number c.args.list.now
    (λ marked. false≢true (sym c.if-not-is_marked.true ∙ c.is_marked.ensures.1 marked)) c.requires.collected

pub returns : goal.returns
returns c =
    let here = c.is_marked.ensures.0 c.if-not-is_marked.false in
    let fits : FitsSigned w128 c.value_of.result = search rules in
    let pushed = simp (to_z-of_z w128 c.value_of.result fits) at c.in_ok-push.ensures.ok in
    collected_push c.args.marks.now (value_of c.args.values.now) c.args.number c.args.list.now c.push.new.self
    (record { node = c.new-node.result; value = c.value_of.result }) pushed c.new-node.ensures
    (c.value_of.ensures ∙ ap (value_of c.args.values.now) c.new-node.ensures) here c.requires.collected
