use Rattle.std.proofs.Common.{arith, sym, ◌∙◌, ap, ◌≡◌, true≢false}
use Rattle.grind_truth_tables.specs.Needed.{told}
use Rattle.grind_truth_tables.proofs.TruthLemmas.{truth_of-past, truth_chosen, truth_joined}
use Rattle.grind_truth_tables.proofs.truths.node_truth.Goals as goal

pub returns-then-number-len : goal.returns-then-number-len
returns-then-number-len c = sym (truth_of-past c.args.terms.now.nodes c.args.free.now c.args.chosen.now c.args.node (omega arith))

pub returns-then-is_some : goal.returns-then-is_some
returns-then-is_some c =
    truth_chosen c.args.terms.now.nodes c.args.free.now c.args.chosen.now c.args.node c.node-it.result.now c.free_truth-chosen_truth.result
    c.node-it.ensures.value (omega arith) c.node-it.ensures.lower c.free_truth-chosen_truth.ensures (sym c.is_some.ensures ∙ c.if-is_some.true)

pub returns : goal.returns
returns c =
    let joined = rw c.as_slice.ensures.value at c.joined_truth.ensures in
    joined
    ∙ truth_joined c.args.terms.now.nodes c.args.free.now c.args.chosen.now (told c.args.known.now) c.args.node c.node-it.result.now
    c.free_truth-chosen_truth.result c.node-it.ensures.value (omega arith) c.node-it.ensures.lower c.requires.count
    c.free_truth-chosen_truth.ensures (λ some. true≢false (sym some ∙ sym c.is_some.ensures ∙ c.if-is_some.false)) c.requires.told
