use Rattle.std.proofs.Common.{arith, true≢false, sym, ◌∙◌}
use Rattle.grind_truth_tables.proofs.NeededLemmas.{asks_nothing, rests_within, no_connective, asks_arguments}
use Rattle.grind_truth_tables.proofs.needed.ask.Goals as goal

pub returns-then-number-len : goal.returns-then-number-len
returns-then-number-len c =
    asks_nothing c.args.terms.now.nodes c.args.free.now c.args.pending.now.keys c.args.node
    (λ m rests. let within = rests_within c.args.terms.now.nodes c.args.free.now c.args.node m rests in omega arith)

pub returns-then-is_free : goal.returns-then-is_free
returns-then-is_free c =
    asks_nothing c.args.terms.now.nodes c.args.free.now c.args.pending.now.keys c.args.node
    (λ m rests. rests.0 (c.is_free.ensures.0 c.if-is_free.true))

pub returns-then-not-is_connective : goal.returns-then-not-is_connective
returns-then-not-is_connective c =
    asks_nothing c.args.terms.now.nodes c.args.free.now c.args.pending.now.keys c.args.node
    (λ m rests. no_connective c.args.terms.now.nodes c.args.free.now c.args.node m c.node-it.result.now c.node-it.ensures.value
    (λ is. true≢false (sym (c.is_connective.ensures.1 is) ∙ c.if-not-is_connective.true)) rests)

pub returns : goal.returns
returns c =
    asks_arguments c.args.terms.now.nodes c.args.free.now c.args.pending.now.keys c.put_all.new.set.keys c.args.node c.node-it.result.now
    c.node-it.ensures.value c.node-it.ensures.lower (rw c.as_slice.ensures.value at c.in_ok-put_all.ensures)
