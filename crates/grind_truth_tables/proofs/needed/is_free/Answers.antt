use Rattle.std.proofs.Common.{true≢false, sym, ◌∙◌}
use Rattle.grind_truth_tables.specs.Needed.{Lists}
use Rattle.grind_truth_tables.proofs.NeededLemmas.{free_goes_on, free_found, free_lacks}
use Rattle.grind_truth_tables.proofs.needed.is_free.Goals as goal

pub loop-it-preserved : goal.loop-it-preserved
loop-it-preserved c =
    free_goes_on c.loop-it.rest.now c.in-Some.tail.now (Lists c.args.free.now c.args.node) c.in-Some.it.now c.args.node
    c.in-Some.ensures.cases.0 (λ e. true≢false (sym (c.is_same.ensures.1 e) ∙ c.if-is_same.false)) c.loop-it.invariant

pub returns-then-is_same : goal.returns-then-is_same
returns-then-is_same c =
    free_found c.loop-it.rest.now c.in-Some.tail.now (Lists c.args.free.now c.args.node) c.in-Some.it.now c.args.node
    c.in-Some.ensures.cases.0 (c.is_same.ensures.0 c.if-is_same.true) c.loop-it.invariant

pub returns : goal.returns
returns c = free_lacks c.loop-it.rest.now (Lists c.args.free.now c.args.node) c.args.node c.in_default.ensures.cases c.loop-it.invariant
