use Rattle.std.proofs.Common.{◌≤◌, ℕ, subst}
use Rattle.grind_ematch.proofs.IndexLemmas.{index_first, index_next, index_all}
use Rattle.grind_ematch.proofs.index.index_of.Goals as goal

pub loop-number-init : goal.loop-number-init
loop-number-init c = index_first c.args.query.now.scene c.new-index.result.entries c.new-index.ensures.empty

pub loop-number-preserved : goal.loop-number-preserved
loop-number-preserved c =
    index_next c.args.query.now.scene c.loop-number.number c.new-n.result c.loop-number.index.entries c.add.new.index.entries
    c.new-n.ensures c.loop-number.invariant c.in_ok-add.ensures

pub returns : goal.returns
returns c =
    let past = subst (λ (k : ℕ). k ≤ c.loop-number.number) c.len-number-end.ensures c.loop-number-test.false in
    index_all c.args.query.now.scene c.loop-number.number c.loop-number.index.entries past c.loop-number.invariant
