use Rattle.std.proofs.Common.{arith, ℕ, ◌≡◌, ◌+◌, ◌-◌, length, subst, drop, List}
use Rattle.grind_truth_tables.specs.Needed.{told, Lists}
use Rattle.grind_truth_tables.specs.Tables.{truth_of}
use Rattle.grind_truth_tables.proofs.NeededLemmas.{AreTold, none_told, rests_told, told_next}
use Rattle.grind_truth_tables.proofs.truths.truths_of.Goals as goal

pub loop-done-init : goal.loop-done-init
loop-done-init c =
    let order = c.args.order.now in
    let look = told c.new-known.result in
    let truth = truth_of c.args.terms.now.nodes c.args.free.now c.args.chosen.now in
    let same : length order ≡ length order - 0 = omega arith in
    subst (λ (k : ℕ). AreTold look truth (drop k order)) same (none_told look truth order)

pub node_truth-truth-requires-clause-told : goal.node_truth-truth-requires-clause-told
node_truth-truth-requires-clause-told c =
    let order = c.args.order.now in
    let look = told c.loop-done.known in
    let truth = truth_of c.args.terms.now.nodes c.args.free.now c.args.chosen.now in
    let place = length order - 1 - c.loop-done.done in
    let next : length order - c.loop-done.done ≡ place + 1 = omega arith in
    rests_told c.args.terms.now.nodes c.args.free.now order look truth place c.index-order-place.result c.requires.contained (omega arith)
    c.index-order-place.is (subst (λ (k : ℕ). AreTold look truth (drop k order)) next c.loop-done.invariant)

pub loop-done-preserved : goal.loop-done-preserved
loop-done-preserved c =
    let order = c.args.order.now in
    let truth = truth_of c.args.terms.now.nodes c.args.free.now c.args.chosen.now in
    let place = length order - 1 - c.loop-done.done in
    let node = c.index-order-place.result in
    let next : length order - c.loop-done.done ≡ place + 1 = omega arith in
    let here : place ≡ length order - (c.loop-done.done + 1) = omega arith in
    subst (λ (k : ℕ). AreTold (told c.insert.new.self) truth (drop k order)) here
    (told_next c.loop-done.known c.insert.new.self order truth place (length order - c.loop-done.done) node c.node_truth-truth.result
    next (omega arith) c.index-order-place.is c.node_truth-truth.ensures (rw c.number.ensures at c.in_ok-insert.ensures.updates.0)
    c.loop-done.invariant)

pub returns : goal.returns
returns c =
    let order = c.args.order.now in
    let look = told c.loop-done.known in
    let truth = truth_of c.args.terms.now.nodes c.args.free.now c.args.chosen.now in
    let none : length order - c.loop-done.done ≡ 0 = omega arith in
    subst (λ (k : ℕ). AreTold look truth (drop k order)) none c.loop-done.invariant
