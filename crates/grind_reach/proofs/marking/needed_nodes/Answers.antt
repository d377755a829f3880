use Rattle.std.proofs.Common.{rules, ◌≡◌, ◌<◌, ◌≤◌, ◌-◌, ℕ, suc, Bool, List, All, slice_get, Some, length, arith, sym, subst}
use Rattle.std.proofs.lemmas.Bool.{both_ways}
use Rattle.grind_reach.specs.Marks.{IsMarked}
use Rattle.grind_reach.proofs.MarkLemmas.{IsMarking, marking-begins, marking-more, marking-same, needed-marked}
use Rattle.grind_reach.proofs.marking.needed_nodes.Goals as goal

pub loop-number-preserved-then-is_marked : goal.loop-number-preserved-then-is_marked
loop-number-preserved-then-is_marked c =
    let before : c.loop-number.number ≡ suc (c.loop-number.number - 1) = omega arith in
    let size = c.mark_arguments.ensures.size in
    let within : c.loop-number.number - 1 ≤ length c.mark_arguments.new.marks = omega (arith, c.loop-number.invariant.within) in
    let marking = subst (IsMarking c.args.table.now.nodes c.args.roots.now c.loop-number.marks) before c.loop-number.invariant.marking in
    let marked = subst (λ (marks : List Bool). IsMarked marks (c.loop-number.number - 1)) c.as_slice.ensures.value (c.is_marked.ensures.0 c.if-is_marked.true) in
    let node_is = subst (λ (n : ℕ). slice_get c.args.table.now.nodes n ≡ Some c.node.result.now) c.new.ensures c.node.ensures.value in
    let lower = subst (λ (n : ℕ). All (λ arg. arg < n) c.node.result.now.args) c.new.ensures c.node.ensures.lower in
    record {
      marking = marking-more c.args.table.now.nodes c.args.roots.now (c.loop-number.number - 1) c.node.result.now node_is lower c.loop-number.marks
          c.mark_arguments.new.marks marked c.mark_arguments.ensures.size c.mark_arguments.ensures.kept c.mark_arguments.ensures.args
          c.mark_arguments.ensures.only marking;
      within = within;
    }

pub loop-number-preserved : goal.loop-number-preserved
loop-number-preserved c =
    let before : c.loop-number.number ≡ suc (c.loop-number.number - 1) = omega arith in
    let within : c.loop-number.number - 1 ≤ length c.loop-number.marks = omega (arith, c.loop-number.invariant.within) in
    let marking = subst (IsMarking c.args.table.now.nodes c.args.roots.now c.loop-number.marks) before c.loop-number.invariant.marking in
    record {
      marking = marking-same c.args.table.now.nodes c.args.roots.now (c.loop-number.number - 1) c.loop-number.marks
          (λ marked. both_ways c.is_marked.result c.if-is_marked.false
          (c.is_marked.ensures.1 (subst (λ (marks : List Bool). IsMarked marks (c.loop-number.number - 1)) (sym c.as_slice.ensures.value) marked)))
          marking;
      within = within;
    }

pub loop-number-init : goal.loop-number-init
loop-number-init c = record {
  marking = subst (IsMarking c.args.table.now.nodes c.args.roots.now c.in_ok-marks.marks) (sym c.len-number.ensures.value)
      (marking-begins c.args.table.now.nodes c.args.roots.now c.in_ok-marks.marks c.in_ok-marks.ensures.within c.in_ok-marks.ensures.size
      c.in_ok-marks.ensures.marked c.in_ok-marks.ensures.only);
  within = omega (arith, c.len-number.ensures.value);
}

pub node-requires : goal.node-requires
node-requires c =
    let end = c.loop-number.invariant.marking.least (length c.args.table.now.nodes) c.requires in
    let here : c.new.result ≡ c.loop-number.number - 1 = c.new.ensures in omega (arith, end, c.loop-number.invariant.within)

pub returns-clause-exact : goal.returns-clause-exact
returns-clause-exact c = λ n.
    let none : c.loop-number.number ≡ 0 = search rules in
    let marking = subst (IsMarking c.args.table.now.nodes c.args.roots.now c.loop-number.marks) none c.loop-number.invariant.marking in
    (marking.needed n, needed-marked c.args.table.now.nodes c.args.roots.now n c.loop-number.marks marking)
