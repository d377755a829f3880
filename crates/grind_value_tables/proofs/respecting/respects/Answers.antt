use Rattle.std.specs.Prelude.{◌↔◌, false, IsTrue}
use Rattle.std.proofs.Common.{arith, refl, rules}
use Rattle.std.proofs.lemmas.Bool.{false≢true}
use Rattle.grind_value_tables.specs.Respects.{Respects}
use Rattle.grind_value_tables.specs.Overflows.{value_of, Overflows}
use Rattle.grind_value_tables.proofs.KeptNodes.{overflows_here, asks_of, broken_by, stopped_by, all_keep, all_fit}
use Rattle.grind_value_tables.proofs.respecting.respects.Goals as goal

pub returns-in_err-keeps_at-clause-overflow : goal.returns-in_err-keeps_at-clause-overflow
returns-in_err-keeps_at-clause-overflow c = (
  λ _. overflows_here c.args.terms.now.nodes (value_of c.args.values.now.list) c.loop-number.number c.loop-number.invariant
      (asks_of c.args.terms.now.nodes c.as_slice-list.result.now c.args.values.now.list c.loop-number.number
      c.as_slice-list.ensures.value (c.in_err-keeps_at.ensures.overflow.0 refl)),
  λ _. c.from_residual.ensures.0,
)

pub returns-then-not-branch-clause-exact : goal.returns-then-not-branch-clause-exact
returns-then-not-branch-clause-exact c =
    let broken : IsTrue false ↔ Respects c.args.terms.now.nodes (value_of c.args.values.now.list) = (
      λ wrong. absurd (false≢true wrong),
      λ respects. absurd (broken_by c.args.terms.now.nodes c.as_slice-list.result.now c.args.values.now.list
          c.loop-number.number c.in_ok-keeps_at.field-0 c.as_slice-list.ensures.value (omega arith) c.if-not-branch.true
          c.in_ok-keeps_at.ensures.exact respects),
    ) in
    search rules

pub returns-then-not-branch-clause-overflow : goal.returns-then-not-branch-clause-overflow
returns-then-not-branch-clause-overflow c =
    let stopped : IsTrue false ↔ Overflows c.args.terms.now.nodes (value_of c.args.values.now.list) = (
      λ wrong. absurd (false≢true wrong),
      λ over. absurd (stopped_by c.args.terms.now.nodes c.as_slice-list.result.now c.args.values.now.list
          c.loop-number.number c.in_ok-keeps_at.field-0 c.as_slice-list.ensures.value (omega arith) c.loop-number.invariant
          c.if-not-branch.true c.in_ok-keeps_at.ensures.exact c.in_ok-keeps_at.ensures.overflow over),
    ) in
    search rules

pub returns-clause-exact : goal.returns-clause-exact
returns-clause-exact c = (
  λ _. all_keep c.args.terms.now.nodes (value_of c.args.values.now.list) c.loop-number.number (omega arith)
      c.loop-number.invariant,
  λ _. refl,
)

pub returns-clause-overflow : goal.returns-clause-overflow
returns-clause-overflow c = (
  λ no. absurd (cc),
  λ over. absurd (all_fit c.args.terms.now.nodes (value_of c.args.values.now.list) c.loop-number.number (omega arith)
      c.loop-number.invariant over),
)
