use Rattle.std.specs.Prelude.{List, All}
use Rattle.std.proofs.Common.{arith, sym, subst}
use Rattle.std.proofs.lemmas.List.Elements.{All-cons}
use Rattle.grind_class_joins.specs.declared.joins.Pair.{Pair}
use Rattle.grind_class_joins.specs.Joins.{IsActivePair}
use Rattle.grind_class_rows.proofs.class_tests.are_active.Goals as goal

pub loop-pair-preserved : goal.loop-pair-preserved
loop-pair-preserved c = λ tail.
    let P : Pair → Type 0 = IsActivePair c.args.classes.now.lists in
    c.loop-pair.invariant (subst (λ (ps : List Pair). All P ps) (sym c.in-Some.ensures.cases.0)
    (All-cons P c.in-Some.pair.now c.in-Some.tail.now
    (c.is_active.ensures.value.0 c.if-not-is_active.false, c.is_active-in-Some.ensures.value.0 c.if-not-is_active-2.false) tail))

pub returns : goal.returns
returns c = λ _. c.loop-pair.invariant (λ k d below. absurd (omega (arith, c.in_default.ensures.cases, below)))
