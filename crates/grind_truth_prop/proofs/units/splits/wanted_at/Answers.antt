use Rattle.std.specs.Prelude.{refl}
use Rattle.std.proofs.lemmas.Bool.{false≢true}
use Rattle.grind_truth_prop.proofs.UnitLemmas.{wants_nothing_if_unknown}
use Rattle.grind_truth_prop.proofs.units.splits.wanted_at.Goals as goal

pub returns-then-not-is_active-clause-none : goal.returns-then-not-is_active-clause-none
returns-then-not-is_active-clause-none c = λ _.
    wants_nothing_if_unknown c.args.known.now c.args.classes.now.lists c.args.n (λ k. false≢true (c.if-is_known.ensures.1 k))
    (λ unknown. absurd (false≢true (c.if-not-is_active.ensures.value.1 unknown.0)))

pub returns-then-not-shares_class-clause-none : goal.returns-then-not-shares_class-clause-none
returns-then-not-shares_class-clause-none c = λ _.
    wants_nothing_if_unknown c.args.known.now c.args.classes.now.lists c.args.n (λ k. false≢true (c.if-is_known.ensures.1 k))
    (c.if-not-shares_class.ensures.no refl)
