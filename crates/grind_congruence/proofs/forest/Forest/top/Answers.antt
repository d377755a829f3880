use Rattle.std.specs.Prelude.{◌+◌, ◌-◌, ◌<◌, length}
use Rattle.std.proofs.Common.{arith, sym, ap, ◌∙◌}
use Rattle.grind_congruence.specs.declared.forest.Join.{Join}
use Rattle.grind_congruence.proofs.ForestLemmas.{one_up, is_top, item_is}
use Rattle.grind_congruence.proofs.forest.Forest.top.Goals as goal

pub loop-place-smaller : goal.loop-place-smaller
loop-place-smaller c =
    let up = one_up c.args.self.now c.args.n c.loop-place.top c.loop-place.count c.in-Some.place c.in-Some.ensures.join c.joins.ensures.forest
    c.loop-place.invariant.root c.loop-place.invariant.within c.in-Some.ensures.stands c.in-Some.ensures.gone c.in-Some.ensures.only in
    let less : length c.args.self.now - (c.in-Some.place + 1) < length c.args.self.now - c.loop-place.count = omega (arith, up.1, up.2) in
    less

pub loop-place-preserved : goal.loop-place-preserved
loop-place-preserved c =
    let up = one_up c.args.self.now c.args.n c.loop-place.top c.loop-place.count c.in-Some.place c.in-Some.ensures.join c.joins.ensures.forest
    c.loop-place.invariant.root c.loop-place.invariant.within c.in-Some.ensures.stands c.in-Some.ensures.gone c.in-Some.ensures.only in
    record {
      root = rw c.joins.ensures.value (up.0 ∙ ap (λ (j : Join). j.kept) (item_is c.args.self.now c.in-Some.place c.in-Some.ensures.join c.index-joins-place.result c.in-Some.ensures.stands));
      within = up.1;
    }

pub returns-clause-value : goal.returns-clause-value
returns-clause-value c =
    sym (is_top c.args.self.now c.args.n c.loop-place.top c.loop-place.count c.loop-place.invariant.root c.loop-place.invariant.within c.in_default.ensures)
