use Rattle.std.proofs.Common.{take, List, Option, ℕ, subst, sym, ◌∙◌}
use Rattle.grind_ematch.specs.declared.partial.Partial.{Partial}
use Rattle.grind_ematch.specs.Partials.{AreBound, AreMatchesOf}
use Rattle.grind_ematch.proofs.Along.{take_next, item_in}
use Rattle.grind_ematch.proofs.JoinLemmas.{AreMatchesOf-next}
use Rattle.grind_ematch.proofs.search.matches_of.Goals as goal

pub subst_of-requires : goal.subst_of-requires
subst_of-requires c =
    let list = c.as_slice-partial-items.result.now in
    let item = c.partial-item.result in
    let there = item_in list c.loop-partial.partial-index item c.loop-partial-test.true c.partial-item.is in
    subst (λ (slots : List (Option ℕ)). AreBound slots) (sym c.as_slice.ensures.value)
    (c.requires item (rw c.as_slice-partial-items.ensures.value at there))

pub loop-partial-preserved : goal.loop-partial-preserved
loop-partial-preserved c =
    let k = c.loop-partial.partial-index in
    let item = c.partial-item.result in
    let is = take_next c.as_slice-partial-items.result.now k item c.loop-partial-test.true c.partial-item.is in
    let here = rw c.as_slice-partial-items.ensures.value at is in
    subst (λ (list : List Partial). AreMatchesOf c.args.theorem list c.push.new.self) (sym here)
    (AreMatchesOf-next c.args.theorem (take k c.args.list) c.loop-partial.found c.push.new.self item c.in_ok-subst.subst
    (c.in_ok-subst.ensures ∙ c.as_slice.ensures.value) c.in_ok-push.ensures.ok c.loop-partial.invariant)
