use Rattle.std.specs.Prelude.{◌≡◌, List, Some, length, slice_get, refl}
use Rattle.std.proofs.Common.{arith, subst}
use Rattle.std.proofs.lemmas.Option.{slice_get_read}
use Rattle.grind_truth_prop.specs.Pairs.{AreRoots}
use Rattle.grind_truth_prop.specs.declared.types.Couple.{Couple}
use Rattle.grind_truth_prop.proofs.PairLemmas.{zip_more}
use Rattle.grind_truth_prop.proofs.pairs.roots_of.Goals as goal

pub loop-pair-preserved : goal.loop-pair-preserved
loop-pair-preserved c =
    let items : c.as_slice-pair-items.result.now ≡ c.args.known.now.apart = c.as_slice-pair-items.ensures.value in
    let there : slice_get c.as_slice-pair-items.result.now c.loop-pair.pair-index ≡ Some c.pair-item.result =
    slice_get_read c.as_slice-pair-items.result.now (length c.as_slice-pair-items.result.now) c.loop-pair.pair-index c.pair-item.result
    refl (omega arith) c.pair-item.is in
    zip_more (AreRoots c.args.classes.now.lists) c.args.known.now.apart c.loop-pair.roots c.push.new.self c.loop-pair.pair-index
    c.pair-item.result c.roots_of_pair.result
    (subst (λ (xs : List Couple). slice_get xs c.loop-pair.pair-index ≡ Some c.pair-item.result) items there)
    c.loop-pair.invariant c.roots_of_pair.ensures c.in_ok-push.ensures.ok
