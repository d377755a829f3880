use Rattle.std.specs.Prelude.{◌≡◌, [], ◌∷◌, ◌++◌, length, List, ℕ}
use Rattle.std.proofs.Common.{arith, ◌∙◌, ap, refl}
use Rattle.std.proofs.lemmas.List.{take-append-le, length-append}
use Rattle.grind_classes.proofs.ListLemmas.{long_enough-push}
use Rattle.grind_classes.proofs.lists.grow.Goals as goal

pub loop-alloc-preserved : goal.loop-alloc-preserved
loop-alloc-preserved c =
    let more : c.push.new.self ≡ c.loop-alloc.lists ++ [] ∷ [] =
    c.in_ok-push.ensures.ok ∙ ap (λ (list : List ℕ). c.loop-alloc.lists ++ list ∷ []) c.new.ensures in
    record {
      whole = rw more (long_enough-push c.loop-alloc.lists c.args.n (omega arith) ∙ c.loop-alloc.invariant.whole);
      front = rw more (take-append-le (length c.args.lists.now) c.loop-alloc.lists ([] ∷ []) c.loop-alloc.invariant.longer ∙ c.loop-alloc.invariant.front);
      longer = rw more (omega (arith, c.loop-alloc.invariant.longer, length-append c.loop-alloc.lists ([] ∷ [])));
      same = refl;
    }
