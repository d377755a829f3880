use Rattle.std.specs.Prelude.{◌≡◌, ◌∷◌, ◌<◌, All, Some, length, set}
use Rattle.std.proofs.Common.{refl}
use Rattle.std.proofs.lemmas.List.{length-set}
use Rattle.std.proofs.lemmas.List.Elements.{All-tail}
use Rattle.grind_classes.proofs.roots.repoint.Goals as goal

pub loop-n-preserved : goal.loop-n-preserved
loop-n-preserved c =
    let rest_is : c.loop-n.rest.now ≡ c.in-Some.n.now ∷ c.in-Some.tail.now = c.in-Some.ensures.cases.0 in
    let new_is : c.set.new.self ≡ set c.loop-n.roots c.in-Some.n.now (Some c.args.root) = rw (← c.number.ensures) c.set.ensures in
    let before : All (λ n. n < length c.loop-n.roots) (c.in-Some.n.now ∷ c.in-Some.tail.now) = rw rest_is at c.loop-n.invariant.within in
    record {
      whole = rw new_is (rw rest_is at c.loop-n.invariant.whole);
      within = rw (new_is, length-set) (All-tail (λ n. n < length c.loop-n.roots) c.in-Some.n.now c.in-Some.tail.now before);
      same = refl;
    }
