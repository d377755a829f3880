use Rattle.std.specs.Prelude.{◌≡◌, ◌∷◌, ◌++◌, ℕ, List}
use Rattle.std.specs.List.{AllZip}
use Rattle.std.proofs.lemmas.List.Elements.{All-tail}
use Rattle.grind_classes.specs.Classes.{IsActive}
use Rattle.grind_congruence.specs.Table.{IsRootOf}
use Rattle.grind_congruence.proofs.TableLemmas.{roots_more, roots_end}
use Rattle.grind_congruence.proofs.looking.roots_of.Goals as goal

pub loop-n-preserved : goal.loop-n-preserved
loop-n-preserved c =
    let rest_is : c.loop-n.rest.now ≡ c.in-Some.n.now ∷ c.in-Some.tail.now = c.in-Some.ensures.cases.0 in
    let before : (later : List ℕ) → AllZip (IsRootOf c.args.classes.now.lists) later (c.in-Some.n.now ∷ c.in-Some.tail.now)
    → AllZip (IsRootOf c.args.classes.now.lists) (c.loop-n.roots ++ later) c.args.nodes.now = rw rest_is at c.loop-n.invariant.later in
    record {
      later = rw c.in_ok-push.ensures.ok
          (roots_more c.args.classes.now.lists c.loop-n.roots c.root.result c.in-Some.n.now c.in-Some.tail.now c.args.nodes.now before
          (c.root.ensures.own, c.root.ensures.within));
      active = All-tail (IsActive c.args.classes.now.lists) c.in-Some.n.now c.in-Some.tail.now (rw rest_is at c.loop-n.invariant.active);
    }

pub returns : goal.returns
returns c =
    roots_end c.args.classes.now.lists c.loop-n.roots c.loop-n.rest.now c.args.nodes.now c.in_default.ensures.cases c.loop-n.invariant.later
