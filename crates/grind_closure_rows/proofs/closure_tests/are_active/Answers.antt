use Rattle.std.specs.Prelude.{◌≡◌, ◌∷◌}
use Rattle.std.proofs.lemmas.List.Elements.{All-cons}
use Rattle.grind_classes.specs.Classes.{IsActive}
use Rattle.grind_closure_rows.proofs.closure_tests.are_active.Goals as goal

pub loop-n-preserved : goal.loop-n-preserved
loop-n-preserved c = λ rest.
    let rest_is : c.loop-n.rest.now ≡ c.in-Some.n.now ∷ c.in-Some.tail.now = c.in-Some.ensures.cases.0 in
    let active : IsActive c.args.classes.now.lists c.in-Some.n.now = c.is_active.ensures.value.0 c.if-not-is_active.false in
    c.loop-n.invariant (rw rest_is (All-cons (IsActive c.args.classes.now.lists) c.in-Some.n.now c.in-Some.tail.now active rest))
