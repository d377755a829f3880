use Rattle.grind_congruence.proofs.LegLemmas.{first_of_both}
use Rattle.grind_congruence.proofs.legs.first_gone.Goals as goal

pub returns-in-Some-Some : goal.returns-in-Some-Some
returns-in-Some-Some c =
    rw c.min.ensures (first_of_both c.args.forest.now c.args.x c.args.y c.in-Some-Some.left c.in-Some-Some.right c.in-Some-Some.ensures c.in-Some-Some.ensures')
