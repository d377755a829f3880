use Rattle.std.specs.Prelude.{◌≡◌}
use Rattle.std.proofs.Common.{ap}
use Rattle.grind_classes.specs.Classes.{Grouping}
use Rattle.grind_classes.proofs.classes.Classes.root.Goals as goal

pub returns-clause-together : goal.returns-clause-together
returns-clause-together c = λ m.
    let lists_are : c.self.inside.parts ≡ c.args.self.now.lists = ap (λ (it : Grouping). it.lists) c.self.view_is in
    rw (← lists_are) (c.root.ensures.together m)
