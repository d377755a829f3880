use Rattle.std.specs.Prelude.{◌≡◌}
use Rattle.std.proofs.Common.{ap, ◌∙◌}
use Rattle.grind_classes.specs.declared.change.Change.TheVariants.{Activated}
use Rattle.grind_classes.specs.Classes.{Grouping, IsActive}
use Rattle.grind_classes.specs.Trail.{IsMade}
use Rattle.grind_classes.proofs.ClassLemmas.{active-with_class, together-with_class}
use Rattle.grind_classes.proofs.TrailLemmas.{marked-push, IsUndoable-push}
use Rattle.grind_classes.proofs.classes.Classes.activate.Goals as goal

new : (c : goal.In-Ok) → IsActive c.self.inside.parts c.args.n → ⊥
new c = let lists_are : c.self.inside.parts ≡ c.args.self.now.lists = ap (λ (it : Grouping). it.lists) c.self.view_is in rw lists_are c.requires

made : (c : goal.In-Ok) → IsMade c.self.inside.parts (Activated c.args.n c.len-len.result c.new.result) c.activate.new.self
made c = (c.len-len.ensures.partition, new c, c.len-len.ensures.value, c.new.ensures, c.in-Ok.ensures.ok)

pub invariant_of-self-in-Ok : goal.invariant_of-self-in-Ok
invariant_of-self-in-Ok c =
    rw c.in_ok-push.ensures.ok
    (IsUndoable-push c.self.inside.parts c.activate.new.self c.self.inside.trail (Activated c.args.n c.len-len.result c.new.result)
    c.self.inside.marks (made c) c.self.invariant)

pub returns-in-Ok-clause-active : goal.returns-in-Ok-clause-active
returns-in-Ok-clause-active c = λ x.
    let lists_are : c.self.inside.parts ≡ c.args.self.now.lists = ap (λ (it : Grouping). it.lists) c.self.view_is in
    rw (← lists_are, c.in-Ok.ensures.ok) (active-with_class c.self.inside.parts c.args.n x c.len-len.ensures.partition (new c))

pub returns-in-Ok-clause-together : goal.returns-in-Ok-clause-together
returns-in-Ok-clause-together c = λ x y.
    let lists_are : c.self.inside.parts ≡ c.args.self.now.lists = ap (λ (it : Grouping). it.lists) c.self.view_is in
    rw (← lists_are, c.in-Ok.ensures.ok) (together-with_class c.self.inside.parts c.args.n x y c.len-len.ensures.partition (new c))

pub returns-in-Ok-clause-marked : goal.returns-in-Ok-clause-marked
returns-in-Ok-clause-marked c =
    rw c.in_ok-push.ensures.ok
    (marked-push c.self.inside.parts c.activate.new.self c.self.inside.trail (Activated c.args.n c.len-len.result c.new.result)
    c.self.inside.marks (made c) c.self.invariant)
    ∙ ap (λ (it : Grouping). it.marked) c.self.view_is
