use Rattle.std.specs.Prelude.{◌≡◌, [], ◌∷◌, ◌++◌}
use Rattle.std.proofs.Common.{sym, ap, ◌∙◌}
use Rattle.std.proofs.lemmas.List.{set_at}
use Rattle.grind_classes.specs.declared.change.Change.TheVariants.{Joined}
use Rattle.grind_classes.specs.Classes.{Grouping}
use Rattle.grind_classes.specs.Trail.{IsMade}
use Rattle.grind_classes.proofs.TrailLemmas.{marked-push, IsUndoable-push}
use Rattle.grind_classes.proofs.classes.Classes.append.Goals as goal

made : (c : goal.After-set) → IsMade c.self.inside.parts (Joined c.args.kept c.args.gone c.in-Ok.moved) c.append.new.self
made c =
    let lists_are : c.self.inside.parts ≡ c.args.self.now.lists = ap (λ (it : Grouping). it.lists) c.self.view_is in (
      record {
        classes = c.in-Ok.ensures.partition;
        kept_in = rw lists_are c.requires.kept;
        gone_in = rw lists_are c.requires.gone;
        differ = c.requires.apart;
      },
      c.in-Ok.ensures.moved,
      c.in-Ok.ensures.lists,
    )

trail_is : (c : goal.After-set) → c.set.new.self ≡ c.self.inside.trail ++ Joined c.args.kept c.args.gone c.in-Ok.moved ∷ []
trail_is c =
    rw c.in_ok-push.ensures.ok at c.set.ensures
    ∙ set_at c.self.inside.trail (Joined c.args.kept c.args.gone c.new.result) [] (Joined c.args.kept c.args.gone c.in-Ok.moved) c.len-last.result
    (sym c.len-last.ensures.value)

pub invariant_of-self-in-Ok : goal.invariant_of-self-in-Ok
invariant_of-self-in-Ok c =
    rw (trail_is c)
    (IsUndoable-push c.self.inside.parts c.append.new.self c.self.inside.trail (Joined c.args.kept c.args.gone c.in-Ok.moved)
    c.self.inside.marks (made c) c.self.invariant)

pub returns-in-Ok-clause-marked : goal.returns-in-Ok-clause-marked
returns-in-Ok-clause-marked c =
    rw (trail_is c)
    (marked-push c.self.inside.parts c.append.new.self c.self.inside.trail (Joined c.args.kept c.args.gone c.in-Ok.moved)
    c.self.inside.marks (made c) c.self.invariant)
    ∙ ap (λ (it : Grouping). it.marked) c.self.view_is
