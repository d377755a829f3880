use Rattle.std.specs.Prelude.{◌++◌, ◌∷◌, []}
use Rattle.std.proofs.Common.{inr}
use Rattle.grind_classes.specs.Trail.{IsTrail}
use Rattle.grind_classes.proofs.TrailLemmas.{undone_last}
use Rattle.grind_classes.proofs.trail.undo_last.Goals as goal

pub undo-requires : goal.undo-requires
undo-requires c =
    let whole : IsTrail c.args.parts.now (c.pop.new.self ++ c.in-Some.change ∷ []) = rw (← c.in-Some.ensures) c.requires.trail in
    (undone_last c.args.parts.now c.pop.new.self c.in-Some.change whole).0

pub returns-in-Some : goal.returns-in-Some
returns-in-Some c =
    let whole : IsTrail c.args.parts.now (c.pop.new.self ++ c.in-Some.change ∷ []) = rw (← c.in-Some.ensures) c.requires.trail in
    record {
      change = inr (c.in-Some.change, c.in-Some.ensures, c.undo.ensures);
      still = rw c.undo.ensures (undone_last c.args.parts.now c.pop.new.self c.in-Some.change whole).1;
    }
