use Rattle.std.proofs.Common.{All, length}
use Rattle.grind_theory.specs.States.{bound_names}
use Rattle.grind_theory.specs.Headings.{bounds_in}
use Rattle.grind_theory.specs.Kept.{bounds_of, IsPlacedBinder}
use Rattle.grind_theory.proofs.BinderLists.{IsNewSoFar}
use Rattle.grind_theory.proofs.binders.are_new.Given as goal

-- the binders that are left stand in the text, and all are new exactly where they are
abbrev pub invariant-loop-binder : goal.invariant-loop-binder
invariant-loop-binder l = record {
  placed : All (IsPlacedBinder l.fn.heading.text.now) l.rest;
  new : IsNewSoFar l.signature (bound_names (bounds_in l.fn.heading)) (bound_names (bounds_of l.fn.heading.text.now l.rest)) l.names;
}

abbrev pub decreases-loop-binder : goal.decreases-loop-binder
decreases-loop-binder l = length l.rest
