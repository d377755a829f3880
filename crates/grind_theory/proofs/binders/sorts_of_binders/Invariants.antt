use Rattle.std.proofs.Common.{All, length}
use Rattle.grind_theory.specs.States.{bound_sorts}
use Rattle.grind_theory.specs.Headings.{bounds_in}
use Rattle.grind_theory.specs.Kept.{bounds_of, IsPlacedBinder}
use Rattle.grind_theory.proofs.SortLists.{IsFinding}
use Rattle.grind_theory.proofs.binders.sorts_of_binders.Given as goal

-- the binders that are left stand in the text, and what their sorts make is what all make
abbrev pub invariant-loop-binder : goal.invariant-loop-binder
invariant-loop-binder l = record {
  placed : All (IsPlacedBinder l.fn.heading.text.now) l.rest;
  finding : IsFinding l.signature (bound_sorts (bounds_in l.fn.heading)) (bound_sorts (bounds_of l.fn.heading.text.now l.rest)) l.done;
}

abbrev pub decreases-loop-binder : goal.decreases-loop-binder
decreases-loop-binder l = length l.rest
