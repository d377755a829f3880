use Rattle.std.proofs.Common.{◌≡◌, All, length}
use Rattle.grind_theory.specs.Headings.{bounds_in}
use Rattle.grind_theory.specs.Kept.{bounds_of, IsPlacedBinder}
use Rattle.grind_theory.proofs.BinderLists.{IsScoping}
use Rattle.grind_theory.proofs.binders.read_scope.Given as goal

-- the binders that are left stand in the text, and those before are in the scope
abbrev pub invariant-loop-binder : goal.invariant-loop-binder
invariant-loop-binder l = record {
  placed : All (IsPlacedBinder l.fn.heading.text.now) l.rest;
  kind : l.scope.kind ≡ l.fn.kind;
  scoping : IsScoping l.signature (bounds_in l.fn.heading) (bounds_of l.fn.heading.text.now l.rest) l.scope.binders;
}

abbrev pub decreases-loop-binder : goal.decreases-loop-binder
decreases-loop-binder l = length l.rest
