use Rattle.std.proofs.Common.{◌≡◌, ◌+◌, All, length, map}
use Rattle.grind_theory.specs.Theories.{AreDeclared}
use Rattle.grind_theory.specs.Kept.{declaration_of, IsPlacedDecl, HasLabels}
use Rattle.grind_theory.specs.Building.{state_at}
use Rattle.grind_theory.proofs.Underway.{IsUnderway}
use Rattle.grind_theory.proofs.elaboration.elaborate.Given as goal

-- what the declarations that are left lead to all lead to, and what is declared so far is
abbrev pub invariant-loop-decl : goal.invariant-loop-decl
invariant-loop-decl l = record {
  placed : All (IsPlacedDecl l.text) l.rest;
  labels : All (λ decl. HasLabels (declaration_of l.text decl)) l.rest;
  count : l.number + length l.rest ≡ length l.decls;
  underway : IsUnderway (map (declaration_of l.text) l.decls) (map (declaration_of l.text) l.rest) (state_at l.building) l.number;
  declared : AreDeclared l.building.signature l.building.goals;
}

abbrev pub decreases-loop-decl : goal.decreases-loop-decl
decreases-loop-decl l = length l.rest
