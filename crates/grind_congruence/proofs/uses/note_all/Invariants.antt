use Rattle.std.specs.Prelude.{◌≡◌, ℕ, Contains, length, ◌⊎◌}
use Rattle.grind_congruence.specs.Table.{uses_of, KeepsUses}
use Rattle.grind_congruence.proofs.uses.note_all.Given as goal

abbrev pub invariant-loop-n : goal.invariant-loop-n
invariant-loop-n l = record {
  keeps : KeepsUses l.fn.uses l.uses;
  noted : (n : ℕ) → Contains l.fn.nodes n → Contains (uses_of l.uses n) l.place ⊎ Contains l.rest n;
  same : l.place ≡ l.fn.place;
}

abbrev pub decreases-loop-n : goal.decreases-loop-n
decreases-loop-n l = length l.rest
