use Rattle.std.proofs.Common.{All, length}
use Rattle.grind_grammar.specs.Keeps.{IsPlaced}
use Rattle.grind_theory.specs.Kept.{names_of}
use Rattle.grind_theory.proofs.SortLists.{IsFinding}
use Rattle.grind_theory.proofs.sorts.find_sorts.Given as goal

-- the names that are left stand in the text, and what they make is what all make
abbrev pub invariant-loop-name : goal.invariant-loop-name
invariant-loop-name l = record {
  placed : All (IsPlaced l.text) l.rest;
  finding : IsFinding l.signature (names_of l.text l.fn.names) (names_of l.text l.rest) l.done;
}

abbrev pub decreases-loop-name : goal.decreases-loop-name
decreases-loop-name l = length l.rest
