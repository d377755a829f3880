use Rattle.std.proofs.Common.{◌≤◌, ◌≡◌, ◌++◌, All}
use Rattle.std.specs.Prelude.{map}
use Rattle.grind_grammar.specs.Keeps.{IsPlaced, name_of}
use Rattle.grind_grammar.specs.Reading as reading
use Rattle.grind_syntax.specs.Sources.{ahead, count_ahead}
use Rattle.grind_syntax.proofs.lists.names.Given as goal

abbrev pub invariant-loop-name : goal.invariant-loop-name
invariant-loop-name l = record {
  so_far : (reading.names (ahead l.source l.at)).0 ≡ map (name_of l.source.text.now) l.names ++ (reading.names (ahead l.source l.rest)).0;
  further : (reading.names (ahead l.source l.at)).1 ≡ (reading.names (ahead l.source l.rest)).1;
  kept : All (IsPlaced l.source.text.now) l.names;
  behind : l.at ≤ l.rest;
}

abbrev pub decreases-loop-name : goal.decreases-loop-name
decreases-loop-name l = count_ahead l.source l.rest
