use Rattle.std.proofs.Common.{◌≤◌, ◌≡◌, ◌+◌, ◌*◌, List, Option}
use Rattle.grind_grammar.specs.Terms.{Term}
use Rattle.grind_grammar.specs.Reading.{all_of}
use Rattle.grind_grammar.specs.Files.{depth_limit}
use Rattle.grind_syntax.specs.Places.{ItemsSoFar}
use Rattle.grind_syntax.specs.Levels.{place, level, ops_of}
use Rattle.grind_syntax.specs.Built.{term_given, terms_given, IsPlacedBuilt, IsPlacedParts, AreSidesPlaced, LeftSoFar, RightSoFar}
use Rattle.grind_syntax.specs.Sources.{ahead, count_ahead}
use Rattle.grind_syntax.proofs.terms.+terms.Given as goal

-- the room falls at each parenthesis, and within a room the level falls

abbrev pub decreases-inside : goal.decreases-inside
decreases-inside l = 40 * l.room

abbrev pub decreases-inside_parts : goal.decreases-inside_parts
decreases-inside_parts l = 40 * l.room

abbrev pub decreases-word : goal.decreases-word
decreases-word l = 40 * l.room + 1

abbrev pub decreases-atom : goal.decreases-atom
decreases-atom l = 40 * l.room + 2

abbrev pub decreases-read_level : goal.decreases-read_level
decreases-read_level l = 40 * l.room + 3 * place l.of + 3

abbrev pub decreases-read_parts : goal.decreases-read_parts
decreases-read_parts l = 40 * l.room + 3 * place l.of + 4

abbrev pub decreases-signed : goal.decreases-signed
decreases-signed l = 40 * l.room + 3 * place l.part + 4

abbrev pub decreases-left_joined : goal.decreases-left_joined
decreases-left_joined l = 40 * l.room + 3 * place l.part + 4

abbrev pub decreases-right_joined : goal.decreases-right_joined
decreases-right_joined l = 40 * l.room + 3 * place l.part + 4

abbrev pub decreases-once : goal.decreases-once
decreases-once l = 40 * l.room + 3 * place l.part + 4

abbrev pub invariant-left_joined-loop-op : goal.invariant-left_joined-loop-op
invariant-left_joined-loop-op l = record {
  so_far : LeftSoFar depth_limit (ops_of l.ops) (level l.part l.room) (ahead l.source l.at) (term_given l.source.text.now l.whole) (ahead l.source l.rest) (count_ahead l.source l.rest);
  placed : IsPlacedBuilt l.source.text.now l.whole;
  behind : l.at ≤ l.rest;
}

abbrev pub decreases-left_joined-loop-op : goal.decreases-left_joined-loop-op
decreases-left_joined-loop-op l = count_ahead l.source l.rest

abbrev pub invariant-right_joined-loop-sides : goal.invariant-right_joined-loop-sides
invariant-right_joined-loop-sides l = record {
  so_far : RightSoFar depth_limit (ops_of l.ops) (level l.part l.room) l.source.text.now (ahead l.source l.at) l.sides (ahead l.source l.rest) (count_ahead l.source l.rest);
  placed : AreSidesPlaced l.source.text.now l.sides;
  behind : l.at ≤ l.rest;
}

abbrev pub decreases-right_joined-loop-sides : goal.decreases-right_joined-loop-sides
decreases-right_joined-loop-sides l = count_ahead l.source l.rest

abbrev pub invariant-read_parts-loop-parts : goal.invariant-read_parts-loop-parts
invariant-read_parts-loop-parts l = record {
  done : List (Option Term);
  so_far : ItemsSoFar (level l.of l.room) l.separator (ahead l.source l.at) done (ahead l.source l.rest) (count_ahead l.source l.rest);
  all : terms_given l.source.text.now l.parts ≡ all_of done;
  placed : IsPlacedParts l.source.text.now l.parts;
  behind : l.at ≤ l.rest;
}

abbrev pub decreases-read_parts-loop-parts : goal.decreases-read_parts-loop-parts
decreases-read_parts-loop-parts l = count_ahead l.source l.rest
