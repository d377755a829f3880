use Rattle.std.proofs.Common.{◌≡◌, ◌≤◌, length}
use Rattle.grind_grammar.specs.Lexemes.{lexemes}
use Rattle.grind_grammar.specs.Reading.{within}
use Rattle.grind_grammar.specs.Files.{depth_limit}
use Rattle.grind_syntax.specs.Sources.{ahead}
use Rattle.grind_syntax.proofs.pieces.is_within.Given as goal

abbrev pub invariant-loop-token : goal.invariant-loop-token
invariant-loop-token l = record {
  so_far : within depth_limit 0 (ahead l.piece 0) ≡ within depth_limit l.count (lexemes l.piece.text.now l.rest);
  few : l.count ≤ 200;
}

abbrev pub decreases-loop-token : goal.decreases-loop-token
decreases-loop-token l = length l.rest
