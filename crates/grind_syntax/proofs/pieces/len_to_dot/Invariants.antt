use Rattle.std.proofs.Common.{◌≡◌, ◌++◌, length, List}
use Rattle.grind_tokens.specs.declared.tokens.Token.{Token}
use Rattle.grind_syntax.specs.Pieces.{AreUndotted}
use Rattle.grind_syntax.proofs.pieces.len_to_dot.Given as goal

abbrev pub invariant-loop-token : goal.invariant-loop-token
invariant-loop-token l = record {
  piece : List Token;
  whole : l.tokens ≡ piece ++ l.rest;
  counted : length piece ≡ l.count;
  undotted : AreUndotted piece;
}

abbrev pub decreases-loop-token : goal.decreases-loop-token
decreases-loop-token l = length l.rest
