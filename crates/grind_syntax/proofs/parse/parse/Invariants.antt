use Rattle.std.proofs.Common.{◌+◌, ◌<◌, ◌^◌, length, All}
use Rattle.grind_grammar.specs.Lexemes.{lexemes}
use Rattle.grind_syntax.specs.Places.{Placed}
use Rattle.grind_syntax.specs.KeptDeclarations.{IsPlacedDeclaration}
use Rattle.grind_syntax.specs.Refusals.{FileSoFar}
use Rattle.grind_syntax.proofs.parse.parse.Given as goal

abbrev pub invariant-loop-rest : goal.invariant-loop-rest
invariant-loop-rest l = record {
  so_far : FileSoFar l.text (lexemes l.text l.tokens) l.decls (lexemes l.text l.rest) l.count;
  kept : All (IsPlacedDeclaration l.text) l.decls;
  placed : Placed l.text l.rest;
  counts : l.count + length l.rest < 2 ^ 32;
}

abbrev pub decreases-loop-rest : goal.decreases-loop-rest
decreases-loop-rest l = length l.rest
