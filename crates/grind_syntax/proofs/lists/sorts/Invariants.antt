use Rattle.std.proofs.Common.{◌≤◌, All}
use Rattle.std.specs.Prelude.{map}
use Rattle.grind_tokens.specs.declared.tokens.Sym.TheVariants as symbols
use Rattle.grind_grammar.specs.Keeps.{IsPlaced, name_of}
use Rattle.grind_grammar.specs.Reading.{sort_at}
use Rattle.grind_syntax.specs.Places.{ItemsSoFar}
use Rattle.grind_syntax.specs.Sources.{ahead, count_ahead}
use Rattle.grind_syntax.proofs.lists.sorts.Given as goal

abbrev pub invariant-loop-sort : goal.invariant-loop-sort
invariant-loop-sort l = record {
  so_far : ItemsSoFar sort_at symbols.Comma (ahead l.source l.at) (map (name_of l.source.text.now) l.sorts) (ahead l.source l.rest) (count_ahead l.source l.rest);
  kept : All (IsPlaced l.source.text.now) l.sorts;
  behind : l.at ≤ l.rest;
}

abbrev pub decreases-loop-sort : goal.decreases-loop-sort
decreases-loop-sort l = count_ahead l.source l.rest
