use Rattle.std.proofs.Common.{◌≤◌, ◌≡◌, All, List}
use Rattle.std.specs.Prelude.{map}
use Rattle.grind_tokens.specs.declared.tokens.Sym.TheVariants as symbols
use Rattle.grind_grammar.specs.Terms.{Bound}
use Rattle.grind_grammar.specs.Grammar.{joined}
use Rattle.grind_grammar.specs.Reading.{group}
use Rattle.grind_syntax.specs.Places.{bound_of, IsPlacedBound, ItemsSoFar}
use Rattle.grind_syntax.specs.Sources.{ahead, count_ahead}
use Rattle.grind_syntax.proofs.lists.groups.Given as goal

abbrev pub invariant-loop-binders : goal.invariant-loop-binders
invariant-loop-binders l = record {
  done : List (List Bound);
  so_far : ItemsSoFar group symbols.Comma (ahead l.source l.at) done (ahead l.source l.rest) (count_ahead l.source l.rest);
  all : map (bound_of l.source.text.now) l.binders ≡ joined done;
  kept : All (IsPlacedBound l.source.text.now) l.binders;
  behind : l.at ≤ l.rest;
}

abbrev pub decreases-loop-binders : goal.decreases-loop-binders
decreases-loop-binders l = count_ahead l.source l.rest
