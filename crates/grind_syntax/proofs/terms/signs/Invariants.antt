use Rattle.std.proofs.Common.{◌≡◌, ◌≤◌, ◌+◌, ℕ, Option}
use Rattle.grind_grammar.specs.declared.syntax.Unary.{Unary}
use Rattle.grind_grammar.specs.Terms.{Term}
use Rattle.grind_grammar.specs.Reading.{Reader, read_map, signed}
use Rattle.grind_syntax.specs.Built.{one_times}
use Rattle.grind_syntax.specs.Sources.{ahead, count_ahead}
use Rattle.grind_syntax.proofs.terms.signs.Given as goal

abbrev pub invariant-loop-left : goal.invariant-loop-left
invariant-loop-left l = record {
  so_far : (limit : ℕ) (op : Unary) (part : Reader (Option Term)) → signed limit l.sym op part (ahead l.source l.at)
      ≡ read_map (one_times limit op l.count) (signed limit l.sym op part (ahead l.source l.rest));
  behind : l.at ≤ l.rest;
  within : l.count + count_ahead l.source l.rest ≤ count_ahead l.source l.at;
}

abbrev pub decreases-loop-left : goal.decreases-loop-left
decreases-loop-left l = count_ahead l.source l.rest
