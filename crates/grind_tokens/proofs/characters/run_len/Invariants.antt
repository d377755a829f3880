use Rattle.std.proofs.Common.{length}
use Rattle.grind_tokens.specs.Fronts.{IsOf}
use Rattle.grind_tokens.proofs.CharacterLemmas.{OnRun}
use Rattle.grind_tokens.proofs.characters.run_len.Given as goal

abbrev pub invariant-loop-character : goal.invariant-loop-character
invariant-loop-character l = OnRun (IsOf l.run) l.fn.text l.rest l.len

abbrev pub decreases-loop-character : goal.decreases-loop-character
decreases-loop-character l = length l.rest
