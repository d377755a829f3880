use Rattle.std.specs.Prelude.{◌≡◌, ◌++◌, length}
use Rattle.grind_cutsat_facts.proofs.facts.facts_copied.Given as goal

-- what is copied and what is left are the whole
abbrev pub invariant-loop-fact : goal.invariant-loop-fact
invariant-loop-fact l = l.copy ++ l.rest ≡ l.fn.facts

abbrev pub decreases-loop-fact : goal.decreases-loop-fact
decreases-loop-fact l = length l.rest
