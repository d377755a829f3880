use Rattle.std.proofs.Common.{◌↔◌, length}
use Rattle.grind_cutsat_facts.specs.Covering.{HasCover}
use Rattle.grind_cutsat_facts.proofs.covering.has_cover.Given as goal

-- what is left covers the form exactly where the whole does
abbrev pub invariant-loop-fact : goal.invariant-loop-fact
invariant-loop-fact l = HasCover l.rest l.form ↔ HasCover l.fn.facts l.form

abbrev pub decreases-loop-fact : goal.decreases-loop-fact
decreases-loop-fact l = length l.rest
