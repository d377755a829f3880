use Rattle.std.specs.Prelude.{ℕ, ◌<◌}
use Rattle.grind_cutsat_assignment.specs.Given.{given}
use Rattle.grind_cutsat_units.specs.Posts.{NoCase}
use Rattle.grind_cutsat_terms.specs.Settling.{SettlesNode}
use Rattle.grind_cutsat_terms.proofs.units.settles.settles.Given as goal

abbrev pub invariant-loop-number : goal.invariant-loop-number
invariant-loop-number l = (n : ℕ) → n < l.number
    → NoCase l.view.facts.now (SettlesNode (given l.view.facts.now l.view.terms.now.nodes l.view.classes.now.lists) n)
