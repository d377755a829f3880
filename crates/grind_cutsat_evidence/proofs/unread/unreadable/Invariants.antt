use Rattle.std.proofs.Common.{length}
use Rattle.grind_cutsat_units.specs.Passing.{IsWithout}
use Rattle.grind_cutsat_evidence.specs.Unread.{IsUnread}
use Rattle.grind_cutsat_evidence.proofs.unread.unreadable.Given as goal

abbrev pub invariant-loop-fact : goal.invariant-loop-fact
invariant-loop-fact l = IsWithout (IsUnread l.view.terms.now.nodes) l.view.facts.now l.rest

abbrev pub decreases-loop-fact : goal.decreases-loop-fact
decreases-loop-fact l = length l.rest
