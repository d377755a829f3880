use Rattle.std.proofs.Common.{ℕ, List, Option, sym, subst}
use Rattle.grind_cutsat_assignment.specs.Given.{given}
use Rattle.grind_cutsat_units.specs.declared.types.Draft.{Draft}
use Rattle.grind_cutsat_units.specs.Posts.{IsFound}
use Rattle.grind_cutsat_units.specs.Cuts.{ResolvesBounds}
use Rattle.grind_cutsat_evidence.specs.Pairs.{RestsOnTwo}
use Rattle.grind_cutsat_evidence.proofs.LeftLemmas.{pair_rests, pair_left, none_left_together}
use Rattle.grind_cutsat_evidence.proofs.remaining.left_together.Goals as goal

pub two_premises-requires : goal.two_premises-requires
two_premises-requires c =
    let has = subst (λ (found : Option (List Draft)). IsFound c.args.view.now.facts.now c.args.view.now.next (λ posts. (above : ℕ) × (below : ℕ) × ResolvesBounds (given c.args.view.now.facts.now c.args.view.now.terms.now.nodes c.args.view.now.classes.now.lists) above below posts) found) c.in-Some.is c.in_ok-resolved.ensures in
    subst (λ (drafts : List Draft). (first : ℕ) × (second : ℕ) × RestsOnTwo drafts first second) (sym c.as_slice.ensures.value)
    (pair_rests (given c.args.view.now.facts.now c.args.view.now.terms.now.nodes c.args.view.now.classes.now.lists) c.args.view.now.next c.in-Some.drafts has)

pub returns-in-Some : goal.returns-in-Some
returns-in-Some c =
    let has = subst (λ (found : Option (List Draft)). IsFound c.args.view.now.facts.now c.args.view.now.next (λ posts. (above : ℕ) × (below : ℕ) × ResolvesBounds (given c.args.view.now.facts.now c.args.view.now.terms.now.nodes c.args.view.now.classes.now.lists) above below posts) found) c.in-Some.is c.in_ok-resolved.ensures in
    pair_left (given c.args.view.now.facts.now c.args.view.now.terms.now.nodes c.args.view.now.classes.now.lists) c.args.view.now.next c.in-Some.drafts has c.two_premises.result.first c.two_premises.result.second
    (subst (λ (drafts : List Draft). RestsOnTwo drafts c.two_premises.result.first c.two_premises.result.second)
    c.as_slice.ensures.value c.two_premises.ensures)

pub returns : goal.returns
returns c =
    none_left_together (given c.args.view.now.facts.now c.args.view.now.terms.now.nodes c.args.view.now.classes.now.lists)
    (subst (λ (found : Option (List Draft)). IsFound c.args.view.now.facts.now c.args.view.now.next (λ posts. (above : ℕ) × (below : ℕ) × ResolvesBounds (given c.args.view.now.facts.now c.args.view.now.terms.now.nodes c.args.view.now.classes.now.lists) above below posts) found) c.in_default.is c.in_ok-resolved.ensures)
