use Rattle.std.proofs.Common.{ℕ, ◌<◌, List, Option, length, arith, subst}
use Rattle.grind_cutsat_assignment.specs.Given.{Given, given}
use Rattle.grind_cutsat_units.specs.declared.types.Draft.{Draft}
use Rattle.grind_cutsat_units.specs.Posts.{NoCase, IsFound}
use Rattle.grind_cutsat_terms.specs.Settling.{SettlesNode}
use Rattle.grind_cutsat_terms.proofs.PinchLemmas.{below_next}
use Rattle.grind_cutsat_terms.proofs.SettleLemmas.{none_settles, has_settled}
use Rattle.grind_cutsat_terms.proofs.units.settles.settles.Goals as goal

pub loop-number-preserved : goal.loop-number-preserved
loop-number-preserved c =
    let it : Given = given c.args.view.now.facts.now c.args.view.now.terms.now.nodes c.args.view.now.classes.now.lists in
    let none = subst (λ (found : Option (List Draft)). IsFound it.facts c.args.view.now.next (SettlesNode it c.new-node.result) found)
    c.in_default.is c.in_ok-found.ensures in
    below_next (λ (n : ℕ). NoCase it.facts (SettlesNode it n)) c.loop-number.number c.loop-number.invariant
    (subst (λ (n : ℕ). NoCase it.facts (SettlesNode it n)) c.new-node.ensures none)

pub returns-in-Some : goal.returns-in-Some
returns-in-Some c =
    let it : Given = given c.args.view.now.facts.now c.args.view.now.terms.now.nodes c.args.view.now.classes.now.lists in
    has_settled it c.args.view.now.next c.new-node.result c.in-Some.drafts
    (subst (λ (found : Option (List Draft)). IsFound it.facts c.args.view.now.next (SettlesNode it c.new-node.result) found)
    c.in-Some.is c.in_ok-found.ensures)

pub returns : goal.returns
returns c =
    none_settles (given c.args.view.now.facts.now c.args.view.now.terms.now.nodes c.args.view.now.classes.now.lists) c.requires
    (λ n less. c.loop-number.invariant n (omega (arith, less)))
