use Rattle.std.proofs.Common.{ℕ, List, Option, sym, subst}
use Rattle.grind_cutsat_assignment.specs.Given.{given}
use Rattle.grind_cutsat_units.specs.declared.types.Draft.{Draft}
use Rattle.grind_cutsat_units.specs.Posts.{IsFound}
use Rattle.grind_cutsat_units.specs.Equations.{ReadsEquation}
use Rattle.grind_cutsat_units.specs.Cuts.{CutsBound}
use Rattle.grind_cutsat_evidence.specs.Pairs.{RestsOn}
use Rattle.grind_cutsat_evidence.proofs.LeftLemmas.{equation_rests, equation_left, cut_rests, cut_left, none_left_alone}
use Rattle.grind_cutsat_evidence.proofs.remaining.left_alone.Goals as goal

pub premise-requires : goal.premise-requires
premise-requires c =
    let has = subst (λ (found : Option (List Draft)). IsFound c.args.view.now.facts.now c.args.view.now.next (λ posts. (post : ℕ) × ReadsEquation (given c.args.view.now.facts.now c.args.view.now.terms.now.nodes c.args.view.now.classes.now.lists) post posts) found) c.in-Some.is c.in_ok-equation.ensures in
    subst (λ (drafts : List Draft). (post : ℕ) × RestsOn drafts post) (sym c.as_slice.ensures.value)
    (equation_rests (given c.args.view.now.facts.now c.args.view.now.terms.now.nodes c.args.view.now.classes.now.lists) c.args.view.now.next c.in-Some.drafts has)

pub returns-in-Some : goal.returns-in-Some
returns-in-Some c =
    let has = subst (λ (found : Option (List Draft)). IsFound c.args.view.now.facts.now c.args.view.now.next (λ posts. (post : ℕ) × ReadsEquation (given c.args.view.now.facts.now c.args.view.now.terms.now.nodes c.args.view.now.classes.now.lists) post posts) found) c.in-Some.is c.in_ok-equation.ensures in
    equation_left (given c.args.view.now.facts.now c.args.view.now.terms.now.nodes c.args.view.now.classes.now.lists) c.args.view.now.next c.in-Some.drafts has c.premise.result
    (subst (λ (drafts : List Draft). RestsOn drafts c.premise.result) c.as_slice.ensures.value c.premise.ensures)

pub premise-requires-in-Some-cut : goal.premise-requires-in-Some-cut
premise-requires-in-Some-cut c =
    let has = subst (λ (found : Option (List Draft)). IsFound c.args.view.now.facts.now c.args.view.now.next (λ posts. (post : ℕ) × CutsBound (given c.args.view.now.facts.now c.args.view.now.terms.now.nodes c.args.view.now.classes.now.lists) post posts) found) c.in-Some-cut.is c.in_ok-cut.ensures in
    subst (λ (drafts : List Draft). (post : ℕ) × RestsOn drafts post) (sym c.as_slice-in-Some-cut.ensures.value)
    (cut_rests (given c.args.view.now.facts.now c.args.view.now.terms.now.nodes c.args.view.now.classes.now.lists) c.args.view.now.next c.in-Some-cut.drafts has)

pub returns-in-Some-cut : goal.returns-in-Some-cut
returns-in-Some-cut c =
    let has = subst (λ (found : Option (List Draft)). IsFound c.args.view.now.facts.now c.args.view.now.next (λ posts. (post : ℕ) × CutsBound (given c.args.view.now.facts.now c.args.view.now.terms.now.nodes c.args.view.now.classes.now.lists) post posts) found) c.in-Some-cut.is c.in_ok-cut.ensures in
    cut_left (given c.args.view.now.facts.now c.args.view.now.terms.now.nodes c.args.view.now.classes.now.lists) c.args.view.now.next c.in-Some-cut.drafts has c.premise-in-Some-cut.result
    (subst (λ (drafts : List Draft). RestsOn drafts c.premise-in-Some-cut.result) c.as_slice-in-Some-cut.ensures.value c.premise-in-Some-cut.ensures)

pub returns : goal.returns
returns c =
    none_left_alone (given c.args.view.now.facts.now c.args.view.now.terms.now.nodes c.args.view.now.classes.now.lists)
    (subst (λ (found : Option (List Draft)). IsFound c.args.view.now.facts.now c.args.view.now.next (λ posts. (post : ℕ) × ReadsEquation (given c.args.view.now.facts.now c.args.view.now.terms.now.nodes c.args.view.now.classes.now.lists) post posts) found) c.in_default.is c.in_ok-equation.ensures)
    (subst (λ (found : Option (List Draft)). IsFound c.args.view.now.facts.now c.args.view.now.next (λ posts. (post : ℕ) × CutsBound (given c.args.view.now.facts.now c.args.view.now.terms.now.nodes c.args.view.now.classes.now.lists) post posts) found) c.in_default-cut.is c.in_ok-cut.ensures)
