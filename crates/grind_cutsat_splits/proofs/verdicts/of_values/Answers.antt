use Rattle.std.proofs.Common.{List, All, sym, subst}
use Rattle.grind_claims.specs.Claims.{IsFormed}
use Rattle.grind_cutsat_facts.specs.declared.facts.Fact.{Fact}
use Rattle.grind_cutsat_assignment.specs.declared.outcome.Chosen.{Chosen}
use Rattle.grind_cutsat_assignment.specs.Assignments.{chosen_value}
use Rattle.grind_cutsat_assignment.specs.Given.{given}
use Rattle.grind_cutsat_splits.specs.Judging.{PartsOnly, AreFit, EachFact}
use Rattle.grind_cutsat_splits.proofs.VerdictLemmas.{unfit_verdict, all_fit, split_verdict, list_verdict}
use Rattle.grind_cutsat_splits.proofs.verdicts.of_values.Goals as goal

pub first_unfit-requires : goal.first_unfit-requires
first_unfit-requires c =
    subst (λ (facts : List Fact). All (λ (fact : Fact). IsFormed c.args.view.now.terms.now.nodes fact.claim) facts)
    (sym c.as_slice-2.ensures.value) c.requires.fits.formed

pub returns-in-Some : goal.returns-in-Some
returns-in-Some c =
    unfit_verdict (given c.args.view.now.facts.now c.args.view.now.terms.now.nodes c.args.view.now.classes.now.lists) c.requires.ordered c.args.list c.requires.chosen c.as_slice-2.result.now c.as_slice.result.now
    c.as_slice-2.ensures.value c.as_slice.ensures.value c.in_ok-unfit.unfit c.in-Some.post c.in_ok-unfit.ensures c.in-Some.is

pub first_split-requires-clause-formed : goal.first_split-requires-clause-formed
first_split-requires-clause-formed c =
    subst (λ (facts : List Fact). All (λ (fact : Fact). IsFormed c.args.view.now.terms.now.nodes fact.claim) facts)
    (sym c.as_slice-3.ensures.value) c.requires.fits.formed

pub first_split-requires-clause-fit : goal.first_split-requires-clause-fit
first_split-requires-clause-fit c =
    let fit = all_fit (given c.args.view.now.facts.now c.args.view.now.terms.now.nodes c.args.view.now.classes.now.lists) c.requires.ordered c.args.list c.requires.chosen c.as_slice-2.result.now c.as_slice.result.now
    c.as_slice-2.ensures.value c.as_slice.ensures.value c.in_ok-unfit.unfit c.in_ok-unfit.ensures c.in_default.is in
    subst (λ (facts : List Fact). EachFact facts (PartsOnly c.args.view.now.terms.now.nodes
    (AreFit c.args.view.now.terms.now.nodes (chosen_value c.as_slice.result.now)))) (sym c.as_slice-3.ensures.value)
    (subst (λ (list : List Chosen). EachFact c.args.view.now.facts.now (PartsOnly c.args.view.now.terms.now.nodes
    (AreFit c.args.view.now.terms.now.nodes (chosen_value list)))) (sym c.as_slice.ensures.value) fit)

pub returns-in-Some-split : goal.returns-in-Some-split
returns-in-Some-split c =
    let fit = all_fit (given c.args.view.now.facts.now c.args.view.now.terms.now.nodes c.args.view.now.classes.now.lists) c.requires.ordered c.args.list c.requires.chosen c.as_slice-2.result.now c.as_slice.result.now
    c.as_slice-2.ensures.value c.as_slice.ensures.value c.in_ok-unfit.unfit c.in_ok-unfit.ensures c.in_default.is in
    split_verdict (given c.args.view.now.facts.now c.args.view.now.terms.now.nodes c.args.view.now.classes.now.lists) c.requires.ordered c.args.list c.requires.chosen c.as_slice-3.result.now c.as_slice.result.now
    c.as_slice-3.ensures.value c.as_slice.ensures.value c.in_ok-split.split c.in-Some-split.form c.in_ok-split.ensures
    c.in-Some-split.is fit

pub returns : goal.returns
returns c =
    let fit = all_fit (given c.args.view.now.facts.now c.args.view.now.terms.now.nodes c.args.view.now.classes.now.lists) c.requires.ordered c.args.list c.requires.chosen c.as_slice-2.result.now c.as_slice.result.now
    c.as_slice-2.ensures.value c.as_slice.ensures.value c.in_ok-unfit.unfit c.in_ok-unfit.ensures c.in_default.is in
    list_verdict (given c.args.view.now.facts.now c.args.view.now.terms.now.nodes c.args.view.now.classes.now.lists) c.requires.ordered c.args.list c.requires.chosen c.as_slice-3.result.now c.as_slice.result.now
    c.as_slice-3.ensures.value c.as_slice.ensures.value c.in_ok-split.split c.in_ok-split.ensures c.in_default-split.is fit
