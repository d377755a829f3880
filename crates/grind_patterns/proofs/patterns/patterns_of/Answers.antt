use Rattle.std.proofs.Common.{List, All, subst}
use Rattle.grind_schemes.specs.declared.scheme.Scheme.{Scheme}
use Rattle.grind_schemes.specs.Theorems.{HoldsEach}
use Rattle.grind_patterns.specs.Patterns.{IsPatternTerm}
use Rattle.grind_patterns.specs.Walking.{ChosenOrNone}
use Rattle.grind_patterns.proofs.Along.{fails}
use Rattle.grind_patterns.proofs.BodyLemmas.{are_patterns, no_patterns, no_variables}
use Rattle.grind_patterns.proofs.FormedLemmas.{patterns_formed}
use Rattle.grind_patterns.proofs.patterns.patterns_of.Goals as goal

pub returns-then-not-are_pattern_terms-clause-patterns :
    goal.returns-then-not-are_pattern_terms-clause-patterns
returns-then-not-are_pattern_terms-clause-patterns c =
    let found = subst (ChosenOrNone c.args.body.now c.args.kind.now) c.in-Some.is c.in_ok-terms.ensures in
    let not_all = fails c.are_pattern_terms.result (All IsPatternTerm c.as_slice.result.now)
    c.are_pattern_terms.ensures c.if-not-are_pattern_terms.true in
    no_patterns c.args.vars.now c.args.body.now c.args.kind.now c.in-Some.terms found
    (subst (λ (terms : List Scheme). ¬ All IsPatternTerm terms) c.as_slice.ensures.value not_all)

pub returns-then-not-hold_each-clause-patterns : goal.returns-then-not-hold_each-clause-patterns
returns-then-not-hold_each-clause-patterns c =
    let found = subst (ChosenOrNone c.args.body.now c.args.kind.now) c.in-Some.is c.in_ok-terms.ensures in
    let not_all = fails c.hold_each.result (HoldsEach c.args.vars.now c.as_slice-2.result.now)
    c.hold_each.ensures c.if-not-hold_each.true in
    no_variables c.args.vars.now c.args.body.now c.args.kind.now c.in-Some.terms found
    (subst (λ (terms : List Scheme). ¬ HoldsEach c.args.vars.now terms) c.as_slice-2.ensures.value not_all)

pub returns-clause-patterns : goal.returns-clause-patterns
returns-clause-patterns c =
    let found = subst (ChosenOrNone c.args.body.now c.args.kind.now) c.in-Some.is c.in_ok-terms.ensures in
    let all = c.are_pattern_terms.ensures.0 c.if-not-are_pattern_terms.false in
    let each = c.hold_each.ensures.0 c.if-not-hold_each.false in
    are_patterns c.args.vars.now c.args.body.now c.args.kind.now c.in-Some.terms found
    (subst (All IsPatternTerm) c.as_slice.ensures.value all)
    (subst (HoldsEach c.args.vars.now) c.as_slice-2.ensures.value each)

pub returns-clause-variables : goal.returns-clause-variables
returns-clause-variables c =
    subst (HoldsEach c.args.vars.now) c.as_slice-2.ensures.value (c.hold_each.ensures.0 c.if-not-hold_each.false)

pub returns-clause-formed : goal.returns-clause-formed
returns-clause-formed c = λ body_formed kind_formed.
    let found = subst (ChosenOrNone c.args.body.now c.args.kind.now) c.in-Some.is c.in_ok-terms.ensures in
    let all = c.are_pattern_terms.ensures.0 c.if-not-are_pattern_terms.false in
    let each = c.hold_each.ensures.0 c.if-not-hold_each.false in
    patterns_formed c.args.vars.now c.args.body.now c.args.kind.now c.in-Some.terms
    (are_patterns c.args.vars.now c.args.body.now c.args.kind.now c.in-Some.terms found
    (subst (All IsPatternTerm) c.as_slice.ensures.value all)
    (subst (HoldsEach c.args.vars.now) c.as_slice-2.ensures.value each))
    body_formed kind_formed
