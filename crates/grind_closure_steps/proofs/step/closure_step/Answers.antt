use Rattle.std.specs.Prelude.{List, ℕ, IsNone}
use Rattle.std.proofs.Common.{subst, ◌∙◌, refl, rules}
use Rattle.grind_congruence.specs.Congruence.{IsAtRest}
use Rattle.grind_closure_steps.specs.Truths.{NothingLeft}
use Rattle.grind_closure_steps.specs.Clashes.{IsClashStep}
use Rattle.grind_closure_steps.proofs.StepLemmas.{clash_is_step, clash_is_no_rest}
use Rattle.grind_closure_steps.proofs.step.closure_step.Goals as goal

pub returns-in-Some-first_clash-clause-step : goal.returns-in-Some-first_clash-clause-step
returns-in-Some-first_clash-clause-step c =
    let lists = c.args.closure.now.lists in
    let none : NothingLeft c.args.known.now lists =
    subst (λ (ls : List (List ℕ)). NothingLeft c.args.known.now ls) c.classes.ensures.value (c.in_default.ensures.none refl) in
    let found : IsClashStep c.args.known.now lists c.in-Some-first_clash.step =
    subst (λ (ls : List (List ℕ)). IsClashStep c.args.known.now ls c.in-Some-first_clash.step)
    (c.classes-2.ensures.value ∙ c.in_ok-answer.ensures.lists) c.in-Some-first_clash.ensures.found in
    let empty : IsNone c.in_ok-answer.answer = search rules in
    let rest : IsAtRest lists c.args.known.now.terms.nodes = c.in_ok-answer.ensures.rest.0 empty in
    clash_is_step c.args.known.now lists c.in-Some-first_clash.step none rest found

pub returns-in-Some-first_clash-clause-rest : goal.returns-in-Some-first_clash-clause-rest
returns-in-Some-first_clash-clause-rest c =
    let lists = c.args.closure.now.lists in
    let found : IsClashStep c.args.known.now lists c.in-Some-first_clash.step =
    subst (λ (ls : List (List ℕ)). IsClashStep c.args.known.now ls c.in-Some-first_clash.step)
    (c.classes-2.ensures.value ∙ c.in_ok-answer.ensures.lists) c.in-Some-first_clash.ensures.found in
    clash_is_no_rest c.args.known.now lists c.in-Some-first_clash.step found
