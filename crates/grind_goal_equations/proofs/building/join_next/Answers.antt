use Rattle.std.specs.Prelude.{ℕ, List, Option, Some, IfSome, IsNone}
use Rattle.std.proofs.Common.{sym, subst, rules}
use Rattle.grind_classes.specs.Classes.{AreTogether}
use Rattle.grind_congruence.specs.declared.edge.Found.{Found}
use Rattle.grind_congruence.specs.Congruence.{AreCongruent, IsAtRest}
use Rattle.grind_goal_equations.proofs.BuildingLemmas.{IsBuilt-same, KeepsTogether-same, IsStepped-more}
use Rattle.grind_goal_equations.proofs.building.join_next.Goals as goal

pub returns-in_default : goal.returns-in_default
returns-in_default c =
    let none : IsNone c.in_ok-answer.answer = search rules in
    let rest : IsAtRest c.args.closure.now.lists c.args.terms.now.nodes = c.in_ok-answer.ensures.rest.0 none in (
      IsBuilt-same c.args.terms.now.nodes c.args.given.now c.args.closure.now c.step.new.self c.requires.built
          c.in_ok-answer.ensures.lists c.in_ok-answer.ensures.edges c.in_ok-answer.ensures.fits,
      KeepsTogether-same c.args.closure.now c.step.new.self c.in_ok-answer.ensures.lists,
      record {
        rest = subst (λ (ls : List (List ℕ)). IsAtRest ls c.args.terms.now.nodes) (sym c.in_ok-answer.ensures.lists) rest;
      },
    )

pub join_found-requires-clause-built : goal.join_found-requires-clause-built
join_found-requires-clause-built c =
    IsBuilt-same c.args.terms.now.nodes c.args.given.now c.args.closure.now c.step.new.self c.requires.built
    c.in_ok-answer.ensures.lists c.in_ok-answer.ensures.edges c.in_ok-answer.ensures.fits

pub join_found-requires-clause-apart : goal.join_found-requires-clause-apart
join_found-requires-clause-apart c =
    let apart : IfSome (Some c.in-Some.found) (λ (found : Found). AreTogether c.args.closure.now.lists found.left found.right → ⊥) =
    subst (λ (answer : Option Found). IfSome answer (λ (found : Found). AreTogether c.args.closure.now.lists found.left found.right → ⊥))
    c.in-Some.is c.in_ok-answer.ensures.apart in
    subst (λ (ls : List (List ℕ)). AreTogether ls c.in-Some.found.left c.in-Some.found.right → ⊥) (sym c.in_ok-answer.ensures.lists) apart

pub join_found-requires-clause-congruent : goal.join_found-requires-clause-congruent
join_found-requires-clause-congruent c =
    let congruent : IfSome (Some c.in-Some.found) (λ (found : Found). AreCongruent c.args.closure.now.lists c.args.terms.now.nodes found.left found.right) =
    subst (λ (answer : Option Found). IfSome answer
    (λ (found : Found). AreCongruent c.args.closure.now.lists c.args.terms.now.nodes found.left found.right))
    c.in-Some.is c.in_ok-answer.ensures.congruent in
    subst (λ (ls : List (List ℕ)). AreCongruent ls c.args.terms.now.nodes c.in-Some.found.left c.in-Some.found.right)
    (sym c.in_ok-answer.ensures.lists) congruent

pub returns : goal.returns
returns c =
    IsStepped-more c.args.terms.now.nodes c.args.given.now c.args.closure.now c.step.new.self c.join_found.new.closure c.in-Some.found.left
    c.in-Some.found.right c.in_ok-answer.ensures.lists c.in_ok-join_found.ensures
