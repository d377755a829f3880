use Rattle.std.specs.Prelude.{All, List}
use Rattle.std.proofs.Common.{sym, subst}
use Rattle.grind_congruence.specs.declared.edge.Edge.{Edge}
use Rattle.grind_goal_equations.specs.Given.{IsOfSource, HasPair, KeepsPairs}
use Rattle.grind_goal_equations.proofs.GivenLemmas.{sources_more, HasPair-last, KeepsPairs-more}
use Rattle.grind_goal_equations.proofs.given.push_pair.Goals as goal

pub returns-clause-sources : goal.returns-clause-sources
returns-clause-sources c =
    subst (λ (given : List Edge). All (IsOfSource c.args._goal.now) given) (sym c.in_ok-push.ensures.ok)
    (sources_more c.args._goal.now c.args.given.now c.args.fact.now c.in_ok-why.why c.requires.sources c.requires.fact c.requires.equal
    c.in_ok-why.ensures)

pub returns-clause-keeps : goal.returns-clause-keeps
returns-clause-keeps c =
    subst (λ (given : List Edge). KeepsPairs c.args.given.now given) (sym c.in_ok-push.ensures.ok)
    (KeepsPairs-more c.args.given.now
    (record { left = c.args.fact.now.reading.left; right = c.args.fact.now.reading.right; why = c.in_ok-why.why }))

pub returns-clause-pair : goal.returns-clause-pair
returns-clause-pair c =
    subst (λ (given : List Edge). HasPair given c.args.fact.now.reading.left c.args.fact.now.reading.right) (sym c.in_ok-push.ensures.ok)
    (HasPair-last c.args.given.now
    (record { left = c.args.fact.now.reading.left; right = c.args.fact.now.reading.right; why = c.in_ok-why.why }))
