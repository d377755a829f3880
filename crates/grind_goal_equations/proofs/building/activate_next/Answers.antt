use Rattle.std.proofs.Common.{arith}
use Rattle.grind_goal_equations.proofs.BuildingLemmas.{IsActiveBelow-step}
use Rattle.grind_goal_equations.proofs.building.activate_next.Goals as goal

pub activate-requires-clause-new : goal.activate-requires-clause-new
activate-requires-clause-new c = λ active. let low = c.requires.below.only c.args.n active in absurd (omega (arith, low))

pub returns : goal.returns
returns c =
    IsActiveBelow-step c.args.terms.now.nodes c.args.closure.now c.activate.new.self c.args.n c.requires.below c.in_ok-activate.ensures.active
    c.in_ok-activate.ensures.edges c.in_ok-activate.ensures.fits
