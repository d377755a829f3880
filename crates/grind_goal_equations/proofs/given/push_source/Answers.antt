use Rattle.std.specs.Prelude.{◌≡◌, false}
use Rattle.grind_goal_equations.specs.Facts.{equates}
use Rattle.grind_goal_equations.proofs.GivenLemmas.{Covers-difference, Covers-pair}
use Rattle.grind_goal_equations.proofs.given.push_source.Goals as goal

pub returns-then-not-is_equal-clause-covers : goal.returns-then-not-is_equal-clause-covers
returns-then-not-is_equal-clause-covers c =
    let differs : equates c.in-Some.fact ≡ false = cc in
    Covers-difference c.args.goal.now c.args.given.now c.in-Some.fact c.args.k c.in-Some.ensures.is c.in-Some.ensures.source differs

pub returns-clause-covers : goal.returns-clause-covers
returns-clause-covers c =
    Covers-pair c.args.goal.now c.push_pair.new.given c.in-Some.fact c.args.k c.in-Some.ensures.is c.in-Some.ensures.source
    c.in_ok-push_pair.ensures.pair
