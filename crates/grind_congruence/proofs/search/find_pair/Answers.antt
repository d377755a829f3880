use Rattle.grind_congruence.specs.Searching.{HasNoPartner}
use Rattle.std.specs.Prelude.{length, refl}
use Rattle.std.proofs.Common.{arith}
use Rattle.grind_congruence.proofs.SearchLemmas.{below_next, rest_of_none}
use Rattle.grind_congruence.proofs.search.find_pair.Goals as goal

pub loop-number-preserved : goal.loop-number-preserved
loop-number-preserved c =
    below_next (HasNoPartner c.args.classes.now.lists c.args.terms.now.nodes) c.loop-number.number c.loop-number.invariant
    (rw c.new-left.ensures at (c.in_default.ensures.none refl))

pub returns-clause-none : goal.returns-clause-none
returns-clause-none c = (
  λ _. rest_of_none c.args.classes.now.lists c.args.terms.now.nodes (length c.args.terms.now.nodes) c.requires.partition c.requires.fits refl
      (λ a less. c.loop-number.invariant a (omega (arith, less))),
  λ _. refl,
)
