use Rattle.std.specs.Prelude.{refl}
use Rattle.std.proofs.Common.{sym, ◌∙◌}
use Rattle.std.proofs.lemmas.Bool.{false≢true}
use Rattle.indexmap.specs.IndexMap.{get}
use Rattle.grind_truth_prop.specs.Pairs.{couple_eq}
use Rattle.grind_truth_prop.proofs.PairLemmas.{found_stands, none_stands}
use Rattle.grind_truth_prop.proofs.pairs.stands_in.Goals as goal

pub returns-in-Some : goal.returns-in-Some
returns-in-Some c = (
  λ _. found_stands (λ pair. get couple_eq c.args.places.now pair) c.args._pairs.now c.args.pair.now c.in-Some.field-0 c.requires
      (sym c.place_of.ensures ∙ c.in-Some.is),
  λ _. refl,
)

pub returns-in-None : goal.returns-in-None
returns-in-None c = (
  λ e. absurd (false≢true e),
  λ has. absurd (none_stands (λ pair. get couple_eq c.args.places.now pair) c.args._pairs.now c.args.pair.now c.requires
      (sym c.place_of.ensures ∙ c.in-None.is) has),
)
