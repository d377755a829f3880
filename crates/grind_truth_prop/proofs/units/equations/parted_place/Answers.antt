use Rattle.std.proofs.Common.{sym, ◌∙◌}
use Rattle.indexmap.specs.IndexMap.{get}
use Rattle.grind_truth_prop.specs.Pairs.{couple_eq, IsPartedPlace}
use Rattle.grind_truth_prop.proofs.PairLemmas.{parted_along, parted_across, not_parted, if_found, is_none_of}
use Rattle.grind_truth_prop.proofs.units.equations.parted_place.Goals as goal

pub returns-in-Some-clause-found : goal.returns-in-Some-clause-found
returns-in-Some-clause-found c =
    parted_along c.args.known.now c.args.classes.now.lists (λ pair. get couple_eq c.args.parted.now pair) c.args.sides.now.left c.args.sides.now.right
    c.roots_of_pair-roots.result c.requires.partition c.requires.parted c.roots_of_pair-roots.ensures.left c.roots_of_pair-roots.ensures.right
    c.in-Some.place (sym c.place_of.ensures ∙ c.in-Some.is)

pub returns-clause-found : goal.returns-clause-found
returns-clause-found c =
    if_found c.place_of-2.result (IsPartedPlace c.args.known.now c.args.classes.now.lists c.args.sides.now.left c.args.sides.now.right)
    (λ place found.
    parted_across c.args.known.now c.args.classes.now.lists (λ pair. get couple_eq c.args.parted.now pair) c.args.sides.now.left c.args.sides.now.right
    c.roots_of_pair-roots.result c.requires.partition c.requires.parted c.roots_of_pair-roots.ensures.left c.roots_of_pair-roots.ensures.right
    place (sym c.place_of-2.ensures ∙ found))

pub returns-clause-none : goal.returns-clause-none
returns-clause-none c = λ none.
    not_parted c.args.known.now c.args.classes.now.lists (λ pair. get couple_eq c.args.parted.now pair) c.args.sides.now.left c.args.sides.now.right
    c.roots_of_pair-roots.result c.requires.partition c.requires.parted c.roots_of_pair-roots.ensures.left c.roots_of_pair-roots.ensures.right
    (sym c.place_of.ensures ∙ c.in_default.is) (sym c.place_of-2.ensures ∙ is_none_of c.place_of-2.result none)
