use Rattle.std.proofs.Common.{◌≡◌, ℕ, ◌<◌, List, All, length, subst}
use Rattle.grind_linear_forms.specs.Readings.{linear}
use Rattle.grind_reach.specs.Readings.{found}
use Rattle.grind_cutsat_assignment.specs.Given.{given}
use Rattle.grind_cutsat_assignment.proofs.ReadingLemmas.{read_among}
use Rattle.grind_cutsat_assignment.proofs.readings.readings_of.Goals as goal

pub returns : goal.returns
returns c =
    read_among (given c.args.facts.now c.args.terms.now.nodes c.args.classes.now.lists) c.add_active.new.ids c.add_differing.new.ids
    c.in_ok-forms.forms c.requires.within c.in_ok-add_differing.ensures.keeps c.in_ok-add_active.ensures.has
    c.in_ok-add_differing.ensures.has
    (subst (λ (ids : List ℕ). All (λ id. id < length c.in_ok-forms.forms) ids) c.as_slice.ensures.value c.in_ok-forms.ensures.within)
    (subst (λ (ids : List ℕ). All (λ id. found c.in_ok-forms.forms id ≡ linear c.args.terms.now.nodes id) ids) c.as_slice.ensures.value
    c.in_ok-forms.ensures.read)
