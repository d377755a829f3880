use Rattle.std.proofs.Common.{List, Option, subst}
use Rattle.grind_cutsat_units.specs.declared.types.Draft.{Draft}
use Rattle.grind_cutsat_units.specs.Posts.{IsFound, AtSomeFact}
use Rattle.grind_cutsat_terms.specs.Settling.{ApartGives, ApartAlone}
use Rattle.grind_cutsat_terms.proofs.SettleLemmas.{second_found}
use Rattle.grind_cutsat_terms.proofs.units.parts_an_equation.sides_parted.Goals as goal

pub returns : goal.returns
returns c =
    second_found c.args.view.now.facts.now c.args.view.now.next (AtSomeFact c.args.view.now.facts.now (ApartGives c.args.view.now.terms.now.nodes c.args.sides.now.left c.args.sides.now.right))
    (ApartAlone c.args.view.now.terms.now.nodes c.args.sides.now.left c.args.sides.now.right)
    (subst (λ (found : Option (List Draft)). IsFound c.args.view.now.facts.now c.args.view.now.next (AtSomeFact c.args.view.now.facts.now (ApartGives c.args.view.now.terms.now.nodes c.args.sides.now.left c.args.sides.now.right)) found) c.in_default.is c.in_ok-parted.ensures)
    c.in_ok-read.read c.in_ok-read.ensures
