use Rattle.std.proofs.Common.{[], List, sym, subst}
use Rattle.grind_classes.specs.Classes.{IsActive}
use Rattle.grind_schemes.specs.declared.scheme.Scheme.{Var}
use Rattle.grind_ematch.specs.declared.partial.Partial.{Partial}
use Rattle.grind_ematch.specs.Partials.{ListsOneOf}
use Rattle.grind_ematch.proofs.Along.{at_item}
use Rattle.grind_ematch.proofs.NodeLemmas.{nodes_first}
use Rattle.grind_ematch.proofs.walk.at_var.Goals as goal

pub loop-n-init : goal.loop-n-init
loop-n-init c =
    subst (λ (list : List Partial). ListsOneOf c.args.query.now (Var c.args.number) [] list) (sym c.new-found.ensures)
    (nodes_first c.args.query.now (Var c.args.number))

pub bind-requires-clause-active : goal.bind-requires-clause-active
bind-requires-clause-active c =
    at_item (IsActive c.args.query.now.scene.classes) c.args.nodes.now c.loop-n.n-index c.n-item.result c.requires.active
    c.loop-n-test.true c.n-item.is
