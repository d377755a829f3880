use Rattle.std.proofs.Common.{refl, ap, ◌∙◌, List, ℕ}
use Rattle.grind_term_graph.specs.declared.node.Node.{Node}
use Rattle.grind_term_graph.specs.Placed.{placed}
use Rattle.grind_term_graph.proofs.Placing.{pair_of, placed-is, none-absent, placed-present, placed-absent}
use Rattle.grind_term_graph.proofs.table.store.Goals as goal

pub returns-in_err-place-clause-present : goal.returns-in_err-place-clause-present
returns-in_err-place-clause-present c =
    λ has. absurd (none-absent c.args.nodes.now.keys c.args.node c.in_err-place.ensures.absent has)

pub returns-clause-present : goal.returns-clause-present
returns-clause-present c =
    λ has. (refl, c.in_ok-place.ensures.keys ∙ ap (λ (d : List Node × ℕ). d.0) (placed-is c.args.nodes.now.keys c.args.node) ∙ placed-present c.args.nodes.now.keys c.args.node has)

pub returns-clause-appended : goal.returns-clause-appended
returns-clause-appended c =
    λ new. c.in_ok-place.ensures.keys ∙ ap (λ (d : List Node × ℕ). d.0) (placed-is c.args.nodes.now.keys c.args.node) ∙ placed-absent c.args.nodes.now.keys c.args.node new

pub returns-clause-placed : goal.returns-clause-placed
returns-clause-placed c =
    let nodes = c.args.nodes.now.keys in
    let keys = c.in_ok-place.ensures.keys ∙ ap (λ (d : List Node × ℕ). d.0) (placed-is nodes c.args.node) in
    let place = c.in_ok-place.ensures.index ∙ ap (λ (d : List Node × ℕ). d.1) (placed-is nodes c.args.node) in
    pair_of c.insert_full.new.self.keys (placed nodes c.args.node).0 c.in_ok-place.place (placed nodes c.args.node).1 keys place
