use Rattle.std.specs.Prelude.{◌≡◌, ℕ, List, slice_get}
use Rattle.std.proofs.Common.{ap, arith, ◌∙◌, Ok, Some}
use Rattle.std.proofs.lemmas.Bool.{false≢true}
use Rattle.grind_term_graph.specs.declared.node.Node.{Node}
use Rattle.grind_term_graph.specs.Terms.{Terms}
use Rattle.grind_term_graph.specs.Shape.{WellShaped}
use Rattle.grind_term_graph.specs.Placed.{placed}
use Rattle.grind_term_graph.proofs.Tables.{IsTermTable-placed, number_at}
use Rattle.grind_term_graph.proofs.Placing.{Contains-slice_get}
use Rattle.grind_term_graph.proofs.table.TermTable.intern.Goals as goal

pub invariant_of-self-then-len-self : goal.invariant_of-self-then-len-self
invariant_of-self-then-len-self c =
    let nodes_are : c.self.inside.nodes.keys ≡ c.args.self.now.nodes = ap (λ (t : Terms). t.nodes) c.self.view_is in
    let new_is : c.store.new.nodes.keys ≡ (placed c.self.inside.nodes.keys c.args.node).0 =
    ap (λ (p : List Node × ℕ). p.0) c.in_ok-place.ensures.placed in
    let shaped : WellShaped c.self.inside.nodes.keys c.args.node = rw nodes_are c.requires in
    rw new_is
    (IsTermTable-placed c.self.inside.nodes.keys c.self.inside.limit c.args.node c.self.invariant (omega arith) shaped)

pub returns-then-len-self-clause-number : goal.returns-then-len-self-clause-number
returns-then-len-self-clause-number c = λ id e.
    let nodes_are : c.self.inside.nodes.keys ≡ c.args.self.now.nodes = ap (λ (t : Terms). t.nodes) c.self.view_is in
    let stands : slice_get c.self.inside.nodes.keys id ≡ Some c.args.node = rw nodes_are e in
    ap Ok (c.new.ensures ∙ number_at c.self.inside.nodes.keys c.store.new.nodes.keys c.in_ok-place.place id c.args.node
    c.self.invariant.0 c.in_ok-place.ensures.placed stands)

pub returns-in-Some-clause-number : goal.returns-in-Some-clause-number
returns-in-Some-clause-number c = λ id e.
    let nodes_are : c.self.inside.nodes.keys ≡ c.args.self.now.nodes = ap (λ (t : Terms). t.nodes) c.self.view_is in
    let stands : slice_get c.self.inside.nodes.keys id ≡ Some c.args.node = rw nodes_are e in
    ap Ok (c.new-in-Some.ensures ∙ number_at c.self.inside.nodes.keys c.self.inside.nodes.keys c.in-Some.place id c.args.node
    c.self.invariant.0 c.in-Some.ensures.placed stands)

pub returns-clause-number : goal.returns-clause-number
returns-clause-number c = λ id e.
    let nodes_are : c.self.inside.nodes.keys ≡ c.args.self.now.nodes = ap (λ (t : Terms). t.nodes) c.self.view_is in
    let stands : slice_get c.self.inside.nodes.keys id ≡ Some c.args.node = rw nodes_are e in
    absurd (false≢true (c.in-None.ensures.present.1 (Contains-slice_get c.self.inside.nodes.keys c.args.node id stands)))
