use Rattle.std.specs.Prelude.{◌≡◌, slice_get}
use Rattle.std.proofs.Common.{ap, ◌∙◌, Some}
use Rattle.std.proofs.lemmas.Bool.{false≢true}
use Rattle.grind_term_graph.specs.Terms.{Terms}
use Rattle.grind_term_graph.proofs.Placing.{Contains-slice_get}
use Rattle.grind_term_graph.proofs.Tables.{number_at}
use Rattle.grind_term_graph.proofs.table.TermTable.find.Goals as goal

pub returns-in-Some-clause-number : goal.returns-in-Some-clause-number
returns-in-Some-clause-number c = λ id e.
    let nodes_are : c.self.inside.nodes.keys ≡ c.args.self.now.nodes = ap (λ (t : Terms). t.nodes) c.self.view_is in
    let stands : slice_get c.self.inside.nodes.keys id ≡ Some c.args.node.now = rw nodes_are e in
    ap Some (c.new.ensures ∙ number_at c.self.inside.nodes.keys c.self.inside.nodes.keys c.in-Some.place id c.args.node.now
    c.self.invariant.0 c.in-Some.ensures.placed stands)

pub returns-in-None-clause-number : goal.returns-in-None-clause-number
returns-in-None-clause-number c = λ id e.
    let nodes_are : c.self.inside.nodes.keys ≡ c.args.self.now.nodes = ap (λ (t : Terms). t.nodes) c.self.view_is in
    let stands : slice_get c.self.inside.nodes.keys id ≡ Some c.args.node.now = rw nodes_are e in
    absurd (false≢true (c.in-None.ensures.present.1 (Contains-slice_get c.self.inside.nodes.keys c.args.node.now id stands)))
