use Rattle.std.specs.Prelude.{◌≡◌, ℕ, None, Some, Contains, List}
use Rattle.std.specs.Map.{lookup}
use Rattle.std.proofs.Common.{sym, subst}
use Rattle.grind_term_graph.specs.declared.node.Node.{Node}
use Rattle.grind_term_graph.specs.Placed.{node_eq}
use Rattle.grind_congruence.proofs.TableLemmas.{found_entry, none_entry}
use Rattle.grind_congruence.proofs.keys.Keys.find.Goals as goal

pub returns-in-Some : goal.returns-in-Some
returns-in-Some c =
    let has : lookup (node_eq c.args.key.now) c.self.inside.map.entries ≡ Some c.in-Some.m.now = sym c.in-Some.ensures.value in
    subst (λ (es : List (Node × ℕ)). Contains es (c.args.key.now, c.in-Some.m.now)) c.self.view_is
    (found_entry c.self.inside.map.entries c.args.key.now c.in-Some.m.now has)

pub returns-in-None : goal.returns-in-None
returns-in-None c = λ m has.
    let none : lookup (node_eq c.args.key.now) c.self.inside.map.entries ≡ None = sym c.in-None.ensures.value in
    none_entry c.self.inside.map.entries c.args.key.now m none
    (subst (λ (es : List (Node × ℕ)). Contains es (c.args.key.now, m)) (sym c.self.view_is) has)
