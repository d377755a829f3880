use Rattle.std.specs.Prelude.{◌≡◌}
use Rattle.std.proofs.Common.{ap}
use Rattle.grind_classes.specs.Classes.{AreTogether}
use Rattle.grind_congruence.specs.Congruence.{Congruence}
use Rattle.grind_congruence.specs.Edges.{Joins}
use Rattle.grind_congruence.specs.Forest.{IsTreeWay}
use Rattle.grind_congruence.proofs.ForestLemmas.{together_joined, joins_same}
use Rattle.grind_congruence.proofs.LegLemmas.{way_among}
use Rattle.grind_congruence.proofs.closure.Closure.path.Goals as goal

pub tree_way-requires-clause-joined : goal.tree_way-requires-clause-joined
tree_way-requires-clause-joined c =
    let lists_are : c.self.inside.classes.lists ≡ c.args.self.now.lists = ap (λ (t : Congruence). t.lists) c.self.view_is in
    let together : AreTogether c.self.inside.classes.lists c.args.a c.args.b = rw lists_are c.requires in
    together_joined c.self.inside.classes.lists c.self.inside.edges c.self.inside.forest c.args.a c.args.b c.self.invariant.0.present.classes c.self.invariant.1 together

pub tree_way-requires-clause-edges : goal.tree_way-requires-clause-edges
tree_way-requires-clause-edges c = rw c.as_slice.ensures.value c.self.invariant.1

way : (c : goal.In_ok-places) → IsTreeWay c.self.inside.edges c.self.inside.forest c.args.a c.args.b c.in_ok-places.places
way c = rw c.as_slice.ensures.value at c.in_ok-places.ensures

pub returns-clause-leads : goal.returns-clause-leads
returns-clause-leads c =
    let edges_are : c.self.inside.edges ≡ c.args.self.now.edges = ap (λ (t : Congruence). t.edges) c.self.view_is in
    rw (← edges_are) (way c).leads

pub returns-clause-apart : goal.returns-clause-apart
returns-clause-apart c = (way c).apart

pub returns-clause-among : goal.returns-clause-among
returns-clause-among c = λ k joins.
    let edges_are : c.self.inside.edges ≡ c.args.self.now.edges = ap (λ (t : Congruence). t.edges) c.self.view_is in
    let here : Joins c.self.inside.edges k c.args.a c.args.b = rw edges_are joins in
    way_among c.self.inside.edges c.self.inside.forest c.args.a c.args.b k c.in_ok-places.places (way c)
    (joins_same c.self.inside.edges c.self.inside.forest k c.args.a c.args.b c.self.invariant.1 here)
