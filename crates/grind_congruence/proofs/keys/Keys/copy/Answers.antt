use Rattle.std.specs.Prelude.{◌≡◌, ℕ, ◌++◌, ◌∷◌, List}
use Rattle.std.specs.List.{IsDistinct}
use Rattle.std.specs.Map.{keys_of}
use Rattle.std.proofs.Common.{subst}
use Rattle.grind_term_graph.specs.declared.node.Node.{Node}
use Rattle.grind_term_graph.specs.Placed.{node_eq}
use Rattle.grind_congruence.specs.Table.{IsEntered}
use Rattle.grind_congruence.proofs.TableLemmas.{entered_next}
use Rattle.grind_congruence.proofs.keys.Keys.copy.Goals as goal

pub loop-key-preserved : goal.loop-key-preserved
loop-key-preserved c =
    let rest_is : c.loop-key.rest ≡ (c.in-Some.key.now, c.in-Some.n.now) ∷ c.in-Some.tail = c.in-Some.ensures.parts in
    let whole : c.loop-key.keys ++ (c.in-Some.key.now, c.in-Some.n.now) ∷ c.in-Some.tail ≡ c.args.self.now = rw rest_is at c.loop-key.invariant in
    let distinct : IsDistinct node_eq (keys_of c.args.self.now) =
    subst (λ (es : List (Node × ℕ)). IsDistinct node_eq (keys_of es)) c.self.view_is c.len-count.ensures.unique in
    let entered : IsEntered c.loop-key.keys c.in-Some.key.now c.in-Some.n.now c.in_ok-enter.field-0 c.enter.new.self =
    subst (λ (k : Node). IsEntered c.loop-key.keys k c.in-Some.n.now c.in_ok-enter.field-0 c.enter.new.self) c.in_ok-key.ensures.ok c.in_ok-enter.ensures.ok in
    entered_next c.loop-key.keys c.enter.new.self c.in-Some.tail c.args.self.now c.in-Some.key.now c.in-Some.n.now c.in_ok-enter.field-0 whole distinct entered
