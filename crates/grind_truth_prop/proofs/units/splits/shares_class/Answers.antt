use Rattle.std.specs.Prelude.{◌<◌, ◌≤◌, List, ℕ, length, refl}
use Rattle.std.proofs.Common.{subst}
use Rattle.std.proofs.lemmas.Bool.{ltb-true, ltb-false}
use Rattle.grind_truth_prop.specs.Splits.{CanBeTried}
use Rattle.grind_term_graph.specs.declared.node.Node.{Node}
use Rattle.grind_truth_prop.proofs.TermLemmas.{and_some, other_together, alone_together}
use Rattle.grind_truth_prop.proofs.units.splits.shares_class.Goals as goal

pub node-requires : goal.node-requires
node-requires c = c.requires.fits.within c.args.n c.requires.unknown.0

pub returns-clause-yes : goal.returns-clause-yes
returns-clause-yes c = λ long. record {
  unknown = c.requires.unknown;
  kind = and_some _ (λ (it : Node). CanBeTried it.head) c.node.result.now c.node.ensures.value (c.if-not-can_be_tried.ensures.0 refl);
  shared = other_together c.args.classes.now.lists c.root.result c.args.n c.requires.partition c.root.ensures.within
      (subst (λ (ms : List ℕ). 1 < length ms) c.members.ensures.value (ltb-true 1 (length c.members.result.now) long));
}

pub returns-clause-no : goal.returns-clause-no
returns-clause-no c = λ short unknown kind other together.
    alone_together c.args.classes.now.lists c.root.result c.args.n other c.requires.partition c.root.ensures.within
    (subst (λ (ms : List ℕ). length ms ≤ 1) c.members.ensures.value (ltb-false 1 (length c.members.result.now) short)) together
