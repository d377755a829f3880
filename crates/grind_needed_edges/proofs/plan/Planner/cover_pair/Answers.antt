use Rattle.std.specs.Prelude.{◌≡◌, ℕ, List}
use Rattle.std.specs.List.{AllZip}
use Rattle.std.proofs.Common.{sym, ap, ◌∙◌, subst}
use Rattle.std.proofs.lemmas.Option.{same_Some}
use Rattle.grind_term_graph.specs.declared.node.Node.{Node}
use Rattle.grind_congruence.specs.Edges.{Joins}
use Rattle.grind_needed_edges.specs.Needed.{IsNeededPair}
use Rattle.grind_needed_edges.proofs.PlanLemmas.{zip_paired}
use Rattle.grind_needed_edges.proofs.JoinLemmas.{args_active}
use Rattle.grind_needed_edges.proofs.plan.Planner.cover_pair.Goals as goal

pub cover_args-requires-clause-left : goal.cover_args-requires-clause-left
cover_args-requires-clause-left c =
    args_active c.args.self.now.closure.now c.args.self.now.terms.now.nodes c.args.left c.node.result.now c.as_slice-lefts.result.now
    c.node.ensures.value c.as_slice-lefts.ensures.value c.requires.fits c.requires.left

pub cover_args-requires-clause-right : goal.cover_args-requires-clause-right
cover_args-requires-clause-right c =
    args_active c.args.self.now.closure.now c.args.self.now.terms.now.nodes c.args.right c.node-2.result.now c.as_slice-rights.result.now
    c.node-2.ensures.value c.as_slice-rights.ensures.value c.requires.fits c.requires.right

pub cover_args-requires-clause-needed : goal.cover_args-requires-clause-needed
cover_args-requires-clause-needed c =
    let nodes = c.args.self.now.terms.now.nodes in
    let edges = c.args.self.now.closure.now.edges in
    let joined = c.requires.joined in
    let P : ℕ → ℕ → Type 0 = IsNeededPair nodes edges c.args.self.now.whys.now c.args.self.now.left c.args.self.now.right in
    let zip : AllZip P joined.left.args joined.right.args =
    zip_paired (Joins edges c.args.place) P joined.left.args joined.right.args joined.args
    (λ x y paired. c.requires.needed x y (joined.left, joined.right, joined.left_is, joined.right_is, paired)) in
    let lefts : joined.left.args ≡ c.as_slice-lefts.result.now =
    ap (λ (n : Node). n.args) (same_Some joined.left c.node.result.now (sym joined.left_is ∙ c.node.ensures.value))
    ∙ sym c.as_slice-lefts.ensures.value in
    let rights : joined.right.args ≡ c.as_slice-rights.result.now =
    ap (λ (n : Node). n.args) (same_Some joined.right c.node-2.result.now (sym joined.right_is ∙ c.node-2.ensures.value))
    ∙ sym c.as_slice-rights.ensures.value in
    subst (λ (ys : List ℕ). AllZip P c.as_slice-lefts.result.now ys) rights (subst (λ (xs : List ℕ). AllZip P xs joined.right.args) lefts zip)
