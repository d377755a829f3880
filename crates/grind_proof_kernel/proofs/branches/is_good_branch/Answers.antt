use Rattle.std.proofs.Common.{arith, ◌≡◌, Some, None, sym, ◌∙◌, ap, List}
use Rattle.grind_claims.specs.declared.proof.Branch.{Branch}
use Rattle.grind_proof_kernel.specs.Typing.{branch_at}
use Rattle.grind_proof_kernel.proofs.LayoutLemmas.{good_where_placed, bad_where_not_placed, bad_where_none}
use Rattle.grind_proof_kernel.proofs.branches.is_good_branch.Goals as goal

pub returns-in_default : goal.returns-in_default
returns-in_default c =
    let none : branch_at c.args.proof.now.branches c.args.branch ≡ None =
    sym (c.in_default.ensures ∙ ap (λ (branches : List Branch). branch_at branches c.args.branch) c.as_slice.ensures.value) in
    bad_where_none c.args.proof.now c.args.branch (omega arith) none

pub returns-then-is_in_pair : goal.returns-then-is_in_pair
returns-then-is_in_pair c =
    let there : branch_at c.args.proof.now.branches c.args.branch ≡ Some c.in-Some.it.now =
    sym (c.in-Some.ensures ∙ ap (λ (branches : List Branch). branch_at branches c.args.branch) c.as_slice.ensures.value) in
    good_where_placed c.args.proof.now c.args.branch c.in-Some.it.now there c.is_in_pair.result
    c.is_whole-then-is_in_pair.result c.if-is_in_pair.true c.is_in_pair.ensures c.is_whole-then-is_in_pair.ensures

pub returns-else-is_in_pair : goal.returns-else-is_in_pair
returns-else-is_in_pair c =
    let there : branch_at c.args.proof.now.branches c.args.branch ≡ Some c.in-Some.it.now =
    sym (c.in-Some.ensures ∙ ap (λ (branches : List Branch). branch_at branches c.args.branch) c.as_slice.ensures.value) in
    bad_where_not_placed c.args.proof.now c.args.branch c.in-Some.it.now there c.is_in_pair.result c.if-is_in_pair.false
    c.is_in_pair.ensures
