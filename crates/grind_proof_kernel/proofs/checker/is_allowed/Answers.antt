use Rattle.std.proofs.Common.{List, ap, ◌∙◌}
use Rattle.grind_claims.specs.declared.proof.Branch.{Branch}
use Rattle.grind_proof_kernel.specs.Typing.{literal_of}
use Rattle.grind_proof_kernel.proofs.LineLemmas.{allowed_by_lines}
use Rattle.grind_proof_kernel.proofs.checker.is_allowed.Goals as goal

pub returns : goal.returns
returns c =
    allowed_by_lines c.args.lemmas.now c.args.goal.now c.args.proof.now.terms.nodes c.args.proof.now.lines _
    (literal_of c.args.proof.now.branches c.args.line.now.branch) _ c.args.line.now.rule c.args.line.now.premises _ c.args.line.now.claim
    c.in_ok-claims.claims.items _ c.in_ok-allowed.allowed c.as_slice-2.ensures.value c.as_slice-3.ensures.value
    (c.literal_of.ensures ∙ ap (λ (branches : List Branch). literal_of branches c.args.line.now.branch) c.as_slice.ensures.value)
    c.as_slice-4.ensures.value c.in_ok-claims.ensures c.in_ok-allowed.ensures.exact
