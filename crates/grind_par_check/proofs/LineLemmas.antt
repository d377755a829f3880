-- A proof has the terms of the goal exactly where its first terms are those.
use Rattle.std.proofs.Common.{◌++◌, length, take, drop, sym, ap, ◌∙◌}
use Rattle.std.proofs.lemmas.List.{take-append-drop}
use Rattle.std.proofs.Math.Seq.{take-append_seam}
use Rattle.grind_schemes.specs.Goals.{GoalData}
use Rattle.grind_claims.specs.declared.proof.Proof.{Proof}
use Rattle.grind_proof_kernel.specs.Typing.{HasTerms}
use Rattle.grind_par_check.specs.Lines.{BeginsWithTerms}

pub begins_with_terms : (goal : GoalData) (proof : Proof) → HasTerms goal proof → BeginsWithTerms goal proof
begins_with_terms goal proof has =
    ap (take (length goal.terms.nodes)) has.1 ∙ take-append_seam goal.terms.nodes has.0

pub has_terms : (goal : GoalData) (proof : Proof) → BeginsWithTerms goal proof → HasTerms goal proof
has_terms goal proof begins = (
  drop (length goal.terms.nodes) proof.terms.nodes,
  sym (take-append-drop (length goal.terms.nodes) proof.terms.nodes)
      ∙ ap (λ front. front ++ drop (length goal.terms.nodes) proof.terms.nodes) begins,
)
