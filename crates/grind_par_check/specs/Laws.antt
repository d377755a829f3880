-- What is true of every proof that is checked.
use Rattle.std.specs.Prelude.{◌≡◌}
use Rattle.grind_schemes.specs.Goals.{GoalData}
use Rattle.grind_schemes.specs.declared.lemmas.Lemmas.{Lemmas}
use Rattle.grind_claims.specs.declared.proof.Proof.{Proof}
use Rattle.grind_proof_kernel.specs.declared.checker.Verdict.{Verdict}
use Rattle.grind_proof_kernel.specs.Judgement.{IsRight}

-- two right verdicts on a proof are one, so the verdict is the same for every number of jobs
abbrev pub OneVerdict : Type 0
OneVerdict = (lemmas : Lemmas) (goal : GoalData) (proof : Proof) (a b : Verdict) → IsRight lemmas goal proof a → IsRight lemmas goal proof b → a ≡ b
