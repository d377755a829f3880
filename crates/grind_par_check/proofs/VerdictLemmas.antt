-- Two right verdicts on a proof are one.
use Rattle.std.proofs.Common.{ℕ, ◌≡◌, ◌<◌, ◌⊎◌, inl, inr, refl, ap}
use Rattle.std.proofs.lemmas.Bool.{cases_order}
use Rattle.grind_schemes.specs.Goals.{GoalData}
use Rattle.grind_schemes.specs.declared.lemmas.Lemmas.{Lemmas}
use Rattle.grind_claims.specs.declared.proof.Proof.{Proof}
use Rattle.grind_proof_kernel.specs.declared.checker.Verdict.{Verdict}
use Rattle.grind_proof_kernel.specs.declared.checker.Verdict.TheVariants.{Typed, BadBranch, BadLine}
use Rattle.grind_proof_kernel.specs.Judgement.{HasGoodBranches, IsFirstBadBranch, IsFirstBadLine, IsRight}

same_branch : {proof : Proof} {a b : ℕ} → IsFirstBadBranch proof a → IsFirstBadBranch proof b → (a ≡ b) ⊎ ((a < b) ⊎ (b < a)) → a ≡ b
same_branch first second (inl e) = e
same_branch {a = a} first second (inr (inl less)) = absurd (first.bad (second.before a less))
same_branch {b = b} first second (inr (inr less)) = absurd (second.bad (first.before b less))

same_line : {lemmas : Lemmas} {goal : GoalData} {proof : Proof} {a b : ℕ} → IsFirstBadLine lemmas goal proof a → IsFirstBadLine lemmas goal proof b
    → (a ≡ b) ⊎ ((a < b) ⊎ (b < a)) → a ≡ b
same_line first second (inl e) = e
same_line {a = a} first second (inr (inl less)) = absurd (first.bad (second.before a less))
same_line {b = b} first second (inr (inr less)) = absurd (second.bad (first.before b less))

-- where no branch is bad, none is the first bad one
none_bad : {proof : Proof} {first : ℕ} → HasGoodBranches proof → IsFirstBadBranch proof first → ⊥
none_bad {first = first} good bad = bad.bad (good first bad.stands)

pub one_verdict : (lemmas : Lemmas) (goal : GoalData) (proof : Proof) (a b : Verdict) → IsRight lemmas goal proof a → IsRight lemmas goal proof b → a ≡ b
one_verdict lemmas goal proof Typed Typed p q = refl
one_verdict lemmas goal proof Typed (BadBranch b) p q = absurd (none_bad p.branches q)
one_verdict lemmas goal proof Typed (BadLine b) p q = absurd (q.bad (p.lines b q.stands))
one_verdict lemmas goal proof (BadBranch a) Typed p q = absurd (none_bad q.branches p)
one_verdict lemmas goal proof (BadBranch a) (BadBranch b) p q = ap BadBranch (same_branch p q (cases_order a b))
one_verdict lemmas goal proof (BadBranch a) (BadLine b) p q = absurd (none_bad q.branches p)
one_verdict lemmas goal proof (BadLine a) Typed p q = absurd (p.bad (q.lines a p.stands))
one_verdict lemmas goal proof (BadLine a) (BadBranch b) p q = absurd (none_bad p.branches q)
one_verdict lemmas goal proof (BadLine a) (BadLine b) p q = ap BadLine (same_line p q (cases_order a b))
