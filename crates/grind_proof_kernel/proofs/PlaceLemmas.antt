-- Which of a pair a branch is.
use Rattle.std.proofs.Common.{◌≡◌, ℕ, ◌+◌, List, sym, subst, arith, inl, inr, IsTrue, ◌↔◌, Bool}
use Rattle.std.specs.Option.{IsSomeAnd}
use Rattle.grind_term_graph.specs.declared.node.Node.{Node}
use Rattle.grind_claims.specs.declared.proof.Branch.{Branch}
use Rattle.grind_claims.specs.declared.proof.Line.{Line}
use Rattle.grind_proof_kernel.specs.Typing.{branch_at, IsFirst, IsSecond, IsInPair}

-- a branch of that number is the first of its pair
pub in_pair_first : (nodes : List Node) (branches : List Branch) (lines : List Line) (k branch : ℕ) (it : Branch) →
    branch ≡ k + k + 1 → ((j : ℕ) × IsInPair nodes branches lines j branch it) → IsFirst nodes branches lines k it
in_pair_first nodes branches lines k branch it e found =
    elim found.1 [
      | inl first ↦
          let p = first.0 in
          let same : found.0 ≡ k = omega arith in
          subst (λ (j : ℕ). IsFirst nodes branches lines j it) same first.1
      | inr second ↦
          let p = second.0 in
          absurd (omega arith)
    ]

-- a branch of that number is the second of its pair
pub in_pair_second : (nodes : List Node) (branches : List Branch) (lines : List Line) (k branch : ℕ) (it : Branch) →
    branch ≡ k + k + 2 → ((j : ℕ) × IsInPair nodes branches lines j branch it) →
    IsSomeAnd (branch_at branches (k + k + 1)) (λ (first : Branch). IsSecond first it)
in_pair_second nodes branches lines k branch it e found =
    elim found.1 [
      | inl first ↦
          let p = first.0 in
          absurd (omega arith)
      | inr second ↦
          let p = second.0 in
          let same : found.0 ≡ k = omega arith in
          subst (λ (j : ℕ). IsSomeAnd (branch_at branches (j + j + 1)) (λ (first : Branch). IsSecond first it)) same second.1
    ]

-- the test of a first branch is that of its place
pub first_in_pair : (nodes : List Node) (branches : List Branch) (lines : List Line) (k branch : ℕ) (it : Branch) (is : Bool) →
    branch ≡ k + k + 1 → (IsTrue is ↔ IsFirst nodes branches lines k it) →
    IsTrue is ↔ ((j : ℕ) × IsInPair nodes branches lines j branch it)
first_in_pair nodes branches lines k branch it is e told =
    (λ y. (k, inl (e, told.0 y)), λ found. told.1 (in_pair_first nodes branches lines k branch it e found))

-- the test of a second branch is that of its place
pub second_in_pair : (nodes : List Node) (branches : List Branch) (lines : List Line) (k branch first : ℕ) (it : Branch) (is : Bool) →
    branch ≡ k + k + 2 → first ≡ k + k + 1 →
    (IsTrue is ↔ IsSomeAnd (branch_at branches first) (λ (first : Branch). IsSecond first it)) →
    IsTrue is ↔ ((j : ℕ) × IsInPair nodes branches lines j branch it)
second_in_pair nodes branches lines k branch first it is e before told =
    let P : ℕ → Type 0 = λ number. IsSomeAnd (branch_at branches number) (λ (first : Branch). IsSecond first it) in (
      λ y. (k, inr (e, subst P before (told.0 y))),
      λ found. told.1 (subst P (sym before) (in_pair_second nodes branches lines k branch it e found)),
    )
