-- What a branch assumes, and what its ancestors do.
use Rattle.std.specs.Prelude.{◌≡◌, ℕ, zero, suc, List, Some, None, option_and_then, ℤ, refl}
use Rattle.std.proofs.Common.{sym, ap, ◌∙◌, subst}
use Rattle.std.proofs.lemmas.Option.{same_Some, none-some}
use Rattle.grind_claims.specs.declared.claim.Claim.{Claim}
use Rattle.grind_claims.specs.declared.proof.Branch.{Branch}
use Rattle.grind_proof_kernel.specs.Typing.{parent_of, literal_of, branch_above}
use Rattle.grind_value_tables.specs.Truths.{ClaimTrue}
use Rattle.grind_value_tables.specs.Laws.{AssumesTruth}
use Rattle.grind_value_tables.proofs.Meanings.{chained}

module _ (branches : List Branch) where
  -- one step more above a branch is so many steps above its parent
  branch_above-parent : (branch parent : ℕ) → parent_of branches branch ≡ Some parent → (steps : ℕ)
      → branch_above branches (suc steps) branch ≡ branch_above branches steps parent
  branch_above-parent branch parent e zero = e
  branch_above-parent branch parent e (suc steps) =
      ap (option_and_then (parent_of branches)) (branch_above-parent branch parent e steps)

  -- nothing is above the root
  branch_above-root : (steps : ℕ) → branch_above branches (suc steps) 0 ≡ None
  branch_above-root zero = refl
  branch_above-root (suc steps) = ap (option_and_then (parent_of branches)) (branch_above-root steps)

  -- an ancestor of an ancestor is one
  above_above : (steps branch middle : ℕ) → branch_above branches steps branch ≡ Some middle → (more above : ℕ)
      → branch_above branches more middle ≡ Some above → (all : ℕ) × (branch_above branches all branch ≡ Some above)
  above_above steps branch middle e zero above f = (steps, e ∙ f)
  above_above steps branch middle e (suc more) above f =
      let last = chained (parent_of branches) (branch_above branches more middle) above f in
      let so_far = above_above steps branch middle e more last.0 last.1 in
      (suc so_far.0, ap (option_and_then (parent_of branches)) so_far.1 ∙ last.2)

  module _ (v : ℕ → ℤ) where
    -- what a branch assumes holds of what an ancestor assumes
    pub assumes_above : (steps branch above : ℕ) → branch_above branches steps branch ≡ Some above
        → AssumesTruth v branches branch → AssumesTruth v branches above
    assumes_above steps branch above e assumes = λ more higher literal f is.
        let all = above_above steps branch above e more higher f in assumes all.0 higher literal all.1 is

    -- a branch assumes what its parent does, and its own literal
    pub assumes_child : (branch parent : ℕ) → parent_of branches branch ≡ Some parent → AssumesTruth v branches parent
        → ((literal : Claim) → literal_of branches branch ≡ Some literal → ClaimTrue v literal) → AssumesTruth v branches branch
    assumes_child branch parent e assumes own zero above literal f is =
        own literal (subst (λ b. literal_of branches b ≡ Some literal) (sym (same_Some branch above f)) is)
    assumes_child branch parent e assumes own (suc steps) above literal f is =
        assumes steps above literal (sym (branch_above-parent branch parent e steps) ∙ f) is

    -- the root assumes nothing
    pub assumes_root : AssumesTruth v branches 0
    assumes_root zero above literal f is =
        let none : None ≡ Some literal = subst (λ b. literal_of branches b ≡ Some literal) (sym (same_Some 0 above f)) is in
        absurd (none-some literal none)
    assumes_root (suc steps) above literal f is = absurd (none-some above (sym (branch_above-root steps) ∙ f))
