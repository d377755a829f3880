-- Which branches stand above a branch.
use Rattle.std.proofs.Common.{◌≡◌, ℕ, ◌<◌, ◌≤◌, suc, zero, List, Some, None, ap, sym, ◌∙◌, arith, inl, inr}
use Rattle.std.proofs.lemmas.Bool.{cases_order}
use Rattle.std.specs.Prelude.{option_and_then}
use Rattle.grind_claims.specs.declared.proof.Branch.{Branch}
use Rattle.grind_proof_kernel.specs.Typing.{branch_above, parent_of, Reaches}

-- where nothing stands above, nothing stands further above
pub none_above : (branches : List Branch) (branch steps k : ℕ) → steps ≤ k →
    branch_above branches steps branch ≡ None → branch_above branches k branch ≡ None
none_above branches branch steps zero le none =
    let e : steps ≡ 0 = omega arith in
    ap (λ s. branch_above branches s branch) (sym e) ∙ none
none_above branches branch steps (suc k) le none =
    elim (cases_order steps (suc k)) [
      | inl e ↦ ap (λ s. branch_above branches s branch) (sym e) ∙ none
      | inr other ↦ elim other [
        | inl low ↦ ap (option_and_then (parent_of branches)) (none_above branches branch steps k (omega arith) none)
        | inr high ↦ absurd (omega arith)
      ]
    ]

-- the branch `at` that many steps above has no parent, and the wanted one does not stand below it, nor is it `at`
pub none_reaches : (branches : List Branch) (branch steps at above : ℕ) →
    branch_above branches steps branch ≡ Some at → parent_of branches at ≡ None → ¬ (at ≡ above) →
    ((k : ℕ) → k < steps → ¬ (branch_above branches k branch ≡ Some above)) → ¬ Reaches branches above branch
none_reaches branches branch steps at above here none other below found =
    elim (cases_order steps found.0) [
      | inl e ↦
          let there : branch_above branches found.0 branch ≡ Some at = ap (λ s. branch_above branches s branch) (sym e) ∙ here in
          let reached = found.2 in
          other cc
      | inr order ↦ elim order [
        | inl low ↦
            let next : branch_above branches (suc steps) branch ≡ None = ap (option_and_then (parent_of branches)) here ∙ none in
            let gone = none_above branches branch (suc steps) found.0 (omega arith) next in
            let reached = found.2 in
            cc
        | inr high ↦ below found.0 high found.2
      ]
    ]
