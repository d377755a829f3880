-- Which proofs are finished.
use Rattle.std.specs.Prelude.{◌≡◌, ℕ, zero, suc, ◌≤◌, ◌⊎◌, List, [], Option, Some, None, length, slice_get}
use Rattle.std.specs.Option.{IsSomeAnd}
use Rattle.std.proofs.Common.{arith, sym, ap, ◌∙◌}
use Rattle.std.proofs.lemmas.List.{append-nil}
use Rattle.grind_term_graph.specs.Terms.{Terms}
use Rattle.grind_schemes.specs.Goals.{GoalData}
use Rattle.grind_schemes.specs.declared.lemmas.Lemmas.{Lemmas}
use Rattle.grind_claims.proofs.Growth.{some_and_then}
use Rattle.grind_claims.specs.declared.proof.Branch.{Branch}
use Rattle.grind_claims.specs.declared.proof.Line.{Line}
use Rattle.grind_claims.specs.declared.proof.Proof.{Proof}
use Rattle.grind_proof_kernel.specs.Typing.{IsParent, IsClosed, IsInPlace, IsGoodBranch}
use Rattle.grind_proof_writer.specs.Branches.{IsPlacedSoFar, HasPlace, IsGoodSoFar}
use Rattle.grind_proof_writer.specs.Laws.{FinishedIsTyped, GoodIsReady}

-- a branch in its place that ends is good
ended_is_good : (proof : Proof) (b : ℕ) → HasPlace proof b → (IsParent proof.branches b ⊎ IsClosed proof.lines b) → IsGoodBranch proof b
ended_is_good proof zero place ends = record { stands = λ i h. omega arith; ends = ends }
ended_is_good proof (suc b) place ends =
    some_and_then (IsPlacedSoFar proof.terms.nodes proof.branches proof.lines (suc b))
    (IsInPlace proof.terms.nodes proof.branches proof.lines (suc b)) (slice_get proof.branches b)
    (λ it here. record { pair = here.pair; whole = record { stands = here.stands; ends = ends } }) place

-- a good branch is in its place
good_has_place : (proof : Proof) (b : ℕ) → IsGoodBranch proof b → HasPlace proof b
good_has_place proof zero good = tt
good_has_place proof (suc b) good =
    some_and_then (IsInPlace proof.terms.nodes proof.branches proof.lines (suc b))
    (IsPlacedSoFar proof.terms.nodes proof.branches proof.lines (suc b)) (slice_get proof.branches b)
    (λ it here. record { pair = here.pair; stands = here.whole.stands }) good

some_says : {X : Type 0} (P : X → Type 0) (Q : Type 0) (o : Option X) → ((x : X) → P x → Q) → IsSomeAnd o P → Q
some_says P Q None f h = absurd h
some_says P Q (Some x) f h = f x h

-- and ends
good_ends : (proof : Proof) (b : ℕ) → IsGoodBranch proof b → IsParent proof.branches b ⊎ IsClosed proof.lines b
good_ends proof zero good = good.ends
good_ends proof (suc b) good =
    some_says (IsInPlace proof.terms.nodes proof.branches proof.lines (suc b))
    (IsParent proof.branches (suc b) ⊎ IsClosed proof.lines (suc b)) (slice_get proof.branches b) (λ it here. here.whole.ends) good

-- where there are no branches but the root
pub root_only : (proof : Proof) (b : ℕ) → length proof.branches ≡ 0 → b ≤ length proof.branches → HasPlace proof b
root_only proof zero none few = tt
root_only proof (suc b) none few = absurd (omega (arith, none, few))

pub finished_is_typed : FinishedIsTyped
finished_is_typed lemmas goal proof terms = (
  λ both. record {
    branches = λ b few. ended_is_good proof b (both.0.branches b few) (both.1 b few);
    lines = both.0.lines;
  },
  λ typed. (
    record { terms = terms; branches = λ b few. good_has_place proof b (typed.branches b few); lines = typed.lines },
    λ b few. good_ends proof b (typed.branches b few),
  ),
)

pub good_is_ready : GoodIsReady
good_is_ready lemmas goal proof branch good stands = record { terms = good.terms; stands = stands; typed = good.lines }

-- a proof that was begun is good so far
pub begun_is_good : (lemmas : Lemmas) (goal : GoalData) (inside terms : Terms) (branches : List Branch) (lines : List Line) →
    inside ≡ goal.terms → terms ≡ record { nodes = inside.nodes; limit = 4294967295 } → branches ≡ [] → lines ≡ [] →
    IsGoodSoFar lemmas goal (record { terms = terms; branches = branches; lines = lines })
begun_is_good lemmas goal inside terms branches lines same copied none empty = record {
  terms = ([], ap (λ (t : Terms). t.nodes) copied ∙ ap (λ (t : Terms). t.nodes) same ∙ sym (append-nil goal.terms.nodes));
  branches = λ b few. root_only (record { terms = terms; branches = branches; lines = lines }) b
      (ap (λ (all : List Branch). length all) none) few;
  lines = λ i below. let count : length lines ≡ 0 = ap (λ (all : List Line). length all) empty in absurd (omega (arith, below, count));
}
