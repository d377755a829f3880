-- What single rules read.
use Rattle.std.proofs.Common.{drop, false, true≢false, zero, suc, ◌≤◌, ◌≡◌, ℕ, ◌+◌, ◌-◌, ◌<◌, ◌↔◌, List, [], ◌∷◌, Option, Some, length, All, refl, sym, ◌∙◌, subst, arith, Bool, IsTrue}
use Rattle.std.specs.Prelude.{slice_get}
use Rattle.std.proofs.Math.Seq.{drop-nil}
use Rattle.std.specs.Option.{IsSomeAnd}
use Rattle.std.specs.Borrow.{Bor}
use Rattle.grind_term_graph.specs.declared.node.Node.{Node}
use Rattle.grind_schemes.specs.Goals.{GoalData}
use Rattle.grind_schemes.specs.Theorems.{TheoremData}
use Rattle.grind_schemes.specs.declared.lemmas.Lemmas.{Lemmas}
use Rattle.grind_claims.specs.declared.claim.Claim.{Claim}
use Rattle.grind_claims.specs.declared.claim.Claim.TheVariants.{Holds, Same}
use Rattle.grind_claims.specs.Claims.{claims_of}
use Rattle.grind_term_rules.specs.TermRules.{IsHyp, IsBodyAt, IsInst, SayEqual}

-- where hypothesis i stands
hyp_stands : (hyps : List ℕ) (i n k m : ℕ) → i ≡ k + 1 → slice_get hyps k ≡ Some m → Holds n ≡ Holds m →
    slice_get hyps (i - 1) ≡ Some n
hyp_stands hyps i n k m e there same =
    let place : i - 1 ≡ k = omega arith in
    let node : n ≡ m = cc in
    rw (place, node) there

-- hypothesis i stands at place i - 1
pub hyp_from_place : (goal : GoalData) (i n : ℕ) → 0 < i →
    IsHyp goal i [] (Holds n) ↔ (slice_get goal.hyps (i - 1) ≡ Some n)
hyp_from_place goal i n above =
    let here : i ≡ i - 1 + 1 = omega arith in
    (λ h. hyp_stands goal.hyps i n h.0 h.1 h.2 h.3 h.5, λ e. (i - 1, n, here, e, refl, refl))

-- once the first are equal, the others say the same as all
pub say_equal_goes_on : {W : Type 0} (xs ys xs_tail ys_tail : List ℕ) (ps ps_tail : List (Bor Claim)) (a b : ℕ) (p : Bor Claim) →
    xs ≡ a ∷ xs_tail → ys ≡ b ∷ ys_tail → ps ≡ p ∷ ps_tail → p.now ≡ Same a b →
    (SayEqual xs ys (claims_of ps) ↔ W) → SayEqual xs_tail ys_tail (claims_of ps_tail) ↔ W
say_equal_goes_on xs ys xs_tail ys_tail ps ps_tail a b p ex ey ep first all =
    let h = rw (ex, ey, ep) at all in
    (λ others. h.0 (first, others), λ w. (h.1 w).1)

-- where no premise is left for an item, they do not say the same
pub say_equal_lacks : {W : Type 0} (xs ys : List ℕ) (ps : List (Bor Claim)) (k : ℕ) → length ps ≤ k → 0 < length xs →
    (SayEqual xs ys (claims_of (drop k ps)) ↔ W) → IsTrue false ↔ W
say_equal_lacks [] ys ps k past some all = absurd (omega arith)
say_equal_lacks (x ∷ xs) [] ps k past some all = (λ h. absurd (true≢false (sym h)), λ w. absurd (all.1 w))
say_equal_lacks (x ∷ xs) (y ∷ ys) ps k past some all =
    let h = rw (none_left ps k past) at all in
    (λ wrong. absurd (true≢false (sym wrong)), λ w. absurd (h.1 w))
  where
    none_left : (ps : List (Bor Claim)) (k : ℕ) → length ps ≤ k → drop k ps ≡ []
    none_left [] k low = drop-nil k
    none_left (p ∷ ps) zero low = absurd (omega arith)
    none_left (p ∷ ps) (suc k) low = none_left ps k (omega arith)

-- a test of what a theorem says, read as one of the rule
pub inst_by_body : (lemmas : Lemmas) (nodes : List Node) (t : ℕ) (subst : List ℕ) (premises : List Claim) (claim : Claim)
    (theorem : TheoremData) (n : ℕ) (b : Bool) → premises ≡ [] → claim ≡ Holds n → slice_get lemmas.theorems t ≡ Some theorem →
    (IsTrue b ↔ IsBodyAt nodes theorem subst n) → IsTrue b ↔ IsInst lemmas nodes t subst premises claim
inst_by_body lemmas nodes t ids premises claim theorem n b none is there decides =
    let P : Option TheoremData → ℕ → Type 0 = λ o m. IsSomeAnd o (λ (it : TheoremData). IsBodyAt nodes it ids m) in (
      λ h. (n, subst (λ (o : Option TheoremData). P o n) (sym there) (decides.0 h), none, is),
      λ h. decides.1 (subst (IsBodyAt nodes theorem ids) (same_node h.0 n (sym h.3 ∙ is))
          (subst (λ (o : Option TheoremData). P o h.0) there h.1)),
    )
  where
    same_node : (m k : ℕ) → Holds m ≡ Holds k → m ≡ k
    same_node m k e = cc
