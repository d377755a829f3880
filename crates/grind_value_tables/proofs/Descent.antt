-- No branch of a typed proof assumes only what is true, where the hypotheses are true and the conclusion is false.
use Rattle.std.specs.Prelude.{◌≡◌, ◌==◌, ℕ, zero, suc, ◌+◌, ◌-◌, ◌<◌, ◌≤◌, ◌⊎◌, Bool, true, false, cond, List, [], ◌∷◌, ◌++◌, Option, Some, All, find, length, reverse, slice_get, slice_index_or, ℤ, pos, ◌+ℤ◌, neg_ℤ, ◌≤ℤ◌, refl}
use Rattle.std.specs.Option.{option_map}
use Rattle.std.proofs.Common.{arith, sym, ap, ◌∙◌, subst, inl, inr}
use Rattle.std.proofs.lemmas.Bool.Decides.{Decides-eqb}
use Rattle.std.proofs.lemmas.Int.{by_lt_z}
use Rattle.std.proofs.lemmas.List.{get_or-reverse, length-reverse}
use Rattle.std.proofs.lemmas.List.Elements.{All-head, All-tail}
use Rattle.std.proofs.lemmas.Option.{same_Some, none-some, slice_get-get_or}
use Rattle.grind_lemmas.proofs.Rings.{linear}
use Rattle.grind_term_graph.specs.declared.node.Node.{Node}
use Rattle.grind_term_graph.specs.Terms.{prop, sort_at}
use Rattle.grind_linear_forms.specs.Values.{form_value}
use Rattle.grind_differences.specs.Bounds.{opposite_form}
use Rattle.grind_differences.specs.Laws.{OppositesHaveTheirValues}
use Rattle.grind_schemes.specs.Goals.{GoalData}
use Rattle.grind_schemes.specs.declared.lemmas.Lemmas.{Lemmas}
use Rattle.grind_claims.specs.declared.claim.Claim.{Claim}
use Rattle.grind_claims.specs.declared.claim.Claim.TheVariants.{Holds, Fails, Same, Differ, AtMost, Zero, Absurd}
use Rattle.grind_claims.specs.declared.proof.Branch.{Branch}
use Rattle.grind_claims.specs.declared.proof.Line.{Line}
use Rattle.grind_claims.specs.declared.proof.Proof.{Proof}
use Rattle.grind_claims.specs.Claims.{IsFormed}
use Rattle.grind_proof_kernel.specs.Literals.{IsLiteral, AreOpposite}
use Rattle.grind_proof_kernel.specs.Typing.{IsParent, IsClosed, IsFirst, IsSecond, IsInPair, IsInPlace, IsGoodBranch, Typed, branch_at, parent_of}
use Rattle.grind_value_tables.specs.Respects.{zero_value, Respects}
use Rattle.grind_value_tables.specs.Truths.{ClaimTrue, AreTrue, InstancesTrue}
use Rattle.grind_value_tables.specs.Laws.{AssumesTruth, IsTableFor, Sound, TypedIsTrue}
use Rattle.grind_value_tables.proofs.Fronts.{IsSomeAnd-at}
use Rattle.grind_value_tables.proofs.Meanings.{IsSomeAnd-item, claim_is, formula_value}
use Rattle.grind_value_tables.proofs.Ancestors.{assumes_child, assumes_root}

module _ {X : Type 0} where
  -- what holds of each item holds of each from the end on
  All-reverse : (P : X → Type 0) (xs : List X) → All P xs → All P (reverse xs)
  All-reverse P xs all k d below =
      let within : k < length xs = omega (arith, length-reverse xs) in
      subst P (sym (get_or-reverse xs k d within)) (all (length xs - 1 - k) d (omega arith))

  found : (test : X → Bool) (x y : X) (passes : Bool) (rest : Option X) → test x ≡ passes
      → cond passes (Some x) rest ≡ Some y → ((x ≡ y) × (test y ≡ true)) ⊎ (rest ≡ Some y)
  found test x y true rest is e = let same = same_Some x y e in inl (same, subst (λ z. test z ≡ true) same is)
  found test x y false rest is e = inr e

  -- and of the one that is found, which passes the test
  find-All : (test : X → Bool) (P : X → Type 0) (xs : List X) (y : X) → All P xs → find test xs ≡ Some y
      → P y × (test y ≡ true)
  find-All test P [] y all e = absurd (none-some y e)
  find-All test P (x ∷ xs) y all e = elim (found test x y (test x) (find test xs) refl e) [
    | inl h ↦ (subst P h.0 (All-head P x xs all), h.1)
    | inr h ↦ find-All test P xs y (All-tail P x xs all) h
  ]

-- a branch that is closed claims a contradiction in some line of its own
closed_is_absurd : (lines : List Line) (branch : ℕ) (v : ℕ → ℤ) (branches : List Branch)
    → ((i : ℕ) (line : Line) → slice_get lines i ≡ Some line → AssumesTruth v branches line.branch → ClaimTrue v line.claim)
    → AssumesTruth v branches branch → IsClosed lines branch → ⊥
closed_is_absurd lines branch v branches true_lines assumes closed =
    let P : Line → Type 0 = λ line. AssumesTruth v branches line.branch → ClaimTrue v line.claim in
    let test : Line → Bool = λ line. line.branch == branch in
    let last = IsSomeAnd-item (find test (reverse lines)) (λ (line : Line). line.claim ≡ Absurd) closed in
    let each : All P lines = λ k d below. true_lines k (slice_index_or lines k d) (slice_get-get_or lines k d below) in
    let at = find-All test P (reverse lines) last.0 (All-reverse P lines each) last.1 in
    let own : last.0.branch ≡ branch = (Decides-eqb last.0.branch branch).0 at.1 in
    let claim : ClaimTrue v last.0.claim = at.0 (subst (AssumesTruth v branches) (sym own) assumes) in
    subst (ClaimTrue v) last.2 claim

-- of a whole number and 1 less that number one is at most 0
one_at_most : (x y : ℤ) → y ≡ pos 1 +ℤ neg_ℤ x → (x ≤ℤ pos 0) ⊎ (y ≤ℤ pos 0)
one_at_most x y e = by_lt_z (pos 0) x (λ over. inr (omega (arith, linear))) (λ under. inl under)

-- of two opposite literals one is true
one_is_true : OppositesHaveTheirValues → (nodes : List Node) (v : ℕ → ℤ) → Respects nodes v → (literal other : Claim)
    → IsLiteral literal → IsFormed nodes literal → AreOpposite literal other → ClaimTrue v literal ⊎ ClaimTrue v other
one_is_true law nodes v respects (Holds n) other is formed opposite = elim (formula_value nodes v respects n formed) [
  | inl no_value ↦ inr (claim_is v other (Fails n) opposite no_value)
  | inr value ↦ inl value
]
one_is_true law nodes v respects (Fails n) other is formed opposite = elim (formula_value nodes v respects n formed) [
  | inl no_value ↦ inl no_value
  | inr value ↦ inr (claim_is v other (Holds n) opposite value)
]
one_is_true law nodes v respects (Same a b) other is formed opposite = absurd is
one_is_true law nodes v respects (Differ a b) other is formed opposite = absurd is
one_is_true law nodes v respects (AtMost form) other is formed opposite =
    elim (one_at_most (form_value v form) (form_value v (opposite_form form)) (law v form)) [
      | inl bound ↦ inl bound
      | inr bound ↦ inr (claim_is v other (AtMost (opposite_form form)) opposite bound)
    ]
one_is_true law nodes v respects (Zero poly) other is formed opposite = absurd is
one_is_true law nodes v respects Absurd other is formed opposite = absurd is

-- a good branch is the parent of a pair, or closed
ends_of : (proof : Proof) (branch : ℕ) → IsGoodBranch proof branch
    → IsParent proof.branches branch ⊎ IsClosed proof.lines branch
ends_of proof zero good = good.ends
ends_of proof (suc b) good =
    let it = IsSomeAnd-item (slice_get proof.branches b) (IsInPlace proof.terms.nodes proof.branches proof.lines (suc b)) good in
    it.2.whole.ends

-- and other than the root it is listed
listed_at : (proof : Proof) (branch : ℕ) → 0 < branch → IsGoodBranch proof branch
    → (it : Branch) × (branch_at proof.branches branch ≡ Some it)
    × IsInPlace proof.terms.nodes proof.branches proof.lines branch it
listed_at proof zero positive good = absurd (omega arith)
listed_at proof (suc b) positive good =
    IsSomeAnd-item (slice_get proof.branches b) (IsInPlace proof.terms.nodes proof.branches proof.lines (suc b)) good

-- halves are alike, and an odd number is not even
halves : (j k : ℕ) → k + k + 1 ≡ j + j + 1 → j ≡ k
halves j k e = omega arith

odd_is_not_even : (j k : ℕ) → j + j + 1 ≡ k + k + 2 → ⊥
odd_is_not_even j k e = omega arith

module _ (nodes : List Node) (branches : List Branch) (lines : List Line) (k : ℕ) where
  -- a branch of odd number is the first of its pair
  first_of_pair : (it : Branch) → (j : ℕ) × IsInPair nodes branches lines j (k + k + 1) it → IsFirst nodes branches lines k it
  first_of_pair it pair = elim pair.1 [
    | inl h ↦ let same : pair.0 ≡ k = halves pair.0 k h.0 in subst (λ j. IsFirst nodes branches lines j it) same h.1
    | inr h ↦ absurd (odd_is_not_even k pair.0 h.0)
  ]

  -- and one of even number the second
  second_of_pair : (first it : Branch) → branch_at branches (k + k + 1) ≡ Some first
      → (j : ℕ) × IsInPair nodes branches lines j (k + k + 2) it → IsSecond first it
  second_of_pair first it is pair = elim pair.1 [
    | inl h ↦ absurd (odd_is_not_even pair.0 k (sym h.0))
    | inr h ↦
        let same : pair.0 ≡ k = halves pair.0 k (omega arith) in
        let at : branch_at branches (pair.0 + pair.0 + 1) ≡ Some first =
        subst (λ j. branch_at branches (j + j + 1) ≡ Some first) (sym same) is in
        IsSomeAnd-at (branch_at branches (pair.0 + pair.0 + 1)) (λ (one_branch : Branch). IsSecond one_branch it) first at h.1
  ]

module _ (sound : Sound) (opposites : OppositesHaveTheirValues) (lemmas : Lemmas) (goal : GoalData) (proof : Proof) (v : ℕ → ℤ)
    (values : IsTableFor goal proof v)
    (hyps : AreTrue v goal.hyps) (instances : InstancesTrue v proof) (show : v goal.show ≡ zero_value) (typed : Typed lemmas goal proof) where
  -- a listed branch, of that number, assumes only what is true where its parent does and its literal is true
  assumes_listed : (branch parent : ℕ) (it : Branch) → branch_at proof.branches branch ≡ Some it → it.parent ≡ parent
      → AssumesTruth v proof.branches parent → ClaimTrue v it.literal → AssumesTruth v proof.branches branch
  assumes_listed branch parent it at is assumes own =
      let up : parent_of proof.branches branch ≡ Some parent =
      ap (option_map (λ (b : Branch). b.parent)) at ∙ ap Some is in
      assumes_child proof.branches v branch parent up assumes
      (λ literal e.
      let said : Some it.literal ≡ Some literal = sym (ap (option_map (λ (b : Branch). b.literal)) at) ∙ e in
      subst (ClaimTrue v) (same_Some it.literal literal said) own)

  -- the parent of a pair, where no branch of a higher number assumes only what is true
  no_parent : (branch : ℕ) → ((higher : ℕ) → branch < higher → higher ≤ length proof.branches
      → AssumesTruth v proof.branches higher → ⊥) → AssumesTruth v proof.branches branch
      → IsParent proof.branches branch → ⊥
  no_parent branch none_above assumes parent =
      let k = parent.0 in
      let one_at = listed_at proof (k + k + 1) (omega arith) (typed.branches (k + k + 1) (omega (arith, parent.1.0))) in
      let two_at = listed_at proof (k + k + 2) (omega arith) (typed.branches (k + k + 2) parent.1.0) in
      let first = first_of_pair proof.terms.nodes proof.branches proof.lines k one_at.0 one_at.2.pair in
      let second = second_of_pair proof.terms.nodes proof.branches proof.lines k one_at.0 two_at.0 one_at.1 two_at.2.pair in
      let up : one_at.0.parent ≡ branch = same_Some one_at.0.parent branch
      (sym (ap (option_map (λ (b : Branch). b.parent)) one_at.1) ∙ parent.1.1) in
      elim (one_is_true opposites proof.terms.nodes v values.respects one_at.0.literal two_at.0.literal first.literal first.formed
      second.literal) [
        | inl own ↦ none_above (k + k + 1) (omega (arith, first.above, up)) (omega (arith, parent.1.0))
            (assumes_listed (k + k + 1) branch one_at.0 one_at.1 up assumes own)
        | inr own ↦ none_above (k + k + 2) (omega (arith, first.above, up)) parent.1.0
            (assumes_listed (k + k + 2) branch two_at.0 two_at.1 (second.parent ∙ up) assumes own)
      ]

  -- no branch assumes only what is true: neither one that is closed, nor one whose children do not
  no_branch : (count branch : ℕ) → length proof.branches < count + branch → branch ≤ length proof.branches
      → AssumesTruth v proof.branches branch → ⊥
  no_branch zero branch far within assumes = omega arith
  no_branch (suc count) branch far within assumes = elim (ends_of proof branch (typed.branches branch within)) [
    | inl parent ↦ no_parent branch (λ higher above stands. no_branch count higher (omega arith) stands) assumes parent
    | inr closed ↦ closed_is_absurd proof.lines branch v proof.branches
        (sound lemmas goal proof v values hyps instances show typed.lines) assumes closed
  ]

  pub no_false_conclusion : ⊥
  no_false_conclusion =
      no_branch (suc (length proof.branches)) 0 (omega arith) (omega arith) (assumes_root proof.branches v)

-- the sort of a node stays in a longer list
sort_of_longer : (nodes more : List Node) (n : ℕ) (sort : ℕ) → sort_at nodes n ≡ Some sort → sort_at (nodes ++ more) n ≡ Some sort
sort_of_longer [] more n sort e = absurd (none-some sort e)
sort_of_longer (node ∷ nodes) more zero sort e = e
sort_of_longer (node ∷ nodes) more (suc n) sort e = sort_of_longer nodes more n sort e

pub typed_proofs : Sound → OppositesHaveTheirValues → TypedIsTrue
typed_proofs sound opposites lemmas goal proof v is_goal values typed hyps instances =
    let sort : sort_at proof.terms.nodes goal.show ≡ Some prop =
    subst (λ ns. sort_at ns goal.show ≡ Some prop) (sym values.begins.1)
    (sort_of_longer goal.terms.nodes values.begins.0 goal.show prop is_goal.show) in
    elim (formula_value proof.terms.nodes v values.respects goal.show sort) [
      | inl show ↦ absurd (no_false_conclusion sound opposites lemmas goal proof v values hyps instances show typed)
      | inr show ↦ show
    ]
