-- The walk over assignments.
use Rattle.std.proofs.Common.{◌≡◌, ℕ, ◌-◌, ◌<◌, Bool, true, false, List, [], ◌∷◌, ◌++◌, refl, sym, subst, ◌∙◌, arith, append_assoc, IsTrue, ◌↔◌}
use Rattle.std.proofs.lemmas.List.{append-nil}
use Rattle.grind_truth_tables.specs.Assignments.{HoldsBehind}

module _ (P : List Bool → Type 0) (chosen : List Bool) where
  -- where no truth is left to choose
  pub behind_none : P chosen → HoldsBehind P chosen 0
  behind_none h [] e = subst P (sym (append-nil chosen)) h
  behind_none h (truth ∷ more) e = absurd (omega arith)

  pub none_behind : HoldsBehind P chosen 0 → P chosen
  none_behind h = subst P (append-nil chosen) (h [] refl)

  -- where both truths of the next node do
  pub behind_both : (count : ℕ) → 0 < count → HoldsBehind P (chosen ++ true ∷ []) (count - 1) →
      HoldsBehind P (chosen ++ false ∷ []) (count - 1) → HoldsBehind P chosen count
  behind_both count some when_true when_false [] e = absurd (omega arith)
  behind_both count some when_true when_false (true ∷ more) e =
      subst P (append_assoc chosen (true ∷ []) more) (when_true more (omega arith))
  behind_both count some when_true when_false (false ∷ more) e =
      subst P (append_assoc chosen (false ∷ []) more) (when_false more (omega arith))

  -- each truth of the next node does
  pub one_behind : (truth : Bool) (count : ℕ) → 0 < count → HoldsBehind P chosen count →
      HoldsBehind P (chosen ++ truth ∷ []) (count - 1)
  one_behind truth count some h more e = subst P (sym (append_assoc chosen (truth ∷ []) more)) (h (truth ∷ more) (omega arith))

  -- the answers of the walk: where no truth is left to choose
  pub leaf_answer : (count : ℕ) (answer : Bool) → count ≡ 0 → (IsTrue answer ↔ P chosen) → IsTrue answer ↔ HoldsBehind P chosen count
  leaf_answer count answer e told =
      let Q : ℕ → Type 0 = λ c. HoldsBehind P chosen c in
      (λ y. subst Q (sym e) (behind_none (told.0 y)), λ h. told.1 (none_behind (subst Q e h)))

  -- where one truth of the next node fails
  pub fails_answer : (count : ℕ) (truth : Bool) (longer : List Bool) (answer : Bool) → 0 < count → longer ≡ chosen ++ truth ∷ [] →
      answer ≡ false → (IsTrue answer ↔ HoldsBehind P longer (count - 1)) → IsTrue false ↔ HoldsBehind P chosen count
  fails_answer count truth longer answer some e fails told =
      let Q : List Bool → Type 0 = λ list. HoldsBehind P list (count - 1) in (
        λ wrong. absurd (cc wrong),
        λ h.
            let shown = told.1 (subst Q (sym e) (one_behind truth count some h)) in
            sym fails ∙ shown,
      )

  -- where the first truth of the next node does, the second decides
  pub both_answer : (count : ℕ) (with_true with_false : List Bool) (first second : Bool) → 0 < count →
      with_true ≡ chosen ++ true ∷ [] → with_false ≡ chosen ++ false ∷ [] → first ≡ true →
      (IsTrue first ↔ HoldsBehind P with_true (count - 1)) → (IsTrue second ↔ HoldsBehind P with_false (count - 1)) →
      IsTrue second ↔ HoldsBehind P chosen count
  both_answer count with_true with_false first second some e f holds told other =
      let Q : List Bool → Type 0 = λ list. HoldsBehind P list (count - 1) in (
        λ y. behind_both count some (subst Q e (told.0 holds)) (subst Q f (other.0 y)),
        λ h. other.1 (subst Q (sym f) (one_behind false count some h)),
      )
