-- There is one assignment at most, and none where the answer says why.
use Rattle.std.proofs.Common.{◌≡◌, inl, inr, ℕ, zero, suc, ◌+◌, ◌<◌, ◌≤◌, List, length, ℤ, Option, Some, None, arith, refl, sym, ◌∙◌}
use Rattle.std.specs.Option.{option_and_then}
use Rattle.std.proofs.lemmas.Option.{none-some, same_Some}
use Rattle.grind_lemmas.proofs.Rings.{linear}
use Rattle.grind_linear_forms.specs.Forms.{FormData, part_of}
use Rattle.grind_linear_forms.specs.Readings.{linear as linear_reading}
use Rattle.grind_cutsat_facts.proofs.FactLemmas.{in_rest}
use Rattle.grind_cutsat_assignment.specs.declared.outcome.Chosen.{Chosen}
use Rattle.grind_cutsat_assignment.specs.declared.outcome.Outcome.{Outcome}
use Rattle.grind_cutsat_assignment.specs.declared.outcome.Outcome.TheVariants as outcomes
use Rattle.grind_cutsat_bounds.specs.Evaluations.{evaluated}
use Rattle.grind_cutsat_bounds.specs.Bounds.{Bound, bound_form, IsBound, rest_at, IsBetween}
use Rattle.grind_cutsat_bounds.specs.Nearest.{IsNearest}
use Rattle.grind_cutsat_assignment.specs.Given.{Given, IsAtom}
use Rattle.grind_cutsat_assignment.specs.Assignments.{chosen_value, AreRightFrom, AreRightAbove, read_value, IsAssignment, NoAssignment, IsOutcome, IsFailure, HasGap, IsUnfitBound, IsUnfitDiffer, MakesEqual, AreRight}
use Rattle.grind_cutsat_assignment.specs.Walks.{AreForms}
use Rattle.grind_cutsat_assignment.proofs.WalkLemmas.{rising_part, evaluated_same}
use Rattle.grind_cutsat_assignment.proofs.CollectLemmas.{chosen_cases}

-- one number is nearest to 0
nearest_one : (P Q : ℤ → Type 0) (a b : ℤ) → ((z : ℤ) → P z → Q z) → ((z : ℤ) → Q z → P z) → IsNearest P a → IsNearest Q b → a ≡ b
nearest_one P Q a b there back one other =
    let below = one.nearest b (back b other.within) in
    let above = other.nearest a (there a one.within) in
    let low = one.positive b (back b other.within) (omega (arith, below, above)) in
    let high = other.positive a (there a one.within) (omega (arith, below, above)) in
    omega (arith, linear)

module _ (it : Given) (forms : AreForms it.facts) (within : (n : ℕ) → IsAtom it n → n < length it.nodes) where
  -- values that agree at the greater atoms leave a node the same bounds
  module _ (v w : ℕ → ℤ) (n : ℕ) (same : (k : ℕ) → n < k → IsAtom it k → v k ≡ w k) where
    rest_agrees : (post : ℕ) (bound : Bound) → IsBound it.facts n post bound → rest_at v bound ≡ rest_at w bound
    rest_agrees post bound is = evaluated_same v w bound.greater bound.constant (λ k c has. same k
        (above k (rising_part (suc n) bound.greater k c (forms post (bound_form n bound) is).2 has))
        (inl (post, bound_form n bound, is, (c, in_rest (part_of n bound.coefficient) bound.greater (part_of k c) has))))
      where
        above : (k : ℕ) → suc n ≤ k → n < k
        above k h = omega (arith, h)

    between_agrees : (z : ℤ) → IsBetween v it.facts n z → IsBetween w it.facts n z
    between_agrees z h = λ post bound is.
        let allowed = h post bound is in (allowed.0, sym (rest_agrees post bound is) ∙ allowed.1, allowed.2)

  -- values that are right from a node on agree there
  agree : (least : ℕ) (v w : ℕ → ℤ) → AreRightFrom it least v → AreRightFrom it least w → (d n : ℕ) → least ≤ n
      → length it.nodes ≤ n + d → IsAtom it n → v n ≡ w n
  agree least v w hv hw zero n low far atom = absurd (beyond (within n atom))
    where
      beyond : n < length it.nodes → ⊥
      beyond less = omega (arith, less, far)
  agree least v w hv hw (suc d) n low far atom =
      nearest_one (IsBetween v it.facts n) (IsBetween w it.facts n) (v n) (w n)
      (between_agrees v w n (λ k less one. agree least v w hv hw d k (lower k less) (farther k less) one))
      (between_agrees w v n (λ k less one. sym (agree least v w hv hw d k (lower k less) (farther k less) one)))
      (hv n low atom) (hw n low atom)
    where
      lower : (k : ℕ) → n < k → least ≤ k
      lower k less = omega (arith, low, less)

      farther : (k : ℕ) → n < k → length it.nodes ≤ k + d
      farther k less = omega (arith, far, less)

  agree_all : (least : ℕ) (v w : ℕ → ℤ) → AreRightFrom it least v → AreRightFrom it least w → (n : ℕ) → least ≤ n → IsAtom it n → v n ≡ w n
  agree_all least v w hv hw n low atom = agree least v w hv hw (length it.nodes) n low (far n) atom
    where
      far : (n : ℕ) → length it.nodes ≤ n + length it.nodes
      far n = omega arith

  module _ (list : List Chosen) (is : IsAssignment it list) where
    abbrev w : ℕ → ℤ
    w = chosen_value list

    right_from : (least : ℕ) → AreRightFrom it least w
    right_from least n low atom = is.values.right n (from_zero n) atom
      where
        from_zero : (n : ℕ) → 0 ≤ n
        from_zero n = omega arith

    above_same : (n : ℕ) (v : ℕ → ℤ) → AreRightAbove it n v → (k : ℕ) → n < k → IsAtom it k → v k ≡ w k
    above_same n v above k less atom = agree_all (suc n) v w above.right (right_from (suc n)) k (next k less) atom
      where
        next : (k : ℕ) → n < k → suc n ≤ k
        next k less = omega (arith, less)

    no_gap : (n : ℕ) (floor : ℤ) → HasGap it n floor → ⊥
    no_gap n floor h =
        let v = h.0 in
        h.3 (w n) (between_agrees w v n (λ k less atom. sym (above_same n v h.1 k less atom)) (w n)
        (is.values.right n (from_zero n) h.1.atom).within)
      where
        from_zero : (n : ℕ) → 0 ≤ n
        from_zero n = omega arith

    no_unfit : (post : ℕ) → IsUnfitBound it post → ⊥
    no_unfit post h =
        let n = h.0 in
        let v = h.1 in
        let bound = h.3.0 in
        let allowed = (is.values.right n (from_zero n) h.2.atom).within post bound h.3.1 in
        none-some allowed.0 (sym h.3.2 ∙ rest_agrees v w n (above_same n v h.2) post bound h.3.1 ∙ allowed.1)
      where
        from_zero : (n : ℕ) → 0 ≤ n
        from_zero n = omega arith

    all_same : (v : ℕ → ℤ) → AreRight it v → (n : ℕ) → v n ≡ w n
    all_same v right n = elim (chosen_cases list n) [
      | inl has ↦ agree_all 0 v w right.0 (right_from 0) n (from_zero n) ((is.atoms n).0 has)
      | inr none ↦ right.1 n (λ atom. none.0 ((is.atoms n).1 atom)) ∙ sym none.1
    ]
      where
        from_zero : (n : ℕ) → 0 ≤ n
        from_zero n = omega arith

    read_same : (v : ℕ → ℤ) → AreRight it v → (n : ℕ) → read_value it.nodes v n ≡ read_value it.nodes w n
    read_same v right n = by_form (linear_reading it.nodes n)
      where
        by_form : (read : Option FormData) → option_and_then (λ (form : FormData). evaluated v form.constant form.parts) read
            ≡ option_and_then (λ (form : FormData). evaluated w form.constant form.parts) read
        by_form None = refl
        by_form (Some form) = evaluated_same v w form.parts form.constant (λ k c has. all_same v right k)

    no_unfit_differ : (post : ℕ) → IsUnfitDiffer it post → ⊥
    no_unfit_differ post h =
        let v = h.0 in
        let apart = is.values.apart post h.1 h.2 h.4 in elim h.5 [
          | inl none ↦ none-some apart.0 (sym none ∙ read_same v h.3 h.1 ∙ apart.2)
          | inr none ↦ none-some apart.1 (sym none ∙ read_same v h.3 h.2 ∙ apart.3)
        ]

    no_equal : (post a b : ℕ) → MakesEqual it post a b → ⊥
    no_equal post a b h =
        let v = h.0 in
        let apart = is.values.apart post a b h.3 in
        apart.4 (same_Some apart.0 h.1 (sym apart.2 ∙ sym (read_same v h.2 a) ∙ h.4)
        ∙ same_Some h.1 apart.1 (sym h.5 ∙ read_same v h.2 b ∙ apart.3))

  -- where the answer is no assignment, there is none
  pub no_assignment : (outcome : Outcome) → IsOutcome it outcome → IsFailure outcome → NoAssignment it
  no_assignment (outcomes.Assigned found) h fails list is = absurd fails
  no_assignment (outcomes.Gap node floor) h fails list is = no_gap list is node floor h
  no_assignment (outcomes.Unfit post) h fails list is = elim h [
    | inl bound ↦ no_unfit list is post bound
    | inr differ ↦ no_unfit_differ list is post differ
  ]
  no_assignment (outcomes.Equal post) h fails list is = no_equal list is post h.0 h.1 h.2
