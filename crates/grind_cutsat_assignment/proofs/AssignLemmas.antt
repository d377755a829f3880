-- From the walk to the assignment.
use Rattle.std.proofs.Common.{◌≡◌, inl, inr, ℕ, suc, ◌<◌, ◌≤◌, Bool, false, List, [], length, ℤ, pos, Option, Some, None, arith, refl, sym, ap, ◌∙◌, subst}
use Rattle.std.proofs.lemmas.Bool.{false≢true, cases_lt}
use Rattle.std.proofs.lemmas.List.{get_or_past}
use Rattle.std.proofs.lemmas.List.Elements.{All-contains}
use Rattle.std.proofs.lemmas.Option.{none-some, slice_get_past}
use Rattle.std.specs.Option.{option_map, option_and_then}
use Rattle.grind_term_graph.specs.declared.node.Node.{Node}
use Rattle.grind_term_graph.specs.Terms.{int, sort_at}
use Rattle.grind_term_graph.specs.Shape.{IsTable}
use Rattle.grind_linear_forms.specs.declared.form.Part.{Part}
use Rattle.grind_linear_forms.specs.Forms.{FormData, part_of}
use Rattle.grind_linear_forms.specs.Readings.{linear}
use Rattle.grind_linear_forms.specs.Naming.{NamesNumbers, ReadingsNameNumbers}
use Rattle.grind_claims.specs.declared.claim.Claim.TheVariants.{AtMost}
use Rattle.grind_claims.specs.Claims.{IsFormed}
use Rattle.grind_cutsat_facts.specs.declared.facts.Fact.{Fact}
use Rattle.grind_cutsat_facts.specs.Facts.{fact_of}
use Rattle.grind_cutsat_assignment.specs.declared.outcome.Chosen.{Chosen}
use Rattle.grind_cutsat_assignment.specs.declared.outcome.Outcome.TheVariants as outcomes
use Rattle.grind_cutsat_assignment.specs.declared.walk.Stop.{Stop}
use Rattle.grind_cutsat_assignment.specs.declared.walk.Stop.TheVariants as stops
use Rattle.grind_cutsat_bounds.specs.Evaluations.{evaluated}
use Rattle.grind_cutsat_bounds.specs.Bounds.{IsBetween}
use Rattle.grind_cutsat_bounds.specs.Nearest.{IsNearest}
use Rattle.grind_cutsat_assignment.specs.Given.{Given, Fits, Takes, IsTakenByReading, IsAtom}
use Rattle.grind_cutsat_assignment.specs.Assignments.{chosen_value, IsChosenFor, AreRightFrom, AreRight, AreRightAbove, read_value, IsAssigned, IsOutcome, HasGap}
use Rattle.grind_cutsat_assignment.specs.Walks.{Marks, Adds, AreRead, AreForms, AreMarks, TakenAmong, TakenFrom}
use Rattle.grind_cutsat_assignment.specs.Courses.{IsStop, AreSettled}
use Rattle.grind_cutsat_assignment.specs.Judgements.{SaysOf, NoneSaysOf, AreUnfit, AreEqual}
use Rattle.grind_cutsat_assignment.specs.Collecting.{stop_outcome, AreCollected}
use Rattle.grind_cutsat_assignment.proofs.WalkLemmas.{nearest_same, evaluated_same}
use Rattle.grind_cutsat_assignment.proofs.CollectLemmas.{chosen_cases}
use Rattle.grind_cutsat_assignment.proofs.DifferLemmas.{apart_else}

-- a whole number of a table stands in it
pub int_within : (nodes : List Node) (n : ℕ) → sort_at nodes n ≡ Some int → n < length nodes
int_within nodes n int_at = elim (cases_lt n (length nodes)) [
  | inl less ↦ less
  | inr past ↦ absurd (none-some int (sym (ap (option_map (λ (node : Node). node.sort)) (slice_get_past nodes n past)) ∙ int_at))
]

module _ (it : Given) (fits : Fits it) (names : ReadingsNameNumbers) (table : IsTable [] it.nodes) where
  named : (form : FormData) (n : ℕ) → NamesNumbers it.nodes form → Takes form n → n < length it.nodes
  named form n numbers takes =
      int_within it.nodes n (All-contains (λ (part : Part). sort_at it.nodes part.node ≡ Some int) form.parts (part_of n takes.0) numbers takes.1)

  -- each atom stands among the terms
  pub atom_within : (n : ℕ) → IsAtom it n → n < length it.nodes
  atom_within n atom = elim atom [
    | inl by_fact ↦ named by_fact.1 n
        (All-contains (λ (fact : Fact). IsFormed it.nodes fact.claim) it.facts (fact_of by_fact.0 (AtMost by_fact.1)) fits.formed by_fact.2) by_fact.3
    | inr by_reading ↦ named by_reading.1 n (names it.nodes by_reading.0 by_reading.1 table by_reading.3 by_reading.4) by_reading.5
  ]

-- what the facts and the readings take, the atoms are
pub marks_of_atoms : (it : Given) (forms : List (Option FormData)) (first second third : List Bool) → Fits it → AreRead it forms
    → length first ≡ length it.nodes → ((n : ℕ) → Marks first n → ⊥) → Adds first second (TakenAmong it.facts)
    → Adds second third (TakenFrom it.nodes it.lists forms 0) → AreMarks it third
marks_of_atoms it forms first second third fits read count none facts readings = record {
  count = readings.count ∙ facts.count ∙ count;
  atoms = λ n. (
    λ marked. elim ((readings.marks n).0 marked) [
      | inl before ↦ elim ((facts.marks n).0 before) [
        | inl never ↦ absurd (none n never)
        | inr one ↦ (subst (λ k. n < k) count one.0, inl one.1)
      ]
      | inr one ↦ (subst (λ k. n < k) (facts.count ∙ count) one.0, inr (by_reading n one.1))
    ],
    λ both. elim both.1 [
      | inl one ↦ (readings.marks n).1 (inl ((facts.marks n).1 (inr (subst (λ k. n < k) (sym count) both.0, one))))
      | inr one ↦ (readings.marks n).1 (inr (
        subst (λ k. n < k) (sym (facts.count ∙ count)) both.0,
        (one.0, from_zero one.0, fits.within one.0 one.2, (one.2, one.3, (one.1, (read.active one.0 one.2 one.3).1 ∙ one.4, one.5))),
      ))
    ],
  );
}
  where
    from_zero : (m : ℕ) → 0 ≤ m
    from_zero m = omega arith

    by_reading : (n : ℕ) → TakenFrom it.nodes it.lists forms 0 n → IsTakenByReading it n
    by_reading n h =
        let there = h.3 in
        (h.0, there.2.0, there.0, there.1, sym (read.active h.0 there.0 there.1).1 ∙ there.2.1, there.2.2)

module _ (it : Given) (marks : List Bool) (are : AreMarks it marks) (within : (n : ℕ) → IsAtom it n → n < length it.nodes) where
  marked : (n : ℕ) → IsAtom it n → Marks marks n
  marked n atom = (are.atoms n).1 (within n atom, atom)

  -- values that are settled are right
  pub right_from : (least : ℕ) (v : ℕ → ℤ) → AreSettled it.facts marks least v → AreRightFrom it least v
  right_from least v h n low atom = h.right n low (marked n atom)

  pub zero_elsewhere : (least : ℕ) (v : ℕ → ℤ) → AreSettled it.facts marks least v → (n : ℕ) → ¬ IsAtom it n → v n ≡ pos 0
  zero_elsewhere least v h n other = h.elsewhere n (λ has. other ((are.atoms n).0 has).1)

  above : (n : ℕ) (v : ℕ → ℤ) → Marks marks n → AreSettled it.facts marks (suc n) v → AreRightAbove it n v
  above n v has h = record {
    atom = ((are.atoms n).0 has).1;
    right = right_from (suc n) v h;
    elsewhere = zero_elsewhere (suc n) v h;
  }

  -- the answer to a walk that ended early
  pub stop_is_outcome : (n : ℕ) (v : ℕ → ℤ) (stop : Stop) → Marks marks n → AreSettled it.facts marks (suc n) v
      → IsStop it.facts v n stop → IsOutcome it (stop_outcome stop)
  stop_is_outcome n v (stops.Gap node floor) has h stop =
      subst (λ k. HasGap it k floor) (sym stop.0)
      (v, above n v has h, stop.1.0, stop.1.1, stop.1.2)
  stop_is_outcome n v (stops.Unfit node post) has h stop = inl (n, v, above n v has h, stop.1)

  pub walk_is_outcome : (stop : Stop)
      → ((n : ℕ) × (v : ℕ → ℤ) × Marks marks n × AreSettled it.facts marks (suc n) v × IsStop it.facts v n stop)
      → IsOutcome it (stop_outcome stop)
  walk_is_outcome stop h = stop_is_outcome h.0 h.1 stop h.2 h.3 h.4

  module _ (v : ℕ → ℤ) (settled : AreSettled it.facts marks 0 v) where
    all_right : AreRight it v
    all_right = (right_from 0 v settled, zero_elsewhere 0 v settled)

    pub unfit_is_outcome : (post : ℕ) → SaysOf it.facts it.nodes (AreUnfit it.nodes v) post → IsOutcome it (outcomes.Unfit post)
    unfit_is_outcome post h = inr (v, h.0, h.1, all_right, h.2, h.3)

    pub equal_is_outcome : (post : ℕ) → SaysOf it.facts it.nodes (AreEqual it.nodes v) post → IsOutcome it (outcomes.Equal post)
    equal_is_outcome post h = (h.0, h.1, (v, h.3.0, all_right, h.2, h.3.1, h.3.2))

    -- values that are the same everywhere are the assignment, too
    assigned_same : (w : ℕ → ℤ) → ((n : ℕ) → v n ≡ w n) → AreForms it.facts → NoneSaysOf it.facts it.nodes (AreUnfit it.nodes v)
        → NoneSaysOf it.facts it.nodes (AreEqual it.nodes v) → IsAssigned it w
    assigned_same w same forms fit unequal = record {
      right = λ n low atom. subst (λ (z : ℤ). IsNearest (IsBetween w it.facts n) z) (same n)
          (nearest_same it.facts forms v w n (v n) (λ k less. same k) (settled.right n low (marked n atom)));
      elsewhere = λ n other. sym (same n) ∙ zero_elsewhere 0 v settled n other;
      apart = λ post a b says.
          let kept = apart_else it.nodes v a b (fit post a b says) (unequal post a b says) in
          (kept.0, kept.1, sym (read_same a) ∙ kept.2, sym (read_same b) ∙ kept.3, kept.4);
    }
      where
        by_form : (read : Option FormData) → option_and_then (λ (form : FormData). evaluated v form.constant form.parts) read
            ≡ option_and_then (λ (form : FormData). evaluated w form.constant form.parts) read
        by_form None = refl
        by_form (Some form) = evaluated_same v w form.parts form.constant (λ k c has. same k)

        read_same : (n : ℕ) → read_value it.nodes v n ≡ read_value it.nodes w n
        read_same n = by_form (linear it.nodes n)

    module _ (list : List Chosen) (all : AreCollected marks v (length marks) list) where
      chosen : (n : ℕ) → Marks marks n → IsChosenFor list n
      chosen n has = elim (cases_lt n (length marks)) [
        | inl less ↦ (all.marked n less).1 has
        | inr past ↦ absurd (false≢true (sym (get_or_past marks n false past) ∙ has))
      ]

      same_value : (n : ℕ) → v n ≡ chosen_value list n
      same_value n = elim (chosen_cases list n) [
        | inl has ↦ sym (all.values n has)
        | inr none ↦ settled.elsewhere n (λ has. none.0 (chosen n has)) ∙ sym none.1
      ]

      -- the list of the settled values is the assignment
      pub list_is_outcome : AreForms it.facts → NoneSaysOf it.facts it.nodes (AreUnfit it.nodes v)
          → NoneSaysOf it.facts it.nodes (AreEqual it.nodes v) → IsOutcome it (outcomes.Assigned list)
      list_is_outcome forms fit unequal = record {
        rise = all.rise;
        atoms = λ n. (
          λ has. ((are.atoms n).0 ((all.marked n (all.below n has)).0 has)).1,
          λ atom. chosen n (marked n atom),
        );
        values = assigned_same (chosen_value list) same_value forms fit unequal;
      }
