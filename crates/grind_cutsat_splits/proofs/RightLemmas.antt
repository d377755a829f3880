-- What is right by the bounds among the facts is right by the facts, and there is one assignment at most.
use Rattle.std.proofs.Common.{◌≡◌, ◌⊎◌, inl, inr, ℕ, zero, suc, ◌+◌, ◌<◌, ◌≤◌, List, length, All, Contains, ℤ, pos, Option, Some, None, arith, refl, sym, ap, ◌∙◌, subst}
use Rattle.std.specs.Option.{option_and_then}
use Rattle.std.proofs.lemmas.Bool.{cases_lt, cases_eq}
use Rattle.std.proofs.lemmas.Option.{none-some, same_Some}
use Rattle.grind_lemmas.proofs.Rings.{linear}
use Rattle.grind_term_graph.specs.declared.node.Node.{Node}
use Rattle.grind_linear_forms.specs.Forms.{FormData, part_of}
use Rattle.grind_linear_forms.specs.Readings.{linear as linear_reading}
use Rattle.grind_claims.specs.declared.claim.Claim.{Claim}
use Rattle.grind_claims.specs.declared.claim.Claim.TheVariants.{AtMost, Differ}
use Rattle.grind_cutsat_facts.specs.declared.facts.Fact.{Fact}
use Rattle.grind_cutsat_facts.specs.Facts.{fact_of, IsSaid}
use Rattle.grind_cutsat_facts.proofs.FactLemmas.{in_rest}
use Rattle.grind_cutsat_bounds.specs.Evaluations.{evaluated}
use Rattle.grind_cutsat_bounds.specs.Bounds.{Bound, bound_form, IsBound, rest_at, IsBetween, AllFit, IsUnfit}
use Rattle.grind_cutsat_bounds.specs.Nearest.{IsNearest}
use Rattle.grind_cutsat_assignment.specs.declared.outcome.Chosen.{Chosen}
use Rattle.grind_cutsat_assignment.specs.Given.{Given, given, IsAtom, SaysDiffer}
use Rattle.grind_cutsat_assignment.specs.Assignments.{chosen_value, IsChosenFor, IsRight, AreRightFrom, AreRightAbove, AreRight, read_value, IsAssigned, IsAssignment, NoAssignment, HasGap, IsUnfitBound}
use Rattle.grind_cutsat_assignment.proofs.WalkLemmas.{rising_part, evaluated_same}
use Rattle.grind_cutsat_assignment.proofs.CollectLemmas.{chosen_cases}
use Rattle.grind_cutsat_splits.specs.Alone.{AreBoundsOf, AreChosen, IsOrdered}

from_zero : (n : ℕ) → 0 ≤ n
from_zero n = omega arith

-- ---- the bounds alone
abbrev is_bound : Claim → Type 0
is_bound (AtMost form) = Unit {0}
is_bound _ = ⊥

module _ (it : Given) (bounds : List Fact) (are : AreBoundsOf it.facts bounds) where
  abbrev base : Given
  base = given bounds it.nodes it.lists

  atom_to : (n : ℕ) → IsAtom base n → IsAtom it n
  atom_to n atom = elim atom [
    | inl taken ↦ inl (taken.0, taken.1, are.within taken.0 (AtMost taken.1) taken.2, taken.3)
    | inr read ↦ inr read
  ]

  atom_back : (n : ℕ) → IsAtom it n → IsAtom base n
  atom_back n atom = elim atom [
    | inl taken ↦ inl (taken.0, taken.1, are.kept taken.0 taken.1 taken.2, taken.3)
    | inr read ↦ inr read
  ]

  between_to : (v : ℕ → ℤ) (n : ℕ) (z : ℤ) → IsBetween v bounds n z → IsBetween v it.facts n z
  between_to v n z h = λ post bound is. h post bound (are.kept post (bound_form n bound) is)

  between_back : (v : ℕ → ℤ) (n : ℕ) (z : ℤ) → IsBetween v it.facts n z → IsBetween v bounds n z
  between_back v n z h = λ post bound is. h post bound (are.within post (AtMost (bound_form n bound)) is)

  right_to : (v : ℕ → ℤ) (n : ℕ) → IsRight base v n → IsRight it v n
  right_to v n h = record {
    within = between_to v n (v n) h.within;
    nearest = λ other is. h.nearest other (between_back v n other is);
    positive = λ other is e. h.positive other (between_back v n other is) e;
  }

  right_back : (v : ℕ → ℤ) (n : ℕ) → IsRight it v n → IsRight base v n
  right_back v n h = record {
    within = between_back v n (v n) h.within;
    nearest = λ other is. h.nearest other (between_to v n other is);
    positive = λ other is e. h.positive other (between_to v n other is) e;
  }

  right_from_to : (least : ℕ) (v : ℕ → ℤ) → AreRightFrom base least v → AreRightFrom it least v
  right_from_to least v h n low atom = right_to v n (h n low (atom_back n atom))

  pub chosen_to : (list : List Chosen) → IsAssignment base list → AreChosen it list
  chosen_to list is = record {
    rise = is.rise;
    atoms = λ n. (λ has. atom_to n ((is.atoms n).0 has), λ atom. (is.atoms n).1 (atom_back n atom));
    right = (
      right_from_to 0 (chosen_value list) is.values.right,
      λ n none. is.values.elsewhere n (λ atom. none (atom_to n atom)),
    );
  }

  above_to : (n : ℕ) (v : ℕ → ℤ) → AreRightAbove base n v → AreRightAbove it n v
  above_to n v h = record {
    atom = atom_to n h.atom;
    right = right_from_to (suc n) v h.right;
    elsewhere = λ k none. h.elsewhere k (λ atom. none (atom_to k atom));
  }

  pub gap_to : (n : ℕ) (floor : ℤ) → HasGap base n floor → HasGap it n floor
  gap_to n floor h =
      let v = h.0 in (
        v,
        above_to n v h.1,
        λ post bound is. h.2 post bound (are.kept post (bound_form n bound) is),
        λ number between. h.3 number (between_back v n number between),
        record {
          within = λ post bound is over. h.4.within post bound (are.kept post (bound_form n bound) is) over;
          greatest = λ other below. h.4.greatest other
              (λ post bound is over. below post bound (are.within post (AtMost (bound_form n bound)) is) over);
        },
      )

  pub unfit_to : (post : ℕ) → IsUnfitBound base post → IsUnfitBound it post
  unfit_to post h =
      (h.0, h.1, above_to h.0 h.1 h.2, (h.3.0, are.within post (AtMost (bound_form h.0 h.3.0)) h.3.1, h.3.2))

  -- the bounds say of no terms that they differ
  none_differ : (post a b : ℕ) → IsSaid bounds post (Differ a b) → ⊥
  none_differ post a b said = is_no_bound a b (are.alone post (Differ a b) said)
    where
      is_no_bound : (a b : ℕ) → ((form : FormData) × (Differ a b ≡ AtMost form)) → ⊥
      is_no_bound a b h = subst is_bound (sym h.1) tt

  assignment_back : (list : List Chosen) → IsAssignment it list → IsAssignment base list
  assignment_back list is = record {
    rise = is.rise;
    atoms = λ n. (λ has. atom_back n ((is.atoms n).0 has), λ atom. (is.atoms n).1 (atom_to n atom));
    values = record {
      right = λ n low atom. right_back (chosen_value list) n (is.values.right n low (atom_to n atom));
      elsewhere = λ n none. is.values.elsewhere n (λ atom. none (atom_back n atom));
      apart = λ post a b says. absurd (none_differ post a b says.0);
    };
  }

  pub none_back : NoAssignment base → NoAssignment it
  none_back none = λ list is. none list (assignment_back list is)

  pub never_equal : (post a b : ℕ) → SaysDiffer bounds it.nodes post a b → ⊥
  never_equal post a b says = none_differ post a b says.0

-- ---- one assignment
-- one number is nearest to 0
nearest_one : (P Q : ℤ → Type 0) (a b : ℤ) → ((z : ℤ) → P z → Q z) → ((z : ℤ) → Q z → P z) → IsNearest P a → IsNearest Q b → a ≡ b
nearest_one P Q a b there back one other =
    let below = one.nearest b (back b other.within) in
    let above = other.nearest a (there a one.within) in
    let low = one.positive b (back b other.within) (omega (arith, below, above)) in
    let high = other.positive a (there a one.within) (omega (arith, below, above)) in
    omega (arith, linear)

module _ (it : Given) (ordered : IsOrdered it) where
  -- values that agree at the greater atoms leave a node the same bounds
  module _ (v w : ℕ → ℤ) (n : ℕ) (same : (k : ℕ) → n < k → IsAtom it k → v k ≡ w k) where
    rest_agrees : (post : ℕ) (bound : Bound) → IsBound it.facts n post bound → rest_at v bound ≡ rest_at w bound
    rest_agrees post bound is = evaluated_same v w bound.greater bound.constant (λ k c has. same k
        (above k (rising_part (suc n) bound.greater k c (ordered.forms post (bound_form n bound) is).2 has))
        (inl (post, bound_form n bound, is, (c, in_rest (part_of n bound.coefficient) bound.greater (part_of k c) has))))
      where
        above : (k : ℕ) → suc n ≤ k → n < k
        above k h = omega (arith, h)

    between_agrees : (z : ℤ) → IsBetween v it.facts n z → IsBetween w it.facts n z
    between_agrees z h = λ post bound is.
        let allowed = h post bound is in (allowed.0, sym (rest_agrees post bound is) ∙ allowed.1, allowed.2)

  -- values that are right from a node on agree there
  agree : (least : ℕ) (v w : ℕ → ℤ) → AreRightFrom it least v → AreRightFrom it least w → (d n : ℕ) → least ≤ n
      → length it.nodes ≤ n + d → IsAtom it n → v n ≡ w n
  agree least v w hv hw zero n low far atom = absurd (beyond (ordered.within n atom))
    where
      beyond : n < length it.nodes → ⊥
      beyond less = omega (arith, less, far)
  agree least v w hv hw (suc d) n low far atom =
      nearest_one (IsBetween v it.facts n) (IsBetween w it.facts n) (v n) (w n)
      (between_agrees v w n (λ k less one. agree least v w hv hw d k (lower k less) (farther k less) one))
      (between_agrees w v n (λ k less one. sym (agree least v w hv hw d k (lower k less) (farther k less) one)))
      (hv n low atom) (hw n low atom)
    where
      lower : (k : ℕ) → n < k → least ≤ k
      lower k less = omega (arith, low, less)

      farther : (k : ℕ) → n < k → length it.nodes ≤ k + d
      farther k less = omega (arith, far, less)

  agree_all : (least : ℕ) (v w : ℕ → ℤ) → AreRightFrom it least v → AreRightFrom it least w → (n : ℕ) → least ≤ n → IsAtom it n → v n ≡ w n
  agree_all least v w hv hw n low atom = agree least v w hv hw (length it.nodes) n low (far n) atom
    where
      far : (n : ℕ) → length it.nodes ≤ n + length it.nodes
      far n = omega arith

  above_same : (n : ℕ) (v w : ℕ → ℤ) → AreRightFrom it (suc n) v → AreRightFrom it (suc n) w → (k : ℕ) → n < k → IsAtom it k → v k ≡ w k
  above_same n v w hv hw k less atom = agree_all (suc n) v w hv hw k (next k less) atom
    where
      next : (k : ℕ) → n < k → suc n ≤ k
      next k less = omega (arith, less)

  -- where the values of the greater atoms are right, and each bound fits, none is unfit
  unfit_nowhere : (n post : ℕ) (v w : ℕ → ℤ) → AreRightFrom it (suc n) v → AreRightFrom it (suc n) w → AllFit v it.facts n
      → IsUnfit w it.facts n post → ⊥
  unfit_nowhere n post v w hv hw fit unfit =
      let fits = fit post unfit.0 unfit.1 in
      none-some fits.0 (sym unfit.2 ∙ sym (rest_agrees v w n (above_same n v w hv hw) post unfit.0 unfit.1) ∙ fits.1)

  right_fits : (v : ℕ → ℤ) (n : ℕ) → IsRight it v n → AllFit v it.facts n
  right_fits v n right = λ post bound is. (let allowed = right.within post bound is in (allowed.0, allowed.1))

  from_greater : (least n : ℕ) (v : ℕ → ℤ) → AreRightFrom it least v → least ≤ n → AreRightFrom it n v
  from_greater least n v h less k low atom = h k (both k low) atom
    where
      both : (k : ℕ) → n ≤ k → least ≤ k
      both k low = omega (arith, less, low)

  -- at right values no bound is unfit
  pub no_unfit_bound : (v : ℕ → ℤ) → AreRight it v → (post : ℕ) → IsUnfitBound it post → ⊥
  no_unfit_bound v right post h =
      let n = h.0 in
      unfit_nowhere n post v h.1 (from_greater 0 (suc n) v right.0 (from_zero (suc n))) h.2.right
      (right_fits v n (right.0 n (from_zero n) h.2.atom)) h.3

  -- nor is one where there is a gap
  module _ (n : ℕ) (floor : ℤ) (gap : HasGap it n floor) where
    abbrev gap_values : ℕ → ℤ
    gap_values = gap.0

    -- no values are right from there on
    gap_is_wrong : (w : ℕ → ℤ) → AreRightFrom it n w → ⊥
    gap_is_wrong w hw =
        gap.3 (w n) (between_agrees w gap_values n
        (above_same n w gap_values (from_greater n (suc n) w hw (after n)) gap.1.right) (w n)
        (hw n (same n) gap.1.atom).within)
      where
        after : (n : ℕ) → n ≤ suc n
        after n = omega arith

        same : (n : ℕ) → n ≤ n
        same n = omega arith

    pub gap_without_values : (w : ℕ → ℤ) → AreRight it w → ⊥
    gap_without_values w right = gap_is_wrong w (from_greater 0 n w right.0 (from_zero n))

    pub gap_without_unfit : (post : ℕ) → IsUnfitBound it post → ⊥
    gap_without_unfit post h = elim (cases_lt h.0 n) [
      | inl below ↦ gap_is_wrong h.1 (from_greater (suc h.0) n h.1 h.2.right (up below))
      | inr past ↦ elim (cases_eq h.0 n) [
        | inl same ↦ unfit_nowhere n post gap_values h.1 gap.1.right
            (subst (λ k. AreRightFrom it (suc k) h.1) same h.2.right) gap.2
            (subst (λ k. IsUnfit h.1 it.facts k post) same h.3)
        | inr other ↦ unfit_nowhere h.0 post gap_values h.1
            (from_greater (suc n) (suc h.0) gap_values gap.1.right (over past))
            h.2.right
            (right_fits gap_values h.0 (gap.1.right h.0 (beyond past other) h.2.atom)) h.3
      ]
    ]
      where
        up : h.0 < n → suc h.0 ≤ n
        up less = omega (arith, less)

        over : n ≤ h.0 → suc n ≤ suc h.0
        over low = omega (arith, low)

        beyond : n ≤ h.0 → (h.0 ≡ n → ⊥) → suc n ≤ h.0
        beyond low other = omega (arith, low, other)

  -- ---- all values
  module _ (list : List Chosen) (are : AreChosen it list) where
    abbrev values : ℕ → ℤ
    values = chosen_value list

    all_same : (v : ℕ → ℤ) → AreRight it v → (n : ℕ) → v n ≡ values n
    all_same v right n = elim (chosen_cases list n) [
      | inl has ↦ agree_all 0 v values right.0 are.right.0 n (from_zero n) ((are.atoms n).0 has)
      | inr none ↦ right.1 n (λ atom. none.0 ((are.atoms n).1 atom)) ∙ sym none.1
    ]

    pub read_same : (v : ℕ → ℤ) → AreRight it v → (n : ℕ) → read_value it.nodes v n ≡ read_value it.nodes values n
    read_same v right n = by_form (linear_reading it.nodes n)
      where
        by_form : (read : Option FormData) → option_and_then (λ (form : FormData). evaluated v form.constant form.parts) read
            ≡ option_and_then (λ (form : FormData). evaluated values form.constant form.parts) read
        by_form None = refl
        by_form (Some form) = evaluated_same v values form.parts form.constant (λ k c has. all_same v right k)
