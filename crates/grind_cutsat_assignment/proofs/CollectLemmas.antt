-- The list of the atoms with their values.
use Rattle.std.proofs.Common.{◌≡◌, ◌↔◌, ◌⊎◌, inl, inr, ℕ, suc, ◌+◌, ◌<◌, ◌≤◌, Bool, List, [], ◌∷◌, ◌++◌, eqb, ℤ, pos, arith, refl, sym, ap, ◌∙◌, subst}
use Rattle.std.proofs.lemmas.Bool.{cases_eq, cond-true, cond-false, eq-eqb, ne_eqb}
use Rattle.grind_cutsat_assignment.specs.declared.outcome.Chosen.{Chosen}
use Rattle.grind_cutsat_assignment.specs.Assignments.{chosen_value, IsChosenFor, RiseFrom}
use Rattle.grind_cutsat_assignment.specs.Walks.{Marks}
use Rattle.grind_cutsat_assignment.specs.Collecting.{AreCollected}

-- a node has a value in the list, or it has not, and is 0
pub chosen_cases : (list : List Chosen) (n : ℕ) → IsChosenFor list n ⊎ ((IsChosenFor list n → ⊥) × (chosen_value list n ≡ pos 0))
chosen_cases [] n = inr (λ h. h, refl)
chosen_cases (it ∷ rest) n = elim (cases_eq it.node n) [
  | inl same ↦ inl (inl same)
  | inr other ↦ elim (chosen_cases rest n) [
    | inl has ↦ inl (inr has)
    | inr none ↦ inr (
      λ h. elim h [ inl same ↦ other same | inr has ↦ none.0 has ],
      cond-false (eqb it.node n) it.value (chosen_value rest n) (ne_eqb it.node n other) ∙ none.1,
    )
  ]
]

-- one more at the end
pub chosen_push : (list : List Chosen) (it : Chosen) (n : ℕ) → IsChosenFor (list ++ it ∷ []) n ↔ (IsChosenFor list n ⊎ (it.node ≡ n))
chosen_push [] it n = (λ h. elim h [ inl same ↦ inr same | inr none ↦ absurd none ], λ h. elim h [ inl none ↦ absurd none | inr same ↦ inl same ])
chosen_push (first ∷ rest) it n =
    let rest_push = chosen_push rest it n in (
      λ h. elim h [
        | inl same ↦ inl (inl same)
        | inr more ↦ elim (rest_push.0 more) [ inl has ↦ inl (inr has) | inr same ↦ inr same ]
      ],
      λ h. elim h [
        | inl has ↦ elim has [ inl same ↦ inl same | inr more ↦ inr (rest_push.1 (inl more)) ]
        | inr same ↦ inr (rest_push.1 (inr same))
      ],
    )

value_kept : (list : List Chosen) (it : Chosen) (n : ℕ) → IsChosenFor list n → chosen_value (list ++ it ∷ []) n ≡ chosen_value list n
value_kept [] it n has = absurd has
value_kept (first ∷ rest) it n has = elim (cases_eq first.node n) [
  | inl same ↦ cond-true (eqb first.node n) first.value (chosen_value (rest ++ it ∷ []) n) (eq-eqb first.node n same)
      ∙ sym (cond-true (eqb first.node n) first.value (chosen_value rest n) (eq-eqb first.node n same))
  | inr other ↦ cond-false (eqb first.node n) first.value (chosen_value (rest ++ it ∷ []) n) (ne_eqb first.node n other)
      ∙ value_kept rest it n (elim has [ inl same ↦ absurd (other same) | inr more ↦ more ])
      ∙ sym (cond-false (eqb first.node n) first.value (chosen_value rest n) (ne_eqb first.node n other))
]

value_new : (list : List Chosen) (it : Chosen) → (IsChosenFor list it.node → ⊥) → chosen_value (list ++ it ∷ []) it.node ≡ it.value
value_new [] it none = cond-true (eqb it.node it.node) it.value (pos 0) (eq-eqb it.node it.node refl)
value_new (first ∷ rest) it none =
    cond-false (eqb first.node it.node) first.value (chosen_value (rest ++ it ∷ []) it.node)
    (ne_eqb first.node it.node (λ same. none (inl same)))
    ∙ value_new rest it (λ has. none (inr has))

rise_push : (least : ℕ) (list : List Chosen) (it : Chosen) → least ≤ it.node → ((n : ℕ) → IsChosenFor list n → n < it.node)
    → RiseFrom least list → RiseFrom least (list ++ it ∷ [])
rise_push least [] it low below rise = (low, tt)
rise_push least (first ∷ rest) it low below rise =
    (rise.0, rise_push (suc first.node) rest it (next (below first.node (inl refl))) (λ n has. below n (inr has)) rise.1)
  where
    next : first.node < it.node → suc first.node ≤ it.node
    next h = omega (arith, h)

module _ (marks : List Bool) (v : ℕ → ℤ) where
  pub collected_first : AreCollected marks v 0 []
  collected_first = record {
    rise = tt;
    below = λ n has. absurd has;
    marked = λ n less. absurd (none n less);
    values = λ n has. absurd has;
  }
    where
      none : (n : ℕ) → n < 0 → ⊥
      none n less = omega (arith, less)

  -- a node that is not marked is passed over
  pub collected_past : (count : ℕ) (list : List Chosen) → (Marks marks count → ⊥) → AreCollected marks v count list
      → AreCollected marks v (count + 1) list
  collected_past count list free h = record {
    rise = h.rise;
    below = λ n has. wider n (h.below n has);
    marked = λ n less. elim (cases_eq n count) [
      | inl same ↦ (
        λ has. absurd (apart n (h.below n has) same),
        λ marked. absurd (free (subst (Marks marks) same marked)),
      )
      | inr other ↦ h.marked n (below n less other)
    ];
    values = h.values;
  }
    where
      wider : (n : ℕ) → n < count → n < count + 1
      wider n less = omega (arith, less)

      apart : (n : ℕ) → n < count → n ≡ count → ⊥
      apart n less same = omega (arith, less, same)

      below : (n : ℕ) → n < count + 1 → (n ≡ count → ⊥) → n < count
      below n less other = omega (arith, less, other)

  -- one that is marked is put at the end
  pub collected_push : (count : ℕ) (list new : List Chosen) (it : Chosen) → new ≡ list ++ it ∷ [] → it.node ≡ count → it.value ≡ v count
      → Marks marks count → AreCollected marks v count list → AreCollected marks v (count + 1) new
  collected_push count list new it is node value here h =
      subst (λ (xs : List Chosen). AreCollected marks v (count + 1) xs) (sym is) (record {
        rise = rise_push 0 list it (from_zero it.node) (λ n has. subst (λ k. n < k) (sym node) (h.below n has)) h.rise;
        below = λ n has. elim ((chosen_push list it n).0 has) [
          | inl before ↦ wider n (h.below n before)
          | inr same ↦ last n (sym same ∙ node)
        ];
        marked = λ n less. elim (cases_eq n count) [
          | inl same ↦ (
            λ has. subst (Marks marks) (sym same) here,
            λ marked. (chosen_push list it n).1 (inr (node ∙ sym same)),
          )
          | inr other ↦ (
            λ has. elim ((chosen_push list it n).0 has) [
              | inl before ↦ (h.marked n (below n less other)).0 before
              | inr same ↦ absurd (other (sym same ∙ node))
            ],
            λ marked. (chosen_push list it n).1 (inl ((h.marked n (below n less other)).1 marked)),
          )
        ];
        values = λ n has. elim ((chosen_push list it n).0 has) [
          | inl before ↦ value_kept list it n before ∙ h.values n before
          | inr same ↦ subst (λ k. chosen_value (list ++ it ∷ []) k ≡ v k) same
              (value_new list it (λ has_it. apart it.node (h.below it.node has_it) node) ∙ value ∙ ap v (sym node))
        ];
      })
    where
      from_zero : (n : ℕ) → 0 ≤ n
      from_zero n = omega arith

      wider : (n : ℕ) → n < count → n < count + 1
      wider n less = omega (arith, less)

      last : (n : ℕ) → n ≡ count → n < count + 1
      last n same = omega (arith, same)

      apart : (n : ℕ) → n < count → n ≡ count → ⊥
      apart n less same = omega (arith, less, same)

      below : (n : ℕ) → n < count + 1 → (n ≡ count → ⊥) → n < count
      below n less other = omega (arith, less, other)
