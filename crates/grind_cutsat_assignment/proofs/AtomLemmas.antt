-- Marks, one node after the other.
use Rattle.std.proofs.Common.{◌≡◌, ◌↔◌, ◌⊎◌, inl, inr, ℕ, ◌+◌, ◌<◌, ◌≤◌, Bool, true, false, List, [], ◌∷◌, length, get_or, Contains, Option, Some, None, arith, refl, sym, ap, ◌∙◌, subst}
use Rattle.std.specs.Prelude.{replicate, set}
use Rattle.std.proofs.lemmas.Bool.{false≢true, cases_eq, cases_lt}
use Rattle.std.proofs.lemmas.List.{get_or_past, get_or-replicate, get_or-set_same, get_or-set_other, length-set, length-replicate}
use Rattle.std.proofs.lemmas.Option.{none-some, same_Some, slice_get_past}
use Rattle.std.specs.Option.{option_and_then}
use Rattle.grind_term_graph.specs.declared.node.Node.{Node}
use Rattle.grind_linear_forms.specs.declared.form.Part.{Part}
use Rattle.grind_linear_forms.specs.Forms.{FormData, RisesFrom, IsForm, part_of}
use Rattle.grind_reach.specs.Readings.{found}
use Rattle.grind_claims.specs.declared.claim.Claim.{Claim}
use Rattle.grind_claims.specs.declared.claim.Claim.TheVariants.{AtMost}
use Rattle.grind_cutsat_facts.specs.declared.facts.Fact.{Fact}
use Rattle.grind_cutsat_facts.specs.Facts.{fact_of, IsSaid}
use Rattle.grind_cutsat_facts.proofs.FactLemmas.{none_listed, first_or_rest, at_first, in_rest}
use Rattle.grind_cutsat_assignment.specs.Walks.{Marks, Adds, IsMarking, AreForms, IsFormIfBound, TakesPart, TakenByClaim, TakenAmong, TakenByReading, TakenAt, TakenFrom}

-- nothing is added
pub adds_nothing : (old : List Bool) (P : ℕ → Type 0) → ((n : ℕ) → n < length old → ¬ P n) → Adds old old P
adds_nothing old P none = record {
  count = refl;
  marks = λ n. (λ h. inl h, λ h. elim h [ inl marked ↦ marked | inr more ↦ absurd (none n more.0 more.1) ]);
}

-- a node that has a place is added
pub adds_one : (old new : List Bool) (node : ℕ) → node < length old → new ≡ set old node true → Adds old new (λ n. n ≡ node)
adds_one old new node within is = record {
  count = ap (λ (xs : List Bool). length xs) is ∙ length-set old node true;
  marks = λ n. (λ h. added n h, λ h. elim h [ inl marked ↦ kept n marked | inr one ↦ here n one.1 ]);
}
  where
    by_set : (n : ℕ) → get_or new n false ≡ get_or (set old node true) n false
    by_set n = ap (λ (xs : List Bool). get_or xs n false) is

    here : (n : ℕ) → n ≡ node → Marks new n
    here n same = by_set n ∙ ap (λ k. get_or (set old node true) k false) same ∙ get_or-set_same old node true false within

    kept : (n : ℕ) → Marks old n → Marks new n
    kept n marked = elim (cases_eq n node) [
      | inl same ↦ here n same
      | inr other ↦ by_set n ∙ get_or-set_other old node n true false other ∙ marked
    ]

    added : (n : ℕ) → Marks new n → Marks old n ⊎ ((n < length old) × (n ≡ node))
    added n h = elim (cases_eq n node) [
      | inl same ↦ inr (subst (λ k. k < length old) (sym same) within, same)
      | inr other ↦ inl (sym (get_or-set_other old node n true false other) ∙ sym (by_set n) ∙ h)
    ]

-- what is added is the same by other words
pub adds_as : (old new : List Bool) (P Q : ℕ → Type 0) → ((n : ℕ) → P n ↔ Q n) → Adds old new P → Adds old new Q
adds_as old new P Q same h = record {
  count = h.count;
  marks = λ n. (
    λ marked. elim ((h.marks n).0 marked) [ inl before ↦ inl before | inr one ↦ inr (one.0, (same n).0 one.1) ],
    λ all. elim all [ inl before ↦ (h.marks n).1 (inl before) | inr one ↦ (h.marks n).1 (inr (one.0, (same n).1 one.1)) ],
  );
}

-- a loop that marks nodes: its start, its step and its end
pub marking_first : (old : List Bool) (W : ℕ → Type 0) → IsMarking old old W W
marking_first old W = record { count = refl; marks = λ n. (λ h. h, λ h. h) }

pub marking_next : (old now next : List Bool) (Left Here Rest W : ℕ → Type 0) → ((n : ℕ) → Left n ↔ (Here n ⊎ Rest n))
    → Adds now next Here → IsMarking old now Left W → IsMarking old next Rest W
marking_next old now next Left Here Rest W parts added so_far = record {
  count = added.count ∙ so_far.count;
  marks = λ n. (
    λ h. (so_far.marks n).0 (elim h [
      | inl marked ↦ elim ((added.marks n).0 marked) [
        | inl before ↦ inl before
        | inr one ↦ inr (subst (λ k. n < k) so_far.count one.0, (parts n).1 (inl one.1))
      ]
      | inr rest ↦ inr (rest.0, (parts n).1 (inr rest.1))
    ]),
    λ h. elim ((so_far.marks n).1 h) [
      | inl marked ↦ inl ((added.marks n).1 (inl marked))
      | inr left ↦ elim ((parts n).0 left.1) [
        | inl one ↦ inl ((added.marks n).1 (inr (subst (λ k. n < k) (sym so_far.count) left.0, one)))
        | inr rest ↦ inr (left.0, rest)
      ]
    ],
  );
}

pub marking_last : (old now : List Bool) (Left W : ℕ → Type 0) → ((n : ℕ) → ¬ Left n) → IsMarking old now Left W → Adds old now W
marking_last old now Left W none so_far = record {
  count = so_far.count;
  marks = λ n. (
    λ marked. (so_far.marks n).0 (inl marked),
    λ h. elim ((so_far.marks n).1 h) [ inl marked ↦ marked | inr left ↦ absurd (none n left.1) ],
  );
}

-- the parts of a form, one by one
pub parts_split : (rest tail : List Part) (part : Part) → rest ≡ part ∷ tail
    → (n : ℕ) → TakesPart rest n ↔ ((n ≡ part.node) ⊎ TakesPart tail n)
parts_split rest tail part is n = (
  λ h. elim (first_or_rest part tail (part_of n h.0) (subst (λ (xs : List Part). Contains xs (part_of n h.0)) is h.1)) [
    | inl same ↦ inl (sym (ap (λ (it : Part). it.node) same))
    | inr more ↦ inr (h.0, more)
  ],
  λ h. elim h [
    | inl same ↦ (
      part.coefficient,
      subst (λ (xs : List Part). Contains xs (part_of n part.coefficient)) (sym is)
          (subst (λ k. Contains (part ∷ tail) (part_of k part.coefficient)) (sym same) (at_first part tail)),
    )
    | inr more ↦ (more.0, subst (λ (xs : List Part). Contains xs (part_of n more.0)) (sym is) (in_rest part tail (part_of n more.0) more.1))
  ],
)

pub parts_none : (rest : List Part) → length rest ≡ 0 → (n : ℕ) → ¬ TakesPart rest n
parts_none [] e n = λ h. none_listed (part_of n h.0) h.1
parts_none (part ∷ rest) e n = absurd (omega arith)

-- the facts, one by one
pub facts_split : (rest tail : List Fact) (fact : Fact) → rest ≡ fact ∷ tail
    → (n : ℕ) → TakenAmong rest n ↔ (TakenByClaim fact.claim n ⊎ TakenAmong tail n)
facts_split rest tail fact is n = (
  λ h. elim (first_or_rest fact tail (fact_of h.0 (AtMost h.1)) (subst (λ (xs : List Fact). IsSaid xs h.0 (AtMost h.1)) is h.2)) [
    | inl same ↦ inl (h.1, ap (λ (it : Fact). it.claim) same, h.3)
    | inr more ↦ inr (h.0, h.1, more, h.3)
  ],
  λ h. elim h [
    | inl one ↦ (
      fact.post,
      one.0,
      subst (λ (xs : List Fact). IsSaid xs fact.post (AtMost one.0)) (sym is)
          (subst (λ (claim : Claim). IsSaid (fact ∷ tail) fact.post claim) one.1 (at_first fact tail)),
      one.2,
    )
    | inr more ↦ (
      more.0,
      more.1,
      subst (λ (xs : List Fact). IsSaid xs more.0 (AtMost more.1)) (sym is)
          (in_rest fact tail (fact_of more.0 (AtMost more.1)) more.2),
      more.3,
    )
  ],
)

pub facts_none : (rest : List Fact) → length rest ≡ 0 → (n : ℕ) → ¬ TakenAmong rest n
facts_none [] e n = λ h. none_listed (fact_of h.0 (AtMost h.1)) h.2
facts_none (fact ∷ rest) e n = absurd (omega arith)

-- their forms are in order, if each that is read is
pub forms_next : (facts rest tail : List Fact) (fact : Fact) → rest ≡ fact ∷ tail → IsFormIfBound fact.claim
    → (AreForms rest → AreForms facts) → AreForms tail → AreForms facts
forms_next facts rest tail fact is form so_far forms = so_far (λ post it said.
    elim (first_or_rest fact tail (fact_of post (AtMost it)) (subst (λ (xs : List Fact). IsSaid xs post (AtMost it)) is said)) [
      | inl same ↦ form it (ap (λ (it : Fact). it.claim) same)
      | inr more ↦ forms post it more
    ])

pub forms_last : (facts rest : List Fact) → length rest ≡ 0 → (AreForms rest → AreForms facts) → AreForms facts
forms_last facts [] e so_far = so_far (λ post form said. absurd (none_listed (fact_of post (AtMost form)) said))
forms_last facts (fact ∷ rest) e so_far = absurd (omega arith)

-- the readings, one by one
module _ (nodes : List Node) (lists : List (List ℕ)) (forms : List (Option FormData)) where
  pub readings_split : (k : ℕ) → k < length nodes
      → (n : ℕ) → TakenFrom nodes lists forms k n ↔ (TakenAt nodes lists forms k n ⊎ TakenFrom nodes lists forms (k + 1) n)
  readings_split k within n = (
    λ h. elim (cases_eq h.0 k) [
      | inl same ↦ inl (subst (λ m. TakenAt nodes lists forms m n) same h.3)
      | inr other ↦ inr (h.0, above h.0 h.1 other, h.2, h.3)
    ],
    λ h. elim h [
      | inl one ↦ (k, same_le k, within, one)
      | inr more ↦ (more.0, lower more.0 more.1, more.2, more.3)
    ],
  )
    where
      same_le : (m : ℕ) → m ≤ m
      same_le m = omega arith

      above : (m : ℕ) → k ≤ m → (m ≡ k → ⊥) → k + 1 ≤ m
      above m low other = omega (arith, low, other)

      lower : (m : ℕ) → k + 1 ≤ m → k ≤ m
      lower m low = omega (arith, low)

  pub readings_none : (k : ℕ) → length nodes ≤ k → (n : ℕ) → ¬ TakenFrom nodes lists forms k n
  readings_none k past n = λ h. beyond h.0 h.1 h.2
    where
      beyond : (m : ℕ) → k ≤ m → m < length nodes → ⊥
      beyond m low within = omega (arith, past, low, within)

-- nothing is marked at first
pub unmarked_at : (count n : ℕ) → Marks (replicate count false) n → ⊥
unmarked_at count n marked = elim (cases_lt n count) [
  | inl less ↦ false≢true (sym (get_or-replicate count n false false less) ∙ marked)
  | inr past ↦ false≢true (sym (get_or_past (replicate count false) n false (long past)) ∙ marked)
]
  where
    long : count ≤ n → length (replicate count false) ≤ n
    long h = subst (λ k. k ≤ n) (sym (length-replicate count false)) h

-- the parts of the form that a claim bounds
abbrev parts_in : Claim → List Part
parts_in (AtMost form) = form.parts
parts_in _ = []

-- where the claim bounds a form, it takes what the parts of the form take
pub claim_takes : (claim : Claim) (form : FormData) (parts : List Part) → claim ≡ AtMost form → parts ≡ form.parts
    → (n : ℕ) → TakesPart parts n ↔ TakenByClaim claim n
claim_takes claim form parts is same n = (
  λ h. (form, is, (h.0, subst (λ (xs : List Part). Contains xs (part_of n h.0)) same h.1)),
  λ h.
      let takes = h.2 in
      (takes.0, subst (λ (xs : List Part). Contains xs (part_of n takes.0)) (sym (same ∙ ap parts_in (sym is ∙ h.1))) takes.1),
)

-- and its form is in order
pub claim_forms : (claim : Claim) (form : FormData) → claim ≡ AtMost form → IsForm form → IsFormIfBound claim
claim_forms claim form is rises = λ other e. subst (λ (xs : List Part). RisesFrom 0 xs) (ap parts_in (sym is ∙ e)) rises

-- a reading that stands there takes what its parts take
pub reading_takes : (forms : List (Option FormData)) (m : ℕ) (form : FormData) (parts : List Part) → found forms m ≡ Some form
    → parts ≡ form.parts → (n : ℕ) → TakesPart parts n ↔ TakenByReading forms m n
reading_takes forms m form parts is same n = (
  λ h. (form, is, (h.0, subst (λ (xs : List Part). Contains xs (part_of n h.0)) same h.1)),
  λ h.
      let takes = h.2 in
      let one = ap (λ (it : FormData). it.parts) (same_Some form h.0 (sym is ∙ h.1)) in
      (takes.0, subst (λ (xs : List Part). Contains xs (part_of n takes.0)) (sym (same ∙ one)) takes.1),
)

-- one that does not takes nothing
pub no_reading : (forms : List (Option FormData)) (m : ℕ) → found forms m ≡ None → (n : ℕ) → ¬ TakenByReading forms m n
no_reading forms m none n = λ h. none-some h.0 (sym none ∙ h.1)

pub past_readings : (forms : List (Option FormData)) (m : ℕ) → length forms ≤ m → found forms m ≡ None
past_readings forms m past = ap (option_and_then (λ (it : Option FormData). it)) (slice_get_past forms m past)
