-- Values that are chosen one after the other.
use Rattle.std.proofs.Common.{◌≡◌, inl, inr, ℕ, suc, ◌+◌, ◌<◌, ◌≤◌, Bool, false, List, [], ◌∷◌, ◌++◌, length, get_or, Contains, ℤ, pos, ◌+ℤ◌, ◌*ℤ◌, Option, Some, None, arith, refl, sym, ap, ◌∙◌, subst}
use Rattle.std.specs.Prelude.{replicate, set, MatchOption}
use Rattle.std.specs.Option.{option_and_then}
use Rattle.std.proofs.lemmas.Bool.{false≢true, cases_lt, cases_eq}
use Rattle.std.proofs.lemmas.List.{get_or_past, get_or-replicate, get_or-set_same, get_or-set_other, length-replicate, length-set, replicate_more}
use Rattle.grind_linear_forms.specs.declared.form.Part.{Part}
use Rattle.grind_linear_forms.specs.Forms.{RisesFrom, part_of, fit}
use Rattle.grind_cutsat_facts.specs.declared.facts.Fact.{Fact}
use Rattle.grind_cutsat_facts.proofs.FactLemmas.{none_listed, first_or_rest, at_first, in_rest}
use Rattle.grind_cutsat_bounds.specs.Evaluations.{value_of, with_part, evaluated}
use Rattle.grind_cutsat_bounds.specs.Bounds.{Bound, bound_form, IsBound, rest_at, IsBetween}
use Rattle.grind_cutsat_bounds.specs.Nearest.{IsNearest}
use Rattle.grind_cutsat_bounds.specs.declared.choice.Choice.TheVariants as choices
use Rattle.grind_cutsat_bounds.specs.Choices.{IsChoice}
use Rattle.grind_cutsat_assignment.specs.declared.walk.Stop.TheVariants as stops
use Rattle.grind_cutsat_assignment.specs.Walks.{AreForms, Marks}
use Rattle.grind_cutsat_assignment.specs.Courses.{IsStop, IsSettled, IsVisited, AreSettled}

-- parts that rise from a node on take no lower one
pub rising_part : (least : ℕ) (parts : List Part) (n : ℕ) (c : ℤ) → RisesFrom least parts → Contains parts (part_of n c) → least ≤ n
rising_part least [] n c rises has = absurd (none_listed (part_of n c) has)
rising_part least (part ∷ parts) n c rises has = elim (first_or_rest part parts (part_of n c) has) [
  | inl same ↦ subst (λ k. least ≤ k) (ap (λ (it : Part). it.node) same) rises.0
  | inr more ↦ later (rising_part (suc part.node) parts n c rises.2 more)
]
  where
    later : suc part.node ≤ n → least ≤ n
    later h = let first = rises.0 in omega (arith, h, first)

module _ (v w : ℕ → ℤ) where
  then_same : (parts : List Part) → ((next : ℤ) → evaluated v next parts ≡ evaluated w next parts) → (first : Option ℤ)
      → option_and_then (λ (next : ℤ). evaluated v next parts) first ≡ option_and_then (λ (next : ℤ). evaluated w next parts) first
  then_same parts same None = refl
  then_same parts same (Some next) = same next

  -- values that agree at the nodes of parts give these one sum
  pub evaluated_same : (parts : List Part) (sum : ℤ) → ((n : ℕ) (c : ℤ) → Contains parts (part_of n c) → v n ≡ w n)
      → evaluated v sum parts ≡ evaluated w sum parts
  evaluated_same [] sum same = refl
  evaluated_same (part ∷ parts) sum same =
      ap (λ (k : ℤ). option_and_then (λ (next : ℤ). evaluated v next parts)
      (option_and_then (λ (product : ℤ). fit (sum +ℤ product)) (fit (part.coefficient *ℤ k))))
      (same part.node part.coefficient (at_first part parts))
      ∙ then_same parts (λ next. evaluated_same parts next (λ n c has. same n c (in_rest part parts (part_of n c) has)))
      (with_part w sum part)

  -- so what is between the bounds of a node depends on the values of greater nodes
  pub rest_same : (facts : List Fact) (x post : ℕ) (bound : Bound) → AreForms facts → ((n : ℕ) → x < n → v n ≡ w n)
      → IsBound facts x post bound → rest_at v bound ≡ rest_at w bound
  rest_same facts x post bound forms same is =
      evaluated_same bound.greater bound.constant (λ n c has. same n
      (above n (rising_part (suc x) bound.greater n c (forms post (bound_form x bound) is).2 has)))
    where
      above : (n : ℕ) → suc x ≤ n → x < n
      above n h = omega (arith, h)

  pub between_same : (facts : List Fact) (x : ℕ) (number : ℤ) → AreForms facts → ((n : ℕ) → x < n → v n ≡ w n)
      → IsBetween v facts x number → IsBetween w facts x number
  between_same facts x number forms same h = λ post bound is.
      let allowed = h post bound is in
      (allowed.0, sym (rest_same facts x post bound forms same is) ∙ allowed.1, allowed.2)

module _ (facts : List Fact) (forms : AreForms facts) where
  -- the number nearest to 0 stays the same, too
  pub nearest_same : (v w : ℕ → ℤ) (x : ℕ) (number : ℤ) → ((n : ℕ) → x < n → v n ≡ w n)
      → IsNearest (IsBetween v facts x) number → IsNearest (IsBetween w facts x) number
  nearest_same v w x number same h = record {
    within = between_same v w facts x number forms same h.within;
    nearest = λ other is. h.nearest other (between_same w v facts x other forms (λ n less. sym (same n less)) is);
    positive = λ other is e. h.positive other (between_same w v facts x other forms (λ n less. sym (same n less)) is) e;
  }

  -- a walk begins with no value
  pub settled_first : (marks : List Bool) → AreSettled facts marks (length marks) (value_of (replicate (length marks) (pos 0)))
  settled_first marks = record {
    right = λ n least marked. absurd (false≢true (sym (get_or_past marks n false least) ∙ marked));
    elsewhere = λ n free. zeros (length marks) n;
  }
    where
      zeros : (count n : ℕ) → get_or (replicate count (pos 0)) n (pos 0) ≡ pos 0
      zeros count n = elim (cases_lt n count) [
        | inl less ↦ get_or-replicate count n (pos 0) (pos 0) less
        | inr past ↦ get_or_past (replicate count (pos 0)) n (pos 0) (long past)
      ]
        where
          long : count ≤ n → length (replicate count (pos 0)) ≤ n
          long h = subst (λ k. k ≤ n) (sym (length-replicate count (pos 0))) h

  -- it passes over a node that is not marked
  pub settled_past : (marks : List Bool) (least next : ℕ) (v : ℕ → ℤ) → least ≡ suc next → (Marks marks next → ⊥)
      → AreSettled facts marks least v → AreSettled facts marks next v
  settled_past marks least next v is free h = record {
    right = λ n low marked. elim (cases_eq n next) [
      | inl same ↦ absurd (free (subst (Marks marks) same marked))
      | inr other ↦ h.right n (above n low other) marked
    ];
    elsewhere = h.elsewhere;
  }
    where
      above : (n : ℕ) → next ≤ n → (n ≡ next → ⊥) → least ≤ n
      above n low other = omega (arith, is, low, other)

  -- and gives one that is marked its number
  pub settled_next : (marks : List Bool) (least next : ℕ) (old new : List ℤ) → least ≡ suc next → next < length old
      → Marks marks next → IsSettled facts next old new → AreSettled facts marks least (value_of old)
      → AreSettled facts marks next (value_of new)
  settled_next marks least next old new is within marked settled h = record {
    right = λ n low marks_n. elim (cases_eq n next) [
      | inl same ↦ subst (λ k. IsNearest (IsBetween (value_of new) facts k) (value_of new k)) (sym same) here
      | inr other ↦ subst (λ (z : ℤ). IsNearest (IsBetween (value_of new) facts n) z) (sym (elsewhere n other))
          (nearest_same (value_of old) (value_of new) n (value_of old n) (λ k less. sym (elsewhere k (apart n k low less)))
          (h.right n (above n low other) marks_n))
    ];
    elsewhere = λ n free. elsewhere n (λ same. free (subst (Marks marks) (sym same) marked)) ∙ h.elsewhere n free;
  }
    where
      above : (n : ℕ) → next ≤ n → (n ≡ next → ⊥) → least ≤ n
      above n low other = omega (arith, is, low, other)

      apart : (n k : ℕ) → next ≤ n → n < k → k ≡ next → ⊥
      apart n k low less same = omega (arith, low, less, same)

      elsewhere : (n : ℕ) → (n ≡ next → ⊥) → value_of new n ≡ value_of old n
      elsewhere n other =
          ap (λ (xs : List ℤ). get_or xs n (pos 0)) settled.1 ∙ get_or-set_other old next n settled.0 (pos 0) other

      value_here : value_of new next ≡ settled.0
      value_here = ap (λ (xs : List ℤ). get_or xs next (pos 0)) settled.1 ∙ get_or-set_same old next settled.0 (pos 0) within

      here : IsNearest (IsBetween (value_of new) facts next) (value_of new next)
      here = subst (λ (z : ℤ). IsNearest (IsBetween (value_of new) facts next) z) (sym value_here)
          (nearest_same (value_of old) (value_of new) next settled.0
          (λ k less. sym (elsewhere k (λ same. below k less same))) settled.2)
        where
          below : (k : ℕ) → next < k → k ≡ next → ⊥
          below k less same = omega (arith, less, same)

  -- so a visit leads on
  pub settled_visit : (marks : List Bool) (least next : ℕ) (old new : List ℤ) → least ≡ suc next → next < length old
      → IsVisited facts marks next old new → AreSettled facts marks least (value_of old) → AreSettled facts marks next (value_of new)
  settled_visit marks least next old new is within visited h = elim visited [
    | inl past ↦ subst (λ (xs : List ℤ). AreSettled facts marks next (value_of xs)) (sym past.1)
        (settled_past marks least next (value_of old) is past.0 h)
    | inr settled ↦ settled_next marks least next old new is within settled.0 settled.1 h
  ]

-- a visit keeps the length
pub visit_length : (facts : List Fact) (marks : List Bool) (n : ℕ) (old new : List ℤ) → IsVisited facts marks n old new
    → length new ≡ length old
visit_length facts marks n old new visited = elim visited [
  | inl past ↦ ap (λ (xs : List ℤ). length xs) past.1
  | inr settled ↦ ap (λ (xs : List ℤ). length xs) settled.1.1 ∙ length-set old n settled.1.0
]

-- one more of the same
pub replicate_next : {X : Type 0} → (xs new : List X) (x : X) (n : ℕ) → new ≡ xs ++ x ∷ [] → xs ≡ replicate n x
    → new ≡ replicate (n + 1) x
replicate_next xs new x n is same = is ∙ ap (λ these. these ++ x ∷ []) same ∙ replicate_more n x

-- what an answer says, in other words
pub match_map : {X : Type 0} → (o : Option X) (A C : Type 0) (B D : X → Type 0) → (A → C) → ((x : X) → B x → D x)
    → MatchOption o A B → MatchOption o C D
match_map None A C B D f g h = f h
match_map (Some x) A C B D f g h = g x h

-- what was chosen for a node at values that are those of the walk
module _ (facts : List Fact) (n x : ℕ) (old slice : List ℤ) (same : slice ≡ old) (here : x ≡ n) where
  pub settled_by : (new : List ℤ) (value : ℤ) → new ≡ set old n value → IsChoice (value_of slice) facts x (choices.Value value)
      → IsSettled facts n old new
  settled_by new value is h = (
    value,
    is,
    subst (λ k. IsNearest (IsBetween (value_of old) facts k) value) here
        (subst (λ (xs : List ℤ). IsNearest (IsBetween (value_of xs) facts x) value) same h.1),
  )

  pub stopped_by_gap : (floor : ℤ) → IsChoice (value_of slice) facts x (choices.Gap floor)
      → IsStop facts (value_of old) n (stops.Gap x floor)
  stopped_by_gap floor h = (
    here,
    subst (λ k. IsChoice (value_of old) facts k (choices.Gap floor)) here
        (subst (λ (xs : List ℤ). IsChoice (value_of xs) facts x (choices.Gap floor)) same h),
  )

  pub stopped_by_post : (post : ℕ) → IsChoice (value_of slice) facts x (choices.Unfit post)
      → IsStop facts (value_of old) n (stops.Unfit x post)
  stopped_by_post post h = (
    here,
    subst (λ k. IsChoice (value_of old) facts k (choices.Unfit post)) here
        (subst (λ (xs : List ℤ). IsChoice (value_of xs) facts x (choices.Unfit post)) same h),
  )
