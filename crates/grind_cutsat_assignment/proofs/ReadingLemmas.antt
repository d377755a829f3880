-- Which nodes are read.
use Rattle.std.proofs.Common.{◌≡◌, ◌⊎◌, inl, inr, ℕ, ◌+◌, ◌<◌, List, [], ◌∷◌, ◌++◌, length, All, Contains, Option, arith, sym, ap, ◌∙◌, subst}
use Rattle.std.proofs.lemmas.Bool.{cases_eq}
use Rattle.std.proofs.lemmas.List.Elements.{All-contains, All-push, Contains-append_left, Contains-push}
use Rattle.grind_term_graph.specs.declared.node.Node.{Node}
use Rattle.grind_linear_forms.specs.Forms.{FormData}
use Rattle.grind_linear_forms.specs.Readings.{linear}
use Rattle.grind_reach.specs.Readings.{found}
use Rattle.grind_classes.specs.Classes.{IsActive}
use Rattle.grind_claims.specs.declared.claim.Claim.{Claim}
use Rattle.grind_claims.specs.declared.claim.Claim.TheVariants.{Differ}
use Rattle.grind_claims.specs.Claims.{IsFormed}
use Rattle.grind_cutsat_facts.specs.declared.facts.Fact.{Fact}
use Rattle.grind_cutsat_facts.specs.Facts.{fact_of, IsSaid}
use Rattle.grind_cutsat_facts.proofs.FactLemmas.{none_listed, first_or_rest}
use Rattle.grind_cutsat_assignment.specs.Given.{Given, SaysDiffer}
use Rattle.grind_cutsat_assignment.specs.Walks.{IsInt, IsReadAt, HasActive, HasSides, HasDiffering, AreRead}

module _ (nodes : List Node) (lists : List (List ℕ)) where
  pub active_first : (ids : List ℕ) → HasActive nodes lists 0 ids
  active_first ids n less active int = absurd (omega (arith, less))

  -- one more is an active whole number
  pub active_push : (ids new : List ℕ) (k : ℕ) → new ≡ ids ++ k ∷ [] → HasActive nodes lists k ids → HasActive nodes lists (k + 1) new
  active_push ids new k is so_far n less active int = subst (λ (xs : List ℕ). Contains xs n) (sym is) (elim (cases_eq n k) [
    | inl same ↦ subst (λ m. Contains (ids ++ k ∷ []) m) (sym same) (Contains-push ids k)
    | inr other ↦ Contains-append_left ids (k ∷ []) n (so_far n (below n less other) active int)
  ])
    where
      below : (n : ℕ) → n < k + 1 → (n ≡ k → ⊥) → n < k
      below n less other = omega (arith, less, other)

  -- or it is none
  pub active_past : (ids : List ℕ) (k : ℕ) → (IsActive lists k → IsInt nodes k → ⊥) → HasActive nodes lists k ids → HasActive nodes lists (k + 1) ids
  active_past ids k none so_far n less active int = elim (cases_eq n k) [
    | inl same ↦ absurd (none (subst (IsActive lists) same active) (subst (IsInt nodes) same int))
    | inr other ↦ so_far n (below n less other) active int
  ]
    where
      below : (n : ℕ) → n < k + 1 → (n ≡ k → ⊥) → n < k
      below n less other = omega (arith, less, other)

-- the two nodes that a claim says differ
abbrev left_of : Claim → ℕ
left_of (Differ a b) = a
left_of _ = 0

abbrev right_of : Claim → ℕ
right_of (Differ a b) = b
right_of _ = 0

-- the nodes that facts say differ are among these, or those facts are left
abbrev pub LeavesDiffering : List Fact → List Fact → List Node → List ℕ → Type 0
LeavesDiffering facts rest nodes ids = (post a b : ℕ) → SaysDiffer facts nodes post a b
    → SaysDiffer rest nodes post a b ⊎ (Contains ids a × Contains ids b)

module _ (nodes : List Node) (facts rest tail : List Fact) (fact : Fact) (is : rest ≡ fact ∷ tail) where
  later : (P : Type 0) (post a b : ℕ) → SaysDiffer rest nodes post a b → (fact.claim ≡ Differ a b → IsInt nodes a → P)
      → (SaysDiffer tail nodes post a b → P) → P
  later P post a b h first more =
      elim (first_or_rest fact tail (fact_of post (Differ a b)) (subst (λ (xs : List Fact). IsSaid xs post (Differ a b)) is h.0)) [
        | inl same ↦ first (ap (λ (it : Fact). it.claim) same) h.1
        | inr there ↦ more (there, h.1)
      ]

  -- the nodes of the fact at hand are added
  pub leaves_next : (ids new : List ℕ) → ((n : ℕ) → Contains ids n → Contains new n) → HasSides fact.claim nodes new
      → LeavesDiffering facts rest nodes ids → LeavesDiffering facts tail nodes new
  leaves_next ids new keeps has so_far post a b h = elim (so_far post a b h) [
    | inl left ↦ later (SaysDiffer tail nodes post a b ⊎ (Contains new a × Contains new b)) post a b left
        (λ e int. inr (has a b e int)) inl
    | inr both ↦ inr (keeps a both.0, keeps b both.1)
  ]

-- the two nodes that a claim says differ, once they are appended to others
module _ (nodes : List Node) (claim : Claim) (ids one new : List ℕ) (x y : ℕ) (says : claim ≡ Differ x y)
    (first : one ≡ ids ++ x ∷ []) (second : new ≡ one ++ y ∷ []) where
  kept_one : (n : ℕ) → Contains one n → Contains new n
  kept_one n has = subst (λ (xs : List ℕ). Contains xs n) (sym second) (Contains-append_left one (y ∷ []) n has)

  pub sides_keep : (n : ℕ) → Contains ids n → Contains new n
  sides_keep n has = kept_one n (subst (λ (xs : List ℕ). Contains xs n) (sym first) (Contains-append_left ids (x ∷ []) n has))

  pub has_sides : HasSides claim nodes new
  has_sides a b e int = (
    subst (Contains new) (ap left_of (sym says ∙ e)) has_first,
    subst (Contains new) (ap right_of (sym says ∙ e)) has_second,
  )
    where
      has_first : Contains new x
      has_first = kept_one x (subst (λ (xs : List ℕ). Contains xs x) (sym first) (Contains-push ids x))

      has_second : Contains new y
      has_second = subst (λ (xs : List ℕ). Contains xs y) (sym second) (Contains-push one y)

  pub sides_ints : IsFormed nodes claim → IsInt nodes x → All (IsInt nodes) ids → All (IsInt nodes) new
  sides_ints formed int all = subst (All (IsInt nodes)) (sym second)
      (All-push (IsInt nodes) one y (subst (All (IsInt nodes)) (sym first) (All-push (IsInt nodes) ids x all int))
      (sym (subst (IsFormed nodes) says formed).1 ∙ int))

pub leaves_none : (nodes : List Node) (facts rest : List Fact) (ids : List ℕ) → length rest ≡ 0 → LeavesDiffering facts rest nodes ids
    → HasDiffering facts nodes ids
leaves_none nodes facts [] ids e so_far post a b h = elim (so_far post a b h) [
  | inl left ↦ absurd (none_listed (fact_of post (Differ a b)) left.0)
  | inr both ↦ both
]
leaves_none nodes facts (fact ∷ rest) ids e so_far post a b h = absurd (omega arith)

-- what is among the nodes that were read stands there
pub read_among : (it : Given) (before ids : List ℕ) (forms : List (Option FormData))
    → ((n : ℕ) → IsActive it.lists n → n < length it.nodes) → ((n : ℕ) → Contains before n → Contains ids n)
    → HasActive it.nodes it.lists (length it.nodes) before → HasDiffering it.facts it.nodes ids
    → All (λ id. id < length forms) ids → All (λ id. found forms id ≡ linear it.nodes id) ids → AreRead it forms
read_among it before ids forms bound keeps active differ within read = record {
  active = λ n on int. there n (keeps n (active n (bound n on) on int));
  differ = λ post a b says. let both = differ post a b says in (there a both.0, there b both.1);
}
  where
    there : (n : ℕ) → Contains ids n → IsReadAt it.nodes forms n
    there n has = (
      All-contains (λ id. id < length forms) ids n within has,
      All-contains (λ id. found forms id ≡ linear it.nodes id) ids n read has,
    )
