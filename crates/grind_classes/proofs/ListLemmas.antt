-- Lists that are made longer by items that say nothing.
use Rattle.std.specs.Prelude.{◌≡◌, ℕ, zero, suc, ◌+◌, ◌-◌, ◌<◌, ◌≤◌, List, [], ◌∷◌, ◌++◌, Option, Some, None, All, Contains, length, get_or, set, replicate, ◌⊎◌, refl}
use Rattle.std.proofs.Common.{arith, sym, ◌∙◌, subst, append_assoc, inl, inr}
use Rattle.std.proofs.lemmas.Bool.{cases_eq}
use Rattle.std.proofs.lemmas.List.{append-nil, length-append, length-replicate, length-set, get_or-set_same, get_or-set_other}
use Rattle.std.proofs.lemmas.List.Elements.{All-head, All-tail, Contains-append_cases}
use Rattle.grind_classes.specs.Classes.{AreApart, long_enough, members_of}
use Rattle.grind_classes.specs.Roots.{root_at, repointed}

-- one more empty list on the way to a length
pub long_enough-push : (lists : List (List ℕ)) (n : ℕ) → length lists ≤ n → long_enough (lists ++ [] ∷ []) n ≡ long_enough lists n
long_enough-push lists n short =
    let count : n + 1 - length lists ≡ suc (n + 1 - length (lists ++ [] ∷ [])) = omega (arith, length-append lists ([] ∷ [])) in
    rw (count, append_assoc) refl

-- a list that is long enough stays
pub long_enough-all : (lists : List (List ℕ)) (n : ℕ) → n < length lists → long_enough lists n ≡ lists
long_enough-all lists n long =
    let none : n + 1 - length lists ≡ 0 = omega arith in rw (none, append-nil) refl

pub long_enough-within : (lists : List (List ℕ)) (n : ℕ) → n < length (long_enough lists n)
long_enough-within lists n =
    omega (arith, length-append lists (replicate (n + 1 - length lists) []), length-replicate {A = List ℕ} (n + 1 - length lists) [])

-- an item that says nothing changes no look-up
pub get_or-blank : {X : Type 0} (xs : List X) (k : ℕ) (blank : X) (i : ℕ) → get_or (xs ++ replicate k blank) i blank ≡ get_or xs i blank
get_or-blank [] zero blank i = refl
get_or-blank [] (suc k) blank zero = refl
get_or-blank [] (suc k) blank (suc i) = get_or-blank [] k blank i
get_or-blank (x ∷ xs) k blank zero = refl
get_or-blank (x ∷ xs) k blank (suc i) = get_or-blank xs k blank i

pub root_at-push : (roots : List (Option ℕ)) (m : ℕ) → root_at (roots ++ None ∷ []) m ≡ root_at roots m
root_at-push roots m = get_or-blank roots 1 None m

-- a node with a root is within the array
pub root_within : (roots : List (Option ℕ)) (n r : ℕ) → root_at roots n ≡ Some r → n < length roots
root_within [] n r e = absurd cc
root_within (x ∷ roots) zero r e = omega arith
root_within (x ∷ roots) (suc n) r e = let h = root_within roots n r e in omega arith

-- a node of a class is within the lists
pub members_within : (lists : List (List ℕ)) (r n : ℕ) → Contains (members_of lists r) n → r < length lists
members_within [] r n has = absurd (omega (arith, has.1))
members_within (list ∷ lists) zero n has = omega arith
members_within (list ∷ lists) (suc r) n has = let h = members_within lists r n has in omega arith

-- what stands in the rest of a list stands in the list
pub Contains-more : {X : Type 0} (x : X) (xs : List X) (y : X) → Contains xs y → Contains (x ∷ xs) y
Contains-more x xs y has = (suc has.0, omega (arith, has.1), has.2)

-- what stands in a list is its first item or stands in the rest
pub Contains-cases : {X : Type 0} (x : X) (xs : List X) (y : X) → Contains (x ∷ xs) y → (x ≡ y) ⊎ Contains xs y
Contains-cases x xs y (zero, within, is) = inl is
Contains-cases x xs y (suc k, within, is) = inr (k, omega (arith, within), is)

pub Contains-nil : {X : Type 0} (y : X) → Contains [] y → ⊥
Contains-nil y has = absurd (omega (arith, has.1))

-- lists without repeats that have nothing in common
pub AreApart-append : (xs ys : List ℕ) → AreApart xs → AreApart ys → ((n : ℕ) → Contains xs n → Contains ys n → ⊥)
    → AreApart (xs ++ ys)
AreApart-append [] ys left right apart = right
AreApart-append (x ∷ xs) ys left right apart = (
  λ has. elim (Contains-append_cases xs ys x has) [
    | inl here ↦ left.0 here
    | inr there ↦ apart x (0, omega arith, refl) there
  ],
  AreApart-append xs ys left.1 right (λ n here there. apart n (Contains-more x xs n here) there),
)

-- the roots of nodes that were given one root
pub repointed-length : (roots : List (Option ℕ)) (nodes : List ℕ) (root : ℕ) → length (repointed roots nodes root) ≡ length roots
repointed-length roots [] root = refl
repointed-length roots (n ∷ nodes) root =
    repointed-length (set roots n (Some root)) nodes root ∙ length-set roots n (Some root)

-- of the others
pub repointed-out : (roots : List (Option ℕ)) (nodes : List ℕ) (root m : ℕ) → (Contains nodes m → ⊥)
    → root_at (repointed roots nodes root) m ≡ root_at roots m
repointed-out roots [] root m out = refl
repointed-out roots (n ∷ nodes) root m out =
    repointed-out (set roots n (Some root)) nodes root m (λ has. out (Contains-more n nodes m has))
    ∙ get_or-set_other roots n m (Some root) None (λ e. out (0, omega arith, sym e))

-- a node that has the root keeps it
pub repointed-kept : (roots : List (Option ℕ)) (nodes : List ℕ) (root m : ℕ) → All (λ n. n < length roots) nodes
    → root_at roots m ≡ Some root → root_at (repointed roots nodes root) m ≡ Some root
repointed-kept roots [] root m within has = has
repointed-kept roots (n ∷ nodes) root m within has =
    let below : n < length roots = All-head (λ k. k < length roots) n nodes within in
    let rest : All (λ k. k < length (set roots n (Some root))) nodes =
    rw length-set (All-tail (λ k. k < length roots) n nodes within) in
    repointed-kept (set roots n (Some root)) nodes root m rest
    (elim (cases_eq m n) [
      | inl e ↦ subst (λ (j : ℕ). root_at (set roots n (Some root)) j ≡ Some root) (sym e) (get_or-set_same roots n (Some root) None below)
      | inr e ↦ get_or-set_other roots n m (Some root) None e ∙ has
    ])

-- of those nodes
pub repointed-in : (roots : List (Option ℕ)) (nodes : List ℕ) (root m : ℕ) → All (λ n. n < length roots) nodes
    → Contains nodes m → root_at (repointed roots nodes root) m ≡ Some root
repointed-in roots [] root m within has = absurd (Contains-nil m has)
repointed-in roots (n ∷ nodes) root m within has =
    let below : n < length roots = All-head (λ k. k < length roots) n nodes within in
    let rest : All (λ k. k < length (set roots n (Some root))) nodes =
    rw length-set (All-tail (λ k. k < length roots) n nodes within) in
    elim (Contains-cases n nodes m has) [
      | inl e ↦ repointed-kept (set roots n (Some root)) nodes root m rest
          (subst (λ (j : ℕ). root_at (set roots n (Some root)) j ≡ Some root) e (get_or-set_same roots n (Some root) None below))
      | inr later ↦ repointed-in (set roots n (Some root)) nodes root m rest later
    ]
