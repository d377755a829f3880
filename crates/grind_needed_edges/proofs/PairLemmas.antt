-- What a table of pairs finds.
use Rattle.std.specs.Prelude.{◌≡◌, ℕ, Bool, true, false, cond, nat_eq, List, [], ◌∷◌, ◌++◌, Some, None, Contains, ◌⊎◌, refl}
use Rattle.std.specs.Map.{lookup}
use Rattle.indexmap.specs.IndexMap.{insert_entry}
use Rattle.std.proofs.Common.{arith, sym, ap, ◌∙◌, subst, inl, inr, rules}
use Rattle.std.proofs.lemmas.Bool.{false≢true, and_parts}
use Rattle.std.proofs.lemmas.Option.{same_Some}
use Rattle.std.proofs.lemmas.List.Elements.{Contains-append_left, Contains-append_right, Contains-append_cases}
use Rattle.grind_classes.proofs.ListLemmas.{Contains-more, Contains-nil, Contains-cases}
use Rattle.grind_needed_edges.specs.declared.pairs.Pair.{Pair}
use Rattle.grind_needed_edges.specs.contracts.pairs.PairPartialEq.TheImpl as same
use Rattle.grind_needed_edges.specs.Numbered.{pair_of, HasNumber, KeepsNumbers, IsNoted}

-- whether two pairs are one, as the code compares them
abbrev pub pair_eq : Pair → Pair → Bool
pair_eq = (same.ghosts).eq

same_pair : (p q : Pair) → p.left ≡ q.left → p.right ≡ q.right → p ≡ q
same_pair p q e f = λ i. record { left = e i; right = f i }

nat_eq-same : (a b : ℕ) → nat_eq a b ≡ true → a ≡ b
nat_eq-same a b e = search rules

pub pair_eq-same : (p q : Pair) → pair_eq p q ≡ true → p ≡ q
pair_eq-same p q e =
    let parts = and_parts (nat_eq p.left q.left) (nat_eq p.right q.right) e in
    same_pair p q (nat_eq-same p.left q.left parts.0) (nat_eq-same p.right q.right parts.1)

pub pair_eq-refl : (p : Pair) → pair_eq p p ≡ true
pair_eq-refl p = search rules

-- what a look-up finds stands among the entries
found_in : (entry : Pair × ℕ) (entries : List (Pair × ℕ)) (key : Pair) (m : ℕ)
    → (lookup (pair_eq key) entries ≡ Some m → Contains entries (key, m))
    → lookup (pair_eq key) (entry ∷ entries) ≡ Some m → Contains (entry ∷ entries) (key, m)
found_in entry entries key m rest e = pick (pair_eq key entry.0) refl e
  where
    pick : (t : Bool) → pair_eq key entry.0 ≡ t → cond t (Some entry.1) (lookup (pair_eq key) entries) ≡ Some m
        → Contains (entry ∷ entries) (key, m)
    pick true same is =
        let left : entry.0 ≡ key = sym (pair_eq-same key entry.0 same) in
        let right : entry.1 ≡ m = same_Some entry.1 m is in
        (0, omega arith, λ i. (left i, right i))
    pick false same is = Contains-more entry entries (key, m) (rest is)

pub found_entry : (entries : List (Pair × ℕ)) (key : Pair) (m : ℕ) → lookup (pair_eq key) entries ≡ Some m → Contains entries (key, m)
found_entry [] key m e = absurd cc
found_entry (entry ∷ entries) key m e = found_in entry entries key m (found_entry entries key m) e

-- and what it does not find is not there
none_in : (entry : Pair × ℕ) (entries : List (Pair × ℕ)) (key : Pair) (m : ℕ)
    → (lookup (pair_eq key) entries ≡ None → Contains entries (key, m) → ⊥)
    → lookup (pair_eq key) (entry ∷ entries) ≡ None → Contains (entry ∷ entries) (key, m) → ⊥
none_in entry entries key m rest e has = pick (pair_eq key entry.0) refl e
  where
    pick : (t : Bool) → pair_eq key entry.0 ≡ t → cond t (Some entry.1) (lookup (pair_eq key) entries) ≡ None → ⊥
    pick true same is = absurd cc
    pick false same is = elim (Contains-cases entry entries (key, m) has) [
      | inl here ↦
          let keys : entry.0 ≡ key = ap (λ (p : Pair × ℕ). p.0) here in
          false≢true (sym same ∙ ap (pair_eq key) keys ∙ pair_eq-refl key)
      | inr later ↦ rest is later
    ]

pub none_entry : (entries : List (Pair × ℕ)) (key : Pair) (m : ℕ) → lookup (pair_eq key) entries ≡ None → Contains entries (key, m) → ⊥
none_entry [] key m e has = Contains-nil (key, m) has
none_entry (entry ∷ entries) key m e has = none_in entry entries key m (none_entry entries key m) e has

-- a new key goes last
last_in : (entry : Pair × ℕ) (entries : List (Pair × ℕ)) (key : Pair) (n : ℕ) → ((m : ℕ) → Contains (entry ∷ entries) (key, m) → ⊥)
    → insert_entry pair_eq entries key n ≡ entries ++ (key, n) ∷ []
    → insert_entry pair_eq (entry ∷ entries) key n ≡ entry ∷ (entries ++ (key, n) ∷ [])
last_in entry entries key n none rest = pick (pair_eq key entry.0) refl
  where
    pick : (t : Bool) → pair_eq key entry.0 ≡ t
        → cond t ((entry.0, n) ∷ entries) (entry ∷ insert_entry pair_eq entries key n) ≡ entry ∷ (entries ++ (key, n) ∷ [])
    pick true same =
        let keys : entry.0 ≡ key = sym (pair_eq-same key entry.0 same) in
        absurd (none entry.1 (0, omega arith, λ i. (keys i, entry.1)))
    pick false same = ap (λ (es : List (Pair × ℕ)). entry ∷ es) rest

pub entered_last : (entries : List (Pair × ℕ)) (key : Pair) (n : ℕ) → ((m : ℕ) → Contains entries (key, m) → ⊥)
    → insert_entry pair_eq entries key n ≡ entries ++ (key, n) ∷ []
entered_last [] key n none = refl
entered_last (entry ∷ entries) key n none =
    last_in entry entries key n none (entered_last entries key n (λ m has. none m (Contains-more entry entries (key, m) has)))

-- the last entry stands there
pub last_entry : (entries : List (Pair × ℕ)) (entry : Pair × ℕ) → Contains (entries ++ entry ∷ []) entry
last_entry entries entry = Contains-append_right entries (entry ∷ []) entry (0, omega arith, refl)

-- an entry of a table with one more is that one or one of the others
pub entry_cases : (entries : List (Pair × ℕ)) (entry it : Pair × ℕ) → Contains (entries ++ entry ∷ []) it → Contains entries it ⊎ (entry ≡ it)
entry_cases entries entry it has = elim (Contains-append_cases entries (entry ∷ []) it has) [
  | inl before ↦ inl before
  | inr last ↦ elim (Contains-cases entry [] it last) [
    | inl here ↦ inr here
    | inr more ↦ absurd (Contains-nil it more)
  ]
]

-- each pair keeps its number where one is put last
pub KeepsNumbers-put : (old new : List (Pair × ℕ)) (entry : Pair × ℕ) → new ≡ old ++ entry ∷ [] → KeepsNumbers old new
KeepsNumbers-put old new entry is pair n has =
    subst (λ (es : List (Pair × ℕ)). Contains es (pair, n)) (sym is) (Contains-append_left old (entry ∷ []) (pair, n) has)

-- and where one is noted, and then the pair has one
pub KeepsNumbers-noted : (old new : List (Pair × ℕ)) (a b n : ℕ) → IsNoted old a b n new → KeepsNumbers old new
KeepsNumbers-noted old new a b n (inl same) pair m has = subst (λ (es : List (Pair × ℕ)). Contains es (pair, m)) (sym same.0) has
KeepsNumbers-noted old new a b n (inr put) pair m has = KeepsNumbers-put old new (pair_of a b, n) put.1 pair m has

pub HasNumber-noted : (old new : List (Pair × ℕ)) (a b n : ℕ) → IsNoted old a b n new → HasNumber new a b
HasNumber-noted old new a b n (inl same) = subst (λ (es : List (Pair × ℕ)). HasNumber es a b) (sym same.0) same.1
HasNumber-noted old new a b n (inr put) =
    (n, subst (λ (es : List (Pair × ℕ)). Contains es (pair_of a b, n)) (sym put.1) (last_entry old (pair_of a b, n)))

-- a pair that was put last has a number
pub HasNumber-put : (old new : List (Pair × ℕ)) (a b n : ℕ) → new ≡ old ++ (pair_of a b, n) ∷ [] → HasNumber new a b
HasNumber-put old new a b n is =
    (n, subst (λ (es : List (Pair × ℕ)). Contains es (pair_of a b, n)) (sym is) (last_entry old (pair_of a b, n)))
