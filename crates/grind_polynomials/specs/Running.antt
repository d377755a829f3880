-- A running sum: a map from monomials to their coefficients, the greatest monomial first.
use Rattle.std.specs.Prelude.{zero, suc, List, [], ◌∷◌, ℤ, pos, negsuc}
use Rattle.std.specs.BTreeMap.{BTreeMap, insert_entry, is_at}
use Rattle.std.specs.Map.{lookup, remove_entry}
use Rattle.std.specs.Option.{unwrap_or}
use Rattle.std.specs.declared.cmp.Ordering.{Ordering}
use Rattle.grind_polynomials.specs.declared.keys.Key.{Key}
use Rattle.grind_polynomials.specs.declared.poly.Term.{Term}
use Rattle.grind_polynomials.specs.Polynomials.{term_of}
use Rattle.grind_polynomials.specs.Keys.{descending}

-- how keys are ordered
abbrev pub key_order : Key → Key → Ordering
key_order a b = descending a.monomial b.monomial

-- the entries of the map as terms
abbrev pub entry_terms : List (Key × ℤ) → List Term
entry_terms [] = []
entry_terms (entry ∷ rest) = term_of entry.1 entry.0.monomial ∷ entry_terms rest

-- the terms of the sum
abbrev pub terms_of : BTreeMap Key ℤ → List Term
terms_of sum = entry_terms sum.entries

-- the coefficient at the key, and 0 where there is none
abbrev pub coefficient_of_key : Key → List (Key × ℤ) → ℤ
coefficient_of_key key entries = unwrap_or (lookup (is_at (key_order key)) entries) (pos 0)

-- the entries with this coefficient at the key; one of 0 is left out
abbrev pub with_coefficient : ℤ → Key → List (Key × ℤ) → List (Key × ℤ)
with_coefficient (pos zero) key entries = remove_entry (is_at (key_order key)) entries
with_coefficient (pos (suc n)) key entries = insert_entry key_order entries key (pos (suc n))
with_coefficient (negsuc n) key entries = insert_entry key_order entries key (negsuc n)
