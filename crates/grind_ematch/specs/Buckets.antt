-- Partial matches sorted into buckets by what some variables stand for.
use Rattle.std.specs.Prelude.{◌≡◌, ◌⊎◌, ℕ, List, [], Option, None, Contains, Bool, IsSome, cond, map, nat_eq, slice_index_or}
use Rattle.std.specs.Option.{option_eq, unwrap_or}
use Rattle.std.specs.Map.{lookup}
use Rattle.std.specs.Cmp.Lexicographic.{pointwise}
use Rattle.grind_ematch.specs.declared.partial.Partial.{Partial}

-- a list of slots
abbrev pub Key : Type 0
Key = List (Option ℕ)

-- the root in the slot of the variable
abbrev pub root_at : Key → ℕ → Option ℕ
root_at slots variable = slice_index_or slots variable None

-- the roots in the slots of the variables
abbrev pub key_at : Key → List ℕ → Key
key_at slots variables = map (root_at slots) variables

-- in each of the list the variable has a root
abbrev pub HasRoots : List Partial → ℕ → Type 0
HasRoots list variable = (partial : Partial) → Contains list partial → IsSome (root_at partial.slots variable)

-- in each of the list each of the variables has a root
abbrev pub HaveRoots : List Partial → List ℕ → Type 0
HaveRoots list variables = (variable : ℕ) → Contains variables variable → HasRoots list variable

-- whether two keys are one, as the code compares them
abbrev pub key_eq : Key → Key → Bool
key_eq = pointwise (option_eq nat_eq)

-- the entries of a table of buckets
abbrev pub Buckets : Type 0
Buckets = List (Key × List Partial)

-- the bucket of a key; none is empty
unfoldable pub bucket_at : Buckets → Key → List Partial
bucket_at buckets key = unwrap_or (lookup (key_eq key) buckets) []

-- the bucket of the key is gone
abbrev pub TakesBucket : Key → Buckets → Buckets → Type 0
TakesBucket key before after =
    (other : Key) → lookup (key_eq other) after ≡ cond (key_eq key other) None (lookup (key_eq other) before)

-- one more partial match is in the bucket of its key
pub record PutsInBucket (variables : List ℕ) (before : Buckets) (partial : Partial) (after : Buckets) : Type 0 where
  pub from : (key : Key) (other : Partial) → Contains (bucket_at after key) other →
      Contains (bucket_at before key) other ⊎ (partial ≡ other)
  pub kept : (key : Key) (other : Partial) → Contains (bucket_at before key) other → Contains (bucket_at after key) other
  pub added : Contains (bucket_at after (key_at partial.slots variables)) partial

-- the buckets have the partial matches of the list, each in that of its key
pub record AreBuckets (variables : List ℕ) (list : List Partial) (buckets : Buckets) : Type 0 where
  pub from : (key : Key) (partial : Partial) → Contains (bucket_at buckets key) partial → Contains list partial
  pub all : (partial : Partial) → Contains list partial → Contains (bucket_at buckets (key_at partial.slots variables)) partial
