-- Lists of partial matches that wait to be joined, at the places of their patterns.
use Rattle.std.specs.Prelude.{◌≡◌, ℕ, ◌<◌, List, [], ◌∷◌, Option, Some, None, IfSome, slice_get, slice_set}
use Rattle.grind_schemes.specs.declared.scheme.Scheme.{Scheme}
use Rattle.grind_ematch.specs.declared.partial.Partial.{Partial}
use Rattle.grind_ematch.specs.Partials.{QueryData, ListsSome}

-- a list at each place, but where it was taken
abbrev pub Places : Type 0
Places = List (Option (List Partial))

-- each list that waits has the partial matches of the pattern at its place
abbrev pub AreOf : QueryData → List Scheme → Places → Type 0
AreOf query [] [] = Unit {0}
AreOf query (pattern ∷ patterns) (place ∷ places) = IfSome place (λ list. ListsSome query pattern list) × AreOf query patterns places
AreOf query _ _ = ⊥

-- the patterns whose lists were taken
abbrev pub taken_of : List Scheme → Places → List Scheme
taken_of [] places = []
taken_of (pattern ∷ patterns) [] = []
taken_of (pattern ∷ patterns) (None ∷ places) = pattern ∷ taken_of patterns places
taken_of (pattern ∷ patterns) (Some list ∷ places) = taken_of patterns places

-- each pattern's list waits
abbrev pub AllWait : QueryData → List Scheme → Places → Type 0
AllWait query patterns places = AreOf query patterns places × (taken_of patterns places ≡ [])

-- a list waits at the place of this number
abbrev pub Waits : Places → ℕ → Type 0
Waits places k = (list : List Partial) × (slice_get places k ≡ Some (Some list))

-- no list waits
abbrev pub NoneWaits : Places → Type 0
NoneWaits places = (k : ℕ) → ¬ Waits places k

-- no list waits at the first places, so many of them
abbrev pub NoneWaitsBelow : ℕ → Places → Type 0
NoneWaitsBelow count places = (k : ℕ) → k < count → ¬ Waits places k

-- the list was taken from its place
abbrev pub Takes : Places → List Partial → Places → Type 0
Takes old list new = (k : ℕ) × (slice_get old k ≡ Some (Some list)) × (new ≡ slice_set old k None)
