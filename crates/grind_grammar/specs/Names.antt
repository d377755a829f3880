-- Which words are names.
use Rattle.std.specs.Prelude.{◌≡◌, ℕ, ◌⊎◌, List, [], ◌∷◌, Contains, codes}

-- the words that are no names
abbrev pub reserved : List (List ℕ)
reserved =
    codes "sort" ∷ codes "fun" ∷ codes "theorem" ∷ codes "goal" ∷ codes "limit" ∷ codes "pattern" ∷ codes "true"
    ∷ codes "false" ∷ codes "Int" ∷ codes "Prop" ∷ codes "_" ∷ []

-- a name: a word that is not reserved
abbrev pub IsName : List ℕ → Type 0
IsName bytes = ¬ Contains reserved bytes

-- a sort: a name, or one of the two sorts that are always there
abbrev pub IsSort : List ℕ → Type 0
IsSort bytes = IsName bytes ⊎ ((bytes ≡ codes "Int") ⊎ (bytes ≡ codes "Prop"))
