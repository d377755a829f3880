-- Which words are a command.
use Rattle.std.specs.Prelude.{◌≡◌, ℕ, List, [], ◌∷◌, codes}

-- the word begins with `-`
abbrev pub BeginsWithDash : List ℕ → Type 0
BeginsWithDash [] = ⊥
BeginsWithDash (b ∷ bs) = b ≡ 45

-- the words are `solve` and the name of a file, which does not begin with `-`
abbrev pub IsSolve : List (List ℕ) → List ℕ → Type 0
IsSolve words name = (words ≡ codes "solve" ∷ name ∷ []) × ¬ BeginsWithDash name
