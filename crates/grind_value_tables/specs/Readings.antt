-- How the values of one or two arguments are read from a list of values.
use Rattle.std.specs.Prelude.{List, [], ◌∷◌, Option, Some, None, ℤ}

-- the only value, where there is one
abbrev pub one_of : List ℤ → Option ℤ
one_of [] = None
one_of (a ∷ []) = Some a
one_of (a ∷ b ∷ rest) = None

-- the two values, where there are two
abbrev pub two_of : List ℤ → Option (ℤ × ℤ)
two_of [] = None
two_of (a ∷ []) = None
two_of (a ∷ b ∷ []) = Some (a, b)
two_of (a ∷ b ∷ c ∷ rest) = None
