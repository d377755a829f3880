-- Words and numbers of a line of a report.
use Rattle.std.specs.Prelude.{◌≡◌, ℕ, ◌<◌, ◌^◌, List, ◌∷◌, map, All, decimal, ℤ, FitsSigned}
use Rattle.std.specs.Fmt.{signed_decimal}
use Rattle.std.specs.Int.{w128}

-- a line as its words, each of them bytes
abbrev pub Words : Type 0
Words = List (List ℕ)

-- a natural number that a report may hold
abbrev pub IsShort : ℕ → Type 0
IsShort n = n < 2 ^ 32

-- a whole number that a report may hold: one of at most 128 bits
abbrev pub IsWide : ℤ → Type 0
IsWide z = FitsSigned w128 z

-- the word is that number in decimal, without leading zeros
abbrev pub IsNatural : List ℕ → ℕ → Type 0
IsNatural word n = (word ≡ decimal n) × IsShort n

-- and that whole number, with a minus sign before a negative one alone
abbrev pub IsInteger : List ℕ → ℤ → Type 0
IsInteger word z = (word ≡ signed_decimal z) × IsWide z

-- the line is a title with natural numbers after it, each in decimal
abbrev pub IsRow : Words → List ℕ → List ℕ → Type 0
IsRow words title numbers = (words ≡ title ∷ map decimal numbers) × All IsShort numbers
