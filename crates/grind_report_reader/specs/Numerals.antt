-- Digits and numerals, as they are read. No public clause cites these words.
use Rattle.std.specs.Prelude.{◌≡◌, ◌≢◌, ◌≤◌, ℕ, List, [], ◌∷◌, All, ◌⊎◌}

-- a decimal digit
abbrev pub IsDigit : ℕ → Type 0
IsDigit byte = (48 ≤ byte) × (byte ≤ 57)

abbrev pub AreDigits : List ℕ → Type 0
AreDigits word = All IsDigit word

-- digits, at least one, of which the first is no zero unless it is the only one
abbrev pub IsNumeral : List ℕ → Type 0
IsNumeral [] = ⊥
IsNumeral (byte ∷ bytes) = ((byte ≢ 48) × AreDigits (byte ∷ bytes)) ⊎ ((byte ≡ 48) × (bytes ≡ []))

-- neither a space nor a line feed
abbrev pub IsSolidByte : ℕ → Type 0
IsSolidByte byte = (byte ≢ 32) × (byte ≢ 10)
