-- What the code reads from a place of its source, and where the rest begins.
use Rattle.std.specs.Prelude.{◌≡◌, ℕ, ◌-◌, ◌≤◌, ◌<◌, List, Option, Some, None, length, drop}
use Rattle.grind_grammar.specs.Lexemes.{Lexeme, lexemes}
use Rattle.grind_grammar.specs.Reading.{Read, read, read_map}
use Rattle.grind_syntax.specs.declared.source.Source.{Source}

-- the lexemes from this place on
abbrev pub ahead : Source → ℕ → List Lexeme
ahead source at = lexemes source.text.now (drop at source.tokens.now)

-- how many tokens there are from this place on
abbrev pub count_ahead : Source → ℕ → ℕ
count_ahead source at = length source.tokens.now - at

-- a token stands at the first place, and the other one is later
abbrev pub IsPast : Source → ℕ → ℕ → Type 0
IsPast source at left = (at < length source.tokens.now) × (at < left)

-- where the code finds nothing, the reading gives nothing; where it finds a value, the reading gives what the value
-- stands for, and leaves the lexemes from the place that was found
abbrev pub Gives : {A B : Type 0} → Source → Read B → (A → B) → Option (A × ℕ) → Type 0
Gives source reading value None = reading ≡ None
Gives source reading value (Some found) = reading ≡ read (value found.0) (ahead source found.1)

-- the same, where what the value stands for is made of what the reading gives
abbrev pub GivesMade : {A B C : Type 0} → Source → (C → B) → Read C → (A → B) → Option (A × ℕ) → Type 0
GivesMade source made reading value None = reading ≡ None
GivesMade source made reading value (Some found) = read_map made reading ≡ read (value found.0) (ahead source found.1)

-- what was found has this property, and the rest begins no earlier than the reading did
abbrev pub Leaves : {A : Type 0} → (A → Type 0) → ℕ → Option (A × ℕ) → Type 0
Leaves P at None = Unit {0}
Leaves P at (Some found) = P found.0 × (at ≤ found.1)

-- what was found has this property, and was at least one token
abbrev pub Takes : {A : Type 0} → Source → (A → Type 0) → ℕ → Option (A × ℕ) → Type 0
Takes source P at None = Unit {0}
Takes source P at (Some found) = P found.0 × IsPast source at found.1
