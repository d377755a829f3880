-- Faults that are counted, bytes that are written, and the refusals of a shelf and of a sink.
use Rattle.std.specs.Prelude.{◌≡◌, ℕ, ◌+◌, ◌-◌, ◌^◌, ◌≤◌, min, List, ◌++◌, Option, Some, None, Result, Ok, Err}
use Rattle.grind_outside.specs.declared.refusal.ReadRefusal.{ReadRefusal}
use Rattle.grind_outside.specs.declared.refusal.ReadRefusal.TheVariants.{Failed as ReadFailed, TooLong, Memory as ReadMemory}
use Rattle.grind_outside.specs.declared.refusal.SinkRefusal.{SinkRefusal}
use Rattle.grind_outside.specs.declared.refusal.SinkRefusal.TheVariants.{Failed as PutFailed, Memory as PutMemory}

-- the next number of a count that stays at 2^64 - 1
abbrev pub next_count : ℕ → ℕ
next_count n = min (n + 1) (2 ^ 64 - 1)

-- a fault was counted: the count rose, or stood at its last value
abbrev pub CountsFault : ℕ → ℕ → Type 0
CountsFault before now = next_count before ≤ now

-- the bytes written so far, where they are told, and these bytes after them
abbrev pub appended : Option (List ℕ) → List ℕ → Option (List ℕ)
appended None bytes = None
appended (Some written) bytes = Some (written ++ bytes)

-- the whole begins with the front
abbrev pub IsFront : List ℕ → List ℕ → Type 0
IsFront front whole = (rest : List ℕ) × (whole ≡ front ++ rest)

-- the fact, where the read failed
abbrev pub OnReadFailed : {T : Type 0} → Result T ReadRefusal → Type 0 → Type 0
OnReadFailed (Err ReadFailed) P = P
OnReadFailed (Err (TooLong limit)) P = Unit {0}
OnReadFailed (Err ReadMemory) P = Unit {0}
OnReadFailed (Ok value) P = Unit {0}

-- the fact, for every answer of a read but that it failed
abbrev pub UnlessReadFailed : {T : Type 0} → Result T ReadRefusal → Type 0 → Type 0
UnlessReadFailed (Err ReadFailed) P = Unit {0}
UnlessReadFailed (Err (TooLong limit)) P = P
UnlessReadFailed (Err ReadMemory) P = P
UnlessReadFailed (Ok value) P = P

-- the fact for the limit that is named, where the file is too long
abbrev pub IfTooLong : {T : Type 0} → Result T ReadRefusal → (ℕ → Type 0) → Type 0
IfTooLong (Err ReadFailed) P = Unit {0}
IfTooLong (Err (TooLong limit)) P = P limit
IfTooLong (Err ReadMemory) P = Unit {0}
IfTooLong (Ok value) P = Unit {0}

-- the fact, where the write failed
abbrev pub OnPutFailed : {T : Type 0} → Result T SinkRefusal → Type 0 → Type 0
OnPutFailed (Err PutFailed) P = P
OnPutFailed (Err PutMemory) P = Unit {0}
OnPutFailed (Ok value) P = Unit {0}

-- the fact, for every answer of a write but that it failed
abbrev pub UnlessPutFailed : {T : Type 0} → Result T SinkRefusal → Type 0 → Type 0
UnlessPutFailed (Err PutFailed) P = Unit {0}
UnlessPutFailed (Err PutMemory) P = P
UnlessPutFailed (Ok value) P = P
