-- What stands on the notes after a run.
use Rattle.std.specs.Prelude.{◌≡◌, ℕ, ◌⊎◌, List, Option}
use Rattle.grind_outside.specs.declared.refusal.SinkRefusal.{SinkRefusal}
use Rattle.grind_outside.specs.Outside.{appended, IsFront}

-- some put of a piece was refused, and left the sink as it is now
abbrev pub WasRefused : {E : Type 0} → (E → List ℕ → SinkRefusal → E → Type 0) → E → Type 0
WasRefused {E} refuses now = (before : E) × (piece : List ℕ) × (refusal : SinkRefusal) × refuses before piece refusal now

-- some first bytes of the line were written, and all of them unless a put was refused
abbrev pub Notes : {E : Type 0} → (E → Option (List ℕ)) → (E → List ℕ → SinkRefusal → E → Type 0) → E → E → List ℕ → Type 0
Notes {E} written refuses old new line =
    (front : List ℕ) × IsFront front line × (written new ≡ appended (written old) front) × ((front ≡ line) ⊎ WasRefused refuses new)
