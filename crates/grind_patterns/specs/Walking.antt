-- What the walk of the code leaves, which holds copies of the terms that it takes.
use Rattle.std.specs.Prelude.{List, Option, Some, None}
use Rattle.grind_schemes.specs.declared.scheme.Scheme.{Scheme}
use Rattle.grind_patterns.specs.declared.kind.Kind.{Kind}
use Rattle.grind_patterns.specs.Copies.{AreCopies}
use Rattle.grind_patterns.specs.Patterns.{TakesAt, Walks, WalksEach, Chooses}

-- copies of what a step leads from are followed by copies of what it leads to
abbrev pub Carries : (List Scheme → List Scheme → Type 0) → List Scheme → List Scheme → Type 0
Carries Step old new =
    (before : List Scheme) → AreCopies old before → (after : List Scheme) × Step before after × AreCopies new after

-- at a pattern term
abbrev pub TakesOn : List Scheme → Scheme → List Scheme → Type 0
TakesOn old term new = Carries (λ before after. TakesAt before term after) old new

-- over a scheme
abbrev pub WalksOn : List Scheme → Scheme → List Scheme → Type 0
WalksOn old scheme new = Carries (λ before after. Walks before scheme after) old new

-- over several schemes
abbrev pub WalksEachOn : List Scheme → List Scheme → List Scheme → Type 0
WalksEachOn old schemes new = Carries (λ before after. WalksEach before schemes after) old new

-- copies of what a kind chooses; none where the formula has no such part
abbrev pub ChosenOrNone : Scheme → Kind → Option (List Scheme) → Type 0
ChosenOrNone body kind (Some terms) = (chosen : List Scheme) × Chooses body kind chosen × AreCopies terms chosen
ChosenOrNone body kind None = (chosen : List Scheme) → ¬ Chooses body kind chosen
