-- Active nodes sorted by the functions that they apply.
use Rattle.std.specs.Prelude.{◌≡◌, ℕ, ◌<◌, ◌↔◌, List, [], Contains, nat_eq}
use Rattle.std.specs.Option.{unwrap_or}
use Rattle.std.specs.Map.{lookup}
use Rattle.grind_term_graph.specs.declared.head.Head.{Head}
use Rattle.grind_term_graph.specs.declared.head.Head.TheVariants.{Fun}
use Rattle.grind_ematch.specs.Matches.{Scene}
use Rattle.grind_ematch.specs.Partials.{IsCandidate, AreCandidates, AddsCandidate}

-- a declared function
abbrev pub IsFunction : Head → Type 0
IsFunction head = (function : ℕ) × (head ≡ Fun function)

-- the entries of an index: functions with nodes
abbrev pub Entries : Type 0
Entries = List (ℕ × List ℕ)

-- the nodes that the index has for a function
unfoldable pub nodes_at : Entries → ℕ → List ℕ
nodes_at entries function = unwrap_or (lookup (nat_eq function) entries) []

-- the index has for each function the active nodes that apply it
abbrev pub IsIndex : Scene → Entries → Type 0
IsIndex scene entries = (function : ℕ) → AreCandidates scene (Fun function) (nodes_at entries function)

-- it has those below a number
abbrev pub IsIndexBelow : Scene → ℕ → Entries → Type 0
IsIndexBelow scene number entries =
    (function n : ℕ) → Contains (nodes_at entries function) n ↔ ((n < number) × IsCandidate scene (Fun function) n)

-- the index goes on with this node, if it is active, at the function that it applies
abbrev pub AddsNode : Scene → ℕ → Entries → Entries → Type 0
AddsNode scene n old new =
    (function : ℕ) → AddsCandidate scene (Fun function) n (nodes_at old function) (nodes_at new function)
