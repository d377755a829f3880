-- How partial matches become entries of a table by their slots, and come back.
use Rattle.std.specs.Prelude.{◌≡◌, ◌⊎◌, ℕ, ◌≤◌, List, Option, Contains}
use Rattle.grind_ematch.specs.declared.partial.Partial.{Partial}

-- slots and a generation
abbrev pub Entry : Type 0
Entry = List (Option ℕ) × ℕ

abbrev pub entry : List (Option ℕ) → ℕ → Entry
entry slots generation = (slots, generation)

abbrev pub partial_at : Entry → Partial
partial_at e = record { slots = e.0; generation = e.1 }

-- the entries once a partial match was put among them: of its slots the lesser generation stays
pub record KeepsLeast (before : List Entry) (slots : List (Option ℕ)) (generation : ℕ) (after : List Entry) : Type 0 where
  pub from : (e : Entry) → Contains after e → Contains before e ⊎ (entry slots generation ≡ e)
  pub kept : (e : Entry) → Contains before e → (least : ℕ) × Contains after (entry e.0 least) × (least ≤ e.1)
  pub added : (least : ℕ) × Contains after (entry slots least) × (least ≤ generation)

-- the entries have partial matches of the list alone, and for each of them one of the same slots and no greater generation
pub record HasLeast (list : List Partial) (entries : List Entry) : Type 0 where
  pub from : (e : Entry) → Contains entries e → Contains list (partial_at e)
  pub all : (partial : Partial) → Contains list partial →
      (least : ℕ) × Contains entries (entry partial.slots least) × (least ≤ partial.generation)

-- the list has the entries as partial matches
pub record AreListed (entries : List Entry) (list : List Partial) : Type 0 where
  pub from : (partial : Partial) → Contains list partial → Contains entries (entry partial.slots partial.generation)
  pub all : (e : Entry) → Contains entries e → Contains list (partial_at e)
