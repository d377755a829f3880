-- A term of a sort is known and counted, and has no other sort.
use Rattle.std.specs.Prelude.{◌≡◌, ℕ, ◌+◌, List, [], ◌∷◌, length, refl}
use Rattle.std.proofs.Common.{arith, sym, ap, subst, ◌∙◌}
use Rattle.grind_grammar.specs.Terms.{Term, Row, True, False, Number, Apply, One, Two, none, more}
use Rattle.grind_resolution.specs.Scopes.{Given}
use Rattle.grind_resolution.specs.Sorting.{row_length, Known, KnownRow, Counted, CountedRow, HasSort, HaveSorts}
use Rattle.grind_resolution.specs.Laws.{IsSingle}

module _ (gives : List ℕ → Given → Type 0) where
  mutual
    pub sorted_known : (t : Term) (sort : ℕ) → HasSort gives t sort → Known gives t
    sorted_known True sort h = tt
    sorted_known False sort h = tt
    sorted_known (Number value) sort h = tt
    sorted_known (Apply name row) sort h = ((h.0, h.1), sorted_known_row row (h.0).args h.2)
    sorted_known (One op a) sort h = sorted_known a _ h.0
    sorted_known (Two op a b) sort h = (sorted_known a h.0 h.1, sorted_known b h.0 h.2)

    sorted_known_row : (row : Row) (sorts : List ℕ) → HaveSorts gives row sorts → KnownRow gives row
    sorted_known_row none sorts h = tt
    sorted_known_row (more t row) [] h = absurd h
    sorted_known_row (more t row) (sort ∷ sorts) h = (sorted_known t sort h.0, sorted_known_row row sorts h.1)

  row_length-sorts : (row : Row) (sorts : List ℕ) → HaveSorts gives row sorts → row_length row ≡ length sorts
  row_length-sorts none [] h = refl
  row_length-sorts none (sort ∷ sorts) h = absurd h
  row_length-sorts (more t row) [] h = absurd h
  row_length-sorts (more t row) (sort ∷ sorts) h = let e = row_length-sorts row sorts h.1 in omega arith

  mutual
    pub sorted_counted : (t : Term) (sort : ℕ) → HasSort gives t sort → Counted gives t
    sorted_counted True sort h = tt
    sorted_counted False sort h = tt
    sorted_counted (Number value) sort h = tt
    sorted_counted (Apply name row) sort h =
        ((h.0, h.1, row_length-sorts row (h.0).args h.2), sorted_counted_row row (h.0).args h.2)
    sorted_counted (One op a) sort h = sorted_counted a _ h.0
    sorted_counted (Two op a b) sort h = (sorted_counted a h.0 h.1, sorted_counted b h.0 h.2)

    sorted_counted_row : (row : Row) (sorts : List ℕ) → HaveSorts gives row sorts → CountedRow gives row
    sorted_counted_row none sorts h = tt
    sorted_counted_row (more t row) [] h = absurd h
    sorted_counted_row (more t row) (sort ∷ sorts) h = (sorted_counted t sort h.0, sorted_counted_row row sorts h.1)

  -- the sort of a term is that of its name or operator
  pub sort_unique : IsSingle gives → (t : Term) (a b : ℕ) → HasSort gives t a → HasSort gives t b → a ≡ b
  sort_unique single True a b h k = h ∙ sym k
  sort_unique single False a b h k = h ∙ sym k
  sort_unique single (Number value) a b h k = h ∙ sym k
  sort_unique single (Apply name row) a b h k = h.3 ∙ ap (λ (g : Given). g.sort) (single name h.0 k.0 h.1 k.1) ∙ sym k.3
  sort_unique single (One op part) a b h k = h.1 ∙ sym k.1
  sort_unique single (Two op left right) a b h k = h.4 ∙ sym k.4
