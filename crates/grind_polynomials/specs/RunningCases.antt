-- Worked cases: of each word a case with a term that is there, and one with a term that is not.
use Rattle.std.specs.Prelude.{◌≡◌, ℕ, List, [], ◌∷◌, ℤ, pos, refl}
use Rattle.std.specs.declared.cmp.Ordering.TheVariants.{Less, Equal, Greater}
use Rattle.grind_monomials.specs.Order.{place, place_by_nodes}
use Rattle.grind_polynomials.specs.declared.keys.Key.{Key}
use Rattle.grind_polynomials.specs.Polynomials.{term_of}
use Rattle.grind_polynomials.specs.Keys.{descending}
use Rattle.grind_polynomials.specs.Running.{entry_terms, coefficient_of_key, with_coefficient}

abbrev key_of : List ℕ → Key
key_of monomial = record { monomial = monomial }

-- `2xy + 4`
abbrev entries : List (Key × ℤ)
entries = (key_of (2 ∷ 3 ∷ []), pos 2) ∷ (key_of [], pos 4) ∷ []

-- `xy` comes before `y`, and `y` after `x`
pub greater_first : descending (2 ∷ 3 ∷ []) (3 ∷ []) ≡ Less
unfolding place place_by_nodes
greater_first = refl

pub lesser_last : descending (3 ∷ []) (2 ∷ []) ≡ Greater
unfolding place place_by_nodes
lesser_last = refl

pub itself : descending (3 ∷ []) (3 ∷ []) ≡ Equal
unfolding place place_by_nodes
itself = refl

pub as_terms : entry_terms entries ≡ term_of (pos 2) (2 ∷ 3 ∷ []) ∷ term_of (pos 4) [] ∷ []
as_terms = refl

-- 4 stands at 1, and nothing at `y`
pub found : coefficient_of_key (key_of []) entries ≡ pos 4
unfolding place place_by_nodes
found = refl

pub not_found : coefficient_of_key (key_of (3 ∷ [])) entries ≡ pos 0
unfolding place place_by_nodes
not_found = refl

-- `5y` goes between both, `5` replaces `4`, and 0 takes it out
pub put_between : entry_terms (with_coefficient (pos 5) (key_of (3 ∷ [])) entries)
    ≡ term_of (pos 2) (2 ∷ 3 ∷ []) ∷ term_of (pos 5) (3 ∷ []) ∷ term_of (pos 4) [] ∷ []
unfolding place place_by_nodes
put_between = refl

pub replaced : entry_terms (with_coefficient (pos 5) (key_of []) entries) ≡ term_of (pos 2) (2 ∷ 3 ∷ []) ∷ term_of (pos 5) [] ∷ []
unfolding place place_by_nodes
replaced = refl

pub taken_out : entry_terms (with_coefficient (pos 0) (key_of []) entries) ≡ term_of (pos 2) (2 ∷ 3 ∷ []) ∷ []
unfolding place place_by_nodes
taken_out = refl

pub none_to_take_out : entry_terms (with_coefficient (pos 0) (key_of (3 ∷ [])) entries) ≡ entry_terms entries
unfolding place place_by_nodes
none_to_take_out = refl
