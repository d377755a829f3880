-- Worked cases: of a constant, its negation, a function of that and the sum of the two, all marked, the sum is the last
-- that is read by the negation.
use Rattle.std.specs.Prelude.{◌<◌, ◌≤◌, ℕ, List, [], ◌∷◌, Bool, true, Option, Some, None}
use Rattle.std.proofs.Common.{inl, inr, refl, arith}
use Rattle.std.proofs.lemmas.Option.{slice_get_within}
use Rattle.grind_term_graph.specs.declared.head.Head.TheVariants as head
use Rattle.grind_reach.specs.Marks.{IsReader, IsLastReader, IsLastUse, AreInUse}
use Rattle.grind_reach.specs.ReachedCases.{terms}

-- a mark for each
abbrev marks : List Bool
marks = true ∷ true ∷ true ∷ true ∷ []

-- the sum is read by the negation
sum_is_a_reader : IsReader terms marks 3 1
sum_is_a_reader = (record { head = head.Add; sort = 1; args = 1 ∷ 2 ∷ [] }, refl, refl, refl, (0, omega arith, refl))

-- no node after the sum is there
pub sum_is_the_last : IsLastReader terms marks 1 3
sum_is_the_last = (λ n reads. let inside : n < 4 = slice_get_within terms n reads.0 reads.1 in omega arith, inr sum_is_a_reader)

-- the function comes before the sum
pub function_is_not_the_last : IsLastReader terms marks 1 2 → ⊥
function_is_not_the_last last = let too_low = last.0 3 sum_is_a_reader in absurd (omega arith)

-- the sum is a root, and is used after all
pub sum_is_used_last : IsLastUse terms marks (3 ∷ []) 3 4
sum_is_used_last = inl ((0, omega arith, refl), refl)

pub negation_is_used_by_the_sum : IsLastUse terms marks (3 ∷ []) 1 3
negation_is_used_by_the_sum = inr sum_is_the_last

-- the last uses of the four
abbrev uses : List ℕ
uses = 1 ∷ 3 ∷ 3 ∷ 4 ∷ []

-- the constant's reading is not held once its negation is read
pub held_too_long : AreInUse {R = ℕ} marks uses (Some 5 ∷ Some 6 ∷ []) → ⊥
held_too_long held = let later : 2 ≤ 1 = (held 0 5 refl).1 in absurd (omega arith)
