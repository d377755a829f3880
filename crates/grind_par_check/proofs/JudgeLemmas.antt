-- Two right answers about the same items are one.
use Rattle.std.proofs.Common.{ℕ, ◌≡◌, ◌<◌, ◌⊎◌, inl, inr, Option, Some, None, refl, ap}
use Rattle.std.proofs.lemmas.Bool.{cases_order}
use Rattle.grind_par_check.specs.Judges.{IsFound, IsFirstBad}

same_place : {holds : ℕ → Type 0} {count a b : ℕ} → IsFirstBad holds count a → IsFirstBad holds count b → (a ≡ b) ⊎ ((a < b) ⊎ (b < a)) → a ≡ b
same_place first second (inl e) = e
same_place {a = a} first second (inr (inl less)) = absurd (first.bad (second.before a less))
same_place {b = b} first second (inr (inr less)) = absurd (second.bad (first.before b less))

pub one_found : (holds : ℕ → Type 0) (count : ℕ) (a b : Option ℕ) → IsFound holds count a → IsFound holds count b → a ≡ b
one_found holds count None None first second = refl
one_found holds count None (Some b) first second = absurd (second.bad (first b second.stands))
one_found holds count (Some a) None first second = absurd (first.bad (second a first.stands))
one_found holds count (Some a) (Some b) first second = ap Some (same_place first second (cases_order a b))
