-- What a shelf that tells nothing of its files owes, from what its reads say.
use Rattle.std.proofs.Common.{ℕ, ◌≡◌, ◌≤◌, List, None, Ok, Err, Result, sym, subst, le_refl}
use Rattle.std.specs.Prelude.{IfOk, IfSome}
use Rattle.grind_outside.specs.declared.refusal.ReadRefusal.{ReadRefusal}
use Rattle.grind_outside.specs.declared.refusal.ReadRefusal.TheVariants.{Failed, TooLong, Memory}
use Rattle.grind_outside.specs.Outside.{next_count, CountsFault, IfTooLong, OnReadFailed}

-- nothing is told, so nothing is owed
pub whole_untold : (answer : Result (List ℕ) ReadRefusal) → IfOk answer (λ bytes. IfSome None (λ stored. bytes ≡ stored))
whole_untold (Ok bytes) = tt
whole_untold (Err refusal) = tt

pub too_long_untold : {T : Type 0} (answer : Result T ReadRefusal) (limit : ℕ) → IfTooLong answer (λ named. named ≡ limit) →
    IfTooLong answer (λ named. (named ≡ limit) × Unit {0})
too_long_untold (Err Failed) limit h = tt
too_long_untold (Err (TooLong named)) limit h = (h, tt)
too_long_untold (Err Memory) limit h = tt
too_long_untold (Ok value) limit h = tt

-- a count that rose by one was counted
pub counted_exactly : {T : Type 0} (answer : Result T ReadRefusal) (before now : ℕ) → OnReadFailed answer (now ≡ next_count before) →
    OnReadFailed answer (CountsFault before now)
counted_exactly (Err Failed) before now h = subst (λ (n : ℕ). next_count before ≤ n) (sym h) (le_refl (next_count before))
counted_exactly (Err (TooLong limit)) before now h = tt
counted_exactly (Err Memory) before now h = tt
counted_exactly (Ok value) before now h = tt
