-- What quotients and remainders, which round toward 0, tell of multiples and of quotients that are rounded up.
use Rattle.std.specs.Prelude.{◌≡◌, ◌↔◌, ℤ, pos, ◌+ℤ◌, ◌*ℤ◌, ◌≤ℤ◌, ◌<ℤ◌, int_div, int_rem}
use Rattle.grind_lemmas.specs.Rounding.{IsCeil}

-- the number is a multiple of the divisor
abbrev pub IsMultiple : ℤ → ℤ → Type 0
IsMultiple number divisor = (quotient : ℤ) × (number ≡ divisor *ℤ quotient)

-- a multiple of a positive divisor is the divisor times the quotient
abbrev pub MultiplesDivide : Type 0
MultiplesDivide =
    (number divisor : ℤ) → pos 0 <ℤ divisor → IsMultiple number divisor → number ≡ divisor *ℤ int_div number divisor

-- a number is a multiple of a positive divisor exactly where its remainder is 0
abbrev pub MultiplesLeaveNothing : Type 0
MultiplesLeaveNothing =
    (number divisor : ℤ) → pos 0 <ℤ divisor → (int_rem number divisor ≡ pos 0) ↔ IsMultiple number divisor

-- where the remainder is not positive, the quotient is the one that is rounded up
abbrev pub QuotientsRoundUp : Type 0
QuotientsRoundUp =
    (number divisor : ℤ) → pos 0 <ℤ divisor → int_rem number divisor ≤ℤ pos 0 →
    IsCeil number divisor (int_div number divisor)

-- where the remainder is positive, the number after the quotient is
abbrev pub NextQuotientsRoundUp : Type 0
NextQuotientsRoundUp =
    (number divisor : ℤ) → pos 0 <ℤ divisor → pos 0 <ℤ int_rem number divisor →
    IsCeil number divisor (int_div number divisor +ℤ pos 1)

-- a quotient that is rounded up stays below a bound that is not negative and not below the number
abbrev pub CeilingsStayBelow : Type 0
CeilingsStayBelow =
    (number divisor quotient bound : ℤ) → pos 0 <ℤ divisor → IsCeil number divisor quotient → number ≤ℤ bound →
    pos 0 ≤ℤ bound → quotient ≤ℤ bound
