-- A quotient rounded up, without division.
use Rattle.std.specs.Prelude.{◌≡◌, ℤ, pos, ◌+ℤ◌, ◌*ℤ◌, ◌≤ℤ◌, ◌<ℤ◌}

-- the number c divided by g, rounded up: q is the least whole number whose product with the positive number g is at least c
pub record IsCeil (c g q : ℤ) : Type 0 where
  pub above : c ≤ℤ (g *ℤ q)
  pub least : (g *ℤ q) <ℤ (c +ℤ g)

-- a number has one quotient that is rounded up
abbrev pub OneCeiling : Type 0
OneCeiling = (c g q other : ℤ) → pos 0 <ℤ g → IsCeil c g q → IsCeil c g other → q ≡ other

-- where a multiple of g and a number c are together at most 0, so are the multiplied number and c divided by g, rounded up
abbrev pub CeilingsBound : Type 0
CeilingsBound = (c g q s : ℤ) → pos 0 <ℤ g → IsCeil c g q → (g *ℤ s +ℤ c) ≤ℤ pos 0 → (s +ℤ q) ≤ℤ pos 0

-- rounding up keeps order
abbrev pub CeilingsKeepOrder : Type 0
CeilingsKeepOrder = (c d g q r : ℤ) → pos 0 <ℤ g → c ≤ℤ d → IsCeil c g q → IsCeil d g r → q ≤ℤ r
