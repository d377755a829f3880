-- What a branch may assume, and which assumptions are opposite.
use Rattle.std.specs.Prelude.{◌≡◌}
use Rattle.grind_differences.specs.Bounds.{opposite_form, HasOpposite}
use Rattle.grind_claims.specs.declared.claim.Claim.{Claim}
use Rattle.grind_claims.specs.declared.claim.Claim.TheVariants.{Holds, Fails, Same, Differ, AtMost, Zero, Absurd}

-- a literal that a branch may assume: a formula holds, or fails, or a form that has an opposite is at most 0
abbrev pub IsLiteral : Claim → Type 0
IsLiteral (Holds n) = Unit {0}
IsLiteral (Fails n) = Unit {0}
IsLiteral (Same a b) = ⊥
IsLiteral (Differ a b) = ⊥
IsLiteral (AtMost form) = HasOpposite form
IsLiteral (Zero poly) = ⊥
IsLiteral Absurd = ⊥

-- the two literals are opposite: one says that a formula holds, the other that it fails; or one bounds a form, the other the
-- opposite form
abbrev pub AreOpposite : Claim → Claim → Type 0
AreOpposite (Holds n) other = other ≡ Fails n
AreOpposite (Fails n) other = other ≡ Holds n
AreOpposite (Same a b) other = ⊥
AreOpposite (Differ a b) other = ⊥
AreOpposite (AtMost form) other = other ≡ AtMost (opposite_form form)
AreOpposite (Zero poly) other = ⊥
AreOpposite Absurd other = ⊥
