-- Sums of sizes up to a limit.
use Rattle.std.specs.Prelude.{◌≡◌, ℕ, ◌+◌, ◌≤◌, min}
use Rattle.std.proofs.Common.{arith}

-- one more is counted
pub size-next : (first later total own next limit whole : ℕ) → own ≡ min first limit → next ≡ min (total + own) limit → min (total + (first + later)) limit ≡ whole
    → min (next + later) limit ≡ whole
size-next first later total own next limit whole e f h = omega arith

-- and none is left
pub size-end : (total limit whole : ℕ) → total ≤ limit → min (total + 0) limit ≡ whole → total ≡ whole
size-end total limit whole l h = omega arith
