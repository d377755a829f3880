-- Which bytes name something in a report.
use Rattle.std.specs.Prelude.{ℕ, ◌≤◌, ◌≢◌, List, length, All}

-- a name: 1 to 255 bytes, and none is a space or a line feed
pub record IsLabel (bytes : List ℕ) : Type 0 where
  pub nonempty : 1 ≤ length bytes
  pub short : length bytes ≤ 255
  pub solid : All (λ byte. (byte ≢ 32) × (byte ≢ 10)) bytes
