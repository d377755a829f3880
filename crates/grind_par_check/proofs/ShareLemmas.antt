-- A share of a length that has room for each of its parts: the parts that it takes have room, and those that it leaves.
use Rattle.std.proofs.Common.{ℕ, ◌≡◌, ◌≤◌, ◌<◌, ◌+◌, ◌-◌, ◌*◌, ◌/◌, arith}
use Rattle.std.proofs.Math.Nat.{div-le_of_le-mul, mul-le-mul_right, mul_comm}
use Rattle.std.proofs.lemmas.Nat.{le-div}

pub share_holds : (length parts all : ℕ) → 0 < all → all ≤ length → parts ≤ length * parts / all
share_holds length parts all some room =
    le-div parts (length * parts) all some (rw (mul_comm parts all) (mul-le-mul_right parts room))

-- the share of a length that is so much longer than the number of parts
share_by : (more parts all : ℕ) → parts ≤ all → (all + more) * parts / all ≤ parts + more
share_by more parts all fits =
    div-le_of_le-mul all (
    let part : more * parts ≤ all * more = rw (mul_comm more parts) (mul-le-mul_right more fits) in omega (arith, part))

pub share_leaves : (length parts all : ℕ) → parts ≤ all → all ≤ length → length * parts / all + all ≤ length + parts
share_leaves length parts all fits room =
    let is : all + (length - all) ≡ length = omega arith in
    let by = rw is at (share_by (length - all) parts all fits) in omega (arith, by)
