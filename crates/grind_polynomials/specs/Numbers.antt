-- Numbers of 128 bits, or why there is none.
use Rattle.std.specs.Prelude.{◌^◌, Result, Ok, Err, nat_lt, if◌then◌else◌, ℤ, pos, negsuc}
use Rattle.grind_polynomials.specs.declared.poly.PolyRefusal.{PolyRefusal}
use Rattle.grind_polynomials.specs.declared.poly.PolyRefusal.TheVariants.{Overflow}

-- the number where it fits in 128 bits, else the refusal
unfoldable pub fit_or_refuse : ℤ → Result ℤ PolyRefusal
fit_or_refuse (pos n) = if nat_lt n (2 ^ 127) then Ok (pos n) else Err Overflow
fit_or_refuse (negsuc n) = if nat_lt n (2 ^ 127) then Ok (negsuc n) else Err Overflow
