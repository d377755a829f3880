-- The limits where a theory sets none.
use Rattle.std.specs.Prelude.{◌≡◌}
use Rattle.grind_schemes.specs.declared.limits.Limits.{Limits}

-- the limits where a theory sets none
pub record IsStandard (limits : Limits) : Type 0 where
  pub splits : limits.splits ≡ 9
  pub generation : limits.generation ≡ 8
  pub instances : limits.instances ≡ 1000
  pub cuts : limits.cuts ≡ 2000
  pub pairs : limits.pairs ≡ 500
