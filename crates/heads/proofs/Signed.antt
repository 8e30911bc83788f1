-- The bits of an i32, read back.
use Rattle.std.proofs.Common.{◌≡◌, ◌^◌, ◌<◌, ℤ, w32, of_z, to_z}
use Rattle.std.specs.Int.Signed.{mag}
use Rattle.std.proofs.lemmas.Int.{to_z-of_z}

pub read_back : (z : ℤ) → mag z < 2 ^ 31 → to_z w32 (of_z w32 z) ≡ z
read_back z h = to_z-of_z w32 z (record { sfits = h })
