-- The Rust's last test of a pair, `intersection_area > 1e-10` where there is no meeting point and neither contains the other, never holds of
-- heads within the limits: so document 01 leaves it out, and so do we. proofs/Pairs.antt proves it: `no_pair_by_area`.
use Rattle.std.specs.Prelude.{◌≡◌, false, T}
use Rattle.std.specs.Float.Ieee.{lt}
use Rattle.heads.specs.declared.Head.{Head}
use Rattle.heads.specs.Limits.{in_limits}
use Rattle.heads.specs.Pair.{meets_of, contains_of}
use Rattle.binary64.specs.Constants.{ten_to_minus10}
use Rattle.geometry.specs.Circle.{intersection_area}
use Rattle.exact.specs.Circle.{circle_of}

abbrev pub NoPairByArea : Type 0
NoPairByArea =
    (a b : Head) → T (in_limits a) → T (in_limits b) → meets_of a b ≡ false → contains_of a b ≡ false → contains_of b a ≡ false
    → lt ten_to_minus10 (intersection_area (circle_of a) (circle_of b)) ≡ false
