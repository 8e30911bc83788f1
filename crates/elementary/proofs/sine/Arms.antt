-- The two arms of sine and of cosine: inside the domain and outside.
use Rattle.std.proofs.Common.{◌≡◌, ◌+◌, Bool, true, false, cond, ap}
use lib.Ieee.{Float, lt, le}
use Rattle.binary64.specs.Constants.{zero64}
use Rattle.binary64.specs.Functions.{absolute}
use Rattle.series.specs.Kernel.{quarter}
use Rattle.elementary.specs.Sine.{fixed_sine, sixteen, angle, sine, cosine}

pub sine_inside : (v : Float) → le (absolute v) sixteen ≡ true → sine v ≡ fixed_sine (lt v zero64) (angle v)
unfolding sine
sine_inside v e = ap (λ (t : Bool). cond t (fixed_sine (lt v zero64) (angle v)) zero64) e

pub sine_outside : (v : Float) → le (absolute v) sixteen ≡ false → sine v ≡ zero64
unfolding sine
sine_outside v e = ap (λ (t : Bool). cond t (fixed_sine (lt v zero64) (angle v)) zero64) e

pub cosine_inside : (v : Float) → le (absolute v) sixteen ≡ true → cosine v ≡ fixed_sine false (angle v + quarter)
unfolding cosine
cosine_inside v e = ap (λ (t : Bool). cond t (fixed_sine false (angle v + quarter)) zero64) e

pub cosine_outside : (v : Float) → le (absolute v) sixteen ≡ false → cosine v ≡ zero64
unfolding cosine
cosine_outside v e = ap (λ (t : Bool). cond t (fixed_sine false (angle v + quarter)) zero64) e
