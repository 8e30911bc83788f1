-- What is promised of the root (proofs/root/Promise.antt proves it).
use Rattle.std.specs.Prelude.{◌≡◌, ◌+◌, ◌*◌, ◌<◌, Bool, true, false, T, pos, Float}
use Rattle.std.specs.Float.{nan, inf, fin, binary64}
use Rattle.std.specs.Float.Ieee.{fits, lt}
use Rattle.binary64.specs.Constants.{zero64}
use Rattle.binary64.specs.Units.{one, mag, negative, Finite}
use Rattle.elementary.specs.Root.{root}

-- r is the float nearest to the root of x, and no other float is as near. Let x, r and another float u be so many
-- units: the exact root is that of x * one, and u is farther from it than r if the root lies on r's side of the middle
-- (u + r) / 2. So (u + r)² is compared with four times x * one. The two are never equal: there is no tie to break. (A
-- float below zero is farther than its magnitude.)
pub record Nearest (x r : Float) : Type 0 where
  pub finite : Finite r
  pub sign : negative r ≡ false
  pub above : (u : Float) → Finite u → mag r < mag u → 4 * (mag x * one) < (mag u + mag r) * (mag u + mag r)
  pub below : (u : Float) → Finite u → mag u < mag r → (mag u + mag r) * (mag u + mag r) < 4 * (mag x * one)

-- Document 01's sentences on the root.
pub record RootPromise : Type 0 where
  -- every finite number above zero
  pub nearest : (x : Float) → Finite x → lt zero64 x ≡ true → Nearest x (root x)
  -- and no other float has that property
  pub only : (x r : Float) → Finite x → lt zero64 x ≡ true → Nearest x r → r ≡ root x
  -- the zeros, each with its sign
  pub zeros : (s : Bool) → root (fin s 0 (pos 0)) ≡ fin s 0 (pos 0)
  -- outside the domain +0: numbers below zero, NaN, the infinities
  pub negatives : (x : Float) → lt x zero64 ≡ true → root x ≡ zero64
  pub no_number : root nan ≡ zero64
  pub infinities : (s : Bool) → root (inf s) ≡ zero64
  -- of whatever a program holds the root is finite and not below zero
  pub finite : (x : Float) → T (fits binary64 x) → Finite (root x)
  pub not_below : (x : Float) → T (fits binary64 x) → lt (root x) zero64 ≡ false
