-- The next place round a circle.
use mathlib.Core.Path.{◌≡◌, refl, sym}
use mathlib.Core.Bool.{Bool, true, false, cond}
use Prim.Native.Nat.{ℕ, ◌+◌, ◌%◌, ◌<◌}
use native.Mathlib.Nat.{mod-eq_of_lt, mod_self}
use native.Mathlib.Omega.{arith}
use borrow.Author.Tests.{ltb-true, ltb-false}
use lib.Dec.{ltb}
use Rattle.boundary.proofs.Gaps.{next_below}
use Rattle.gaps.specs.Gaps.{next_of}

-- after one of the n places: one more, counted round
pub next_is : (a n : ℕ) → a < n → next_of a n ≡ (a + 1) % n
unfolding next_of
next_is a n h = by (ltb (a + 1) n) refl
  where
    by : (b : Bool) → ltb (a + 1) n ≡ b → cond b (a + 1) 0 ≡ (a + 1) % n
    by true q = sym (mod-eq_of_lt (ltb-true (a + 1) n q))
    by false q = let e : a + 1 ≡ n = omega (arith, h, ltb-false (a + 1) n q) in rw e (sym (mod_self n))

pub next_less : (a n : ℕ) → a < n → next_of a n < n
next_less a n h = rw (next_is a n h) (next_below a n h)
