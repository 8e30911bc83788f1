-- What an answer says of the tables: they are taken, by the number 0, exactly where there is room.
use Rattle.std.proofs.Common.{Ok, Err}
use mathlib.Core.Path.{◌≡◌, refl, ap}
use mathlib.Core.Bool.{Bool, true, false, cond}
use Prim.Native.Nat.{ℕ, ◌^◌, ◌≤◌}
use native.Mathlib.Omega.{arith}
use borrow.Author.Tests.{le-ltb, ltb-false}
use lib.Dec.{ltb}
use Rattle.exclusive.specs.declared.areas.RowsError.TheVariants.{TooManyHeads, TablesTooShort}
use Rattle.exclusive.specs.Exclusive.{rows_check, rows_number, rows_answer}

module _ (n rows : ℕ) where
  pub fits : n ≤ 10 → 2 ^ n ≤ rows → Ok tt ≡ rows_check n rows
  fits h k = rw (le-ltb 10 n h, le-ltb rows (2 ^ n) k) refl

  pub room : n ≤ 10 → 2 ^ n ≤ rows → 0 ≡ rows_answer n rows
  room h k = ap rows_number (fits h k)

  pub taken : rows_answer n rows ≡ 0 → (n ≤ 10) × (2 ^ n ≤ rows)
  taken = by (ltb 10 n) refl (ltb rows (2 ^ n)) refl
    where
      by : (a : Bool) → ltb 10 n ≡ a → (b : Bool) → ltb rows (2 ^ n) ≡ b
          → ◌≡◌ {A = ℕ} (rows_number (cond a (Err TooManyHeads) (cond b (Err TablesTooShort) (Ok tt)))) 0
          → (n ≤ 10) × (2 ^ n ≤ rows)
      by true f b g e = absurd (omega arith)
      by false f true g e = absurd (omega arith)
      by false f false g e = (ltb-false 10 n f, ltb-false rows (2 ^ n) g)
