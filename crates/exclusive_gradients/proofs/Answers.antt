-- What an answer says of the tables with gradients of some width: they are taken only where there is room for all.
use Rattle.std.proofs.Common.{Ok, Err}
use Rattle.std.specs.Prelude.{Result, is_ok}
use mathlib.Core.Path.{◌≡◌, refl, ap}
use mathlib.Core.Bool.{Bool, true, false, cond}
use Prim.Native.Nat.{ℕ, ◌*◌, ◌^◌, ◌≤◌}
use native.Mathlib.Omega.{arith}
use borrow.Author.Tests.{ltb-false}
use lib.Dec.{ltb}
use Rattle.exclusive.specs.declared.areas.RowsError.{RowsError}
use Rattle.exclusive.specs.declared.areas.RowsError.TheVariants.{TooManyHeads, TablesTooShort}
use Rattle.exclusive.specs.Exclusive.{rows_check, rows_number}
use Rattle.exclusive_gradients.specs.Gradient.{width_answer}
use Rattle.exclusive.proofs.Answers.{taken}

pub all_taken : (n width rows count : ℕ) → width_answer n width rows count ≡ 0
    → (n ≤ 10) × (2 ^ n ≤ rows) × (2 ^ n * width ≤ count)
all_taken n width rows count e = go (rows_check n rows) refl (ltb count (2 ^ n * width)) refl e
  where
    number : Result Unit RowsError → Bool → ℕ
    number check short = rows_number (cond (is_ok check) (cond short (Err TablesTooShort) (Ok tt)) check)

    go : (check : Result Unit RowsError) → rows_check n rows ≡ check → (short : Bool)
        → ltb count (2 ^ n * width) ≡ short → number check short ≡ 0
        → (n ≤ 10) × (2 ^ n ≤ rows) × (2 ^ n * width ≤ count)
    go (Ok x) f true g z = absurd (omega arith)
    go (Ok x) f false g z = let t = taken n rows (ap rows_number f) in (t.0, t.1, ltb-false count (2 ^ n * width) g)
    go (Err TooManyHeads) f short g z = absurd (omega arith)
    go (Err TablesTooShort) f short g z = absurd (omega arith)
