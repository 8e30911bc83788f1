-- The first items of a list before what stands beyond them in another: one item more.
use mathlib.Core.Path.{◌≡◌, ap}
use mathlib.Core.List.{List, [], ◌∷◌, ◌++◌, append_assoc}
use Prim.Native.Nat.{ℕ, suc, min, ◌+◌, ◌<◌, ◌≤◌}
use native.Mathlib.Numerals.{add-one}
use native.Mathlib.Omega.{arith}
use lib.ListN.{length, take, drop, set, get_or}
use Rattle.std.proofs.Math.Seq.{take-suc, set_at, drop-cons}
use Rattle.std.proofs.lemmas.List.{length-take-le}

pub copied_on : {A : Type 0} (from to : List A) (s : ℕ) (v : A) → s < length from → s < length to
    → v ≡ get_or from s v
    → set (take s from ++ drop s to) s v ≡ take (s + 1) from ++ drop (s + 1) to
copied_on from to s v low room at =
    rw (
      add-one s,
      drop-cons to s v room,
      set_at (take s from) (get_or to s v) (drop (suc s) to) v s (length-take-le s from (omega (arith, low))),
      take-suc from s v low,
      append_assoc (take s from) (get_or from s v ∷ []) (drop (suc s) to),
    )
    (ap (λ t. take s from ++ t ∷ drop (suc s) to) at)

-- where both lists have so many
pub copied_whole : {A : Type 0} (from to : List A) (n : ℕ) → n ≤ length from → n ≤ length to
    → (let m = min n (min (length from) (length to)) in take m from ++ drop m to) ≡ take n from ++ drop n to
copied_whole from to n low room =
    let e : min n (min (length from) (length to)) ≡ n = omega (arith, low, room) in
    ap (λ (m : ℕ). take m from ++ drop m to) e
