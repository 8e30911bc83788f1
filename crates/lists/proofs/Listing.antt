-- The law of a list that holds so many at most, for the loops that push onto it while there is room.
use mathlib.Core.Path.{◌≡◌, refl, ap}
use mathlib.Core.Bool.{Bool, true, false, cond}
use mathlib.Core.List.{List, [], ◌∷◌, ◌++◌}
use Prim.Native.Nat.{ℕ, zero, suc}
use native.Mathlib.Omega.{arith}
use borrow.Author.Tests.{lt-ltb, le-ltb, ltb-true, ltb-false}
use lib.Dec.{ltb}
use lib.ListN.{length, take}
use lib.Seq.{take-nil}

-- one more at the end
pub take_push : {A : Type 0} (n : ℕ) (l : List A) (x : A)
    → take n (l ++ (x ∷ [])) ≡ cond (ltb (length (take n l)) n) (take n l ++ (x ∷ [])) (take n l)
take_push zero l x = refl
take_push (suc n) [] x = rw (lt-ltb 0 (suc n) (omega arith)) (ap (λ t. x ∷ t) (take-nil n))
take_push (suc n) (y ∷ l) x = by (ltb (length (take n l)) n) refl (take_push n l x)
  where
    by : (b : Bool) → ltb (length (take n l)) n ≡ b
        → take n (l ++ (x ∷ [])) ≡ cond (ltb (length (take n l)) n) (take n l ++ (x ∷ [])) (take n l)
        → y ∷ take n (l ++ (x ∷ []))
        ≡ cond (ltb (suc (length (take n l))) (suc n)) (y ∷ (take n l ++ (x ∷ []))) (y ∷ take n l)
    by true e h = rw (lt-ltb (suc (length (take n l))) (suc n) (omega (arith, ltb-true (length (take n l)) n e)), h, e)
    by false e h =
        rw (le-ltb (suc (length (take n l))) (suc n) (omega (arith, ltb-false (length (take n l)) n e)), h, e)
