-- What a range of f64 contains, by the comparisons: the contract of `contains` says it by `partial_cmp`.
use Prim.{tt}
use mathlib.Core.Path.{◌≡◌, refl}
use mathlib.Core.Bool.{Bool, true, false, cond}
use mathlib.Core.Logic.{◌⊎◌, ⊎_elim}
use lib.Dec.{T}
use lib.Ieee.{Float, lt, le, eq}
use Rattle.std.specs.Prelude.{Some, None}
use Rattle.std.proofs.Common.{Less, Equal, Greater}
use Rattle.std.specs.Ordering.{float_partial_cmp, partial_lt, partial_le, is_some_and, is_lt, is_le}
use Rattle.std.proofs.lemmas.Float.{le_of_lt, le_of_eq, lt-or-eq}

pub partial_lt_is : (x y : Float) → partial_lt float_partial_cmp x y ≡ lt x y
partial_lt_is x y = by (lt x y) (eq x y) (lt y x)
  where
    by : (a b c : Bool) → is_some_and is_lt (cond a (Some Less) (cond b (Some Equal) (cond c (Some Greater) None))) ≡ a
    by true b c = refl
    by false true c = refl
    by false false true = refl
    by false false false = refl

pub partial_le_is : (x y : Float) → partial_le float_partial_cmp x y ≡ le x y
partial_le_is x y = by (lt x y) (eq x y) (lt y x) (le x y) (le_of_lt x y) (le_of_eq x y) (lt-or-eq x y)
  where
    by : (a b c d : Bool) → (T a → T d) → (T b → T d) → (T d → T a ⊎ T b)
        → is_some_and is_le (cond a (Some Less) (cond b (Some Equal) (cond c (Some Greater) None))) ≡ d
    by true b c true f g h = refl
    by true b c false f g h = absurd (f tt)
    by false true c true f g h = refl
    by false true c false f g h = absurd (g tt)
    by false false true true f g h = ⊎_elim (λ w. absurd w) (λ w. absurd w) (h tt)
    by false false false true f g h = ⊎_elim (λ w. absurd w) (λ w. absurd w) (h tt)
    by false false true false f g h = refl
    by false false false false f g h = refl

-- for the tests of a range
pub ruleset ranges = (partial_lt_is, partial_le_is)
