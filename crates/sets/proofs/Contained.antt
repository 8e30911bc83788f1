-- A circle that is smaller than another does not contain it: the sum of a distance and the other's radius is not below
-- that radius, rounded or not, and so above the smaller one. Every f64 is thought of, NaN, infinities and radii below
-- zero too.
use mathlib.Core.Path.{◌≡◌, refl, sym, ap, ◌∙◌, subst}
use mathlib.Core.Bool.{Bool, true, false, not, ◌&&◌, and-false}
use mathlib.Core.Logic.{⊎_elim}
use Prim.Native.Nat.{ℕ, ◌+◌, ◌≤◌}
use native.Mathlib.Omega.{arith}
use lib.Dec.{T}
use lib.IntN.{ℤ, pos}
use lib.Ieee.{Float, nan, inf, fin, binary64, add, mul, round, fits, lt, eq, le}
use lib.Ieee.Fits.{add-fits}
use lib.Ieee.Order.{round_mono}
use lib.Ieee.Scale.{finite}
use Rattle.binary64.specs.Rounding.{Result}
use Rattle.binary64.specs.Units.{Finite, Digits53, one, plus, minus}
use Rattle.binary64.proofs.Operations.{add_result, result_finite, result_rounded}
use Rattle.binary64.proofs.Rounding.{plus_ge, minus_le, minus_none}
use Rattle.binary64.proofs.Units.{one_pos, mag_digits, mag_limit, plus_minus, one_sided, of_units_zero}
use Rattle.binary64.proofs.Units.{units_of_lt, units_of_le}
use Rattle.elementary.proofs.root.Values.{root_finite, root_minus}
use Rattle.elementary.specs.Root.{hypot}
use Rattle.geometry.specs.Circle.{either_closed, contains}
use Rattle.geometry.specs.declared.circle.Circle.{Circle}

-- neither a NaN nor minus infinity
abbrev up : Float → Bool
up nan = false
up (inf s) = not s
up (fin s m e) = true

finite_up : (x : Float) → T (finite x) → T (up x)
finite_up nan t = t
finite_up (inf s) t = absurd t
finite_up (fin s m e) t = tt

le_up : (x : Float) → T (le (fin false 0 (pos 0)) x) → T (up x)
unfolding le lt eq
le_up nan t = t
le_up (inf true) t = t
le_up (inf false) t = tt
le_up (fin s m e) t = tt

-- ---- finite numbers

module _ {d s : Float} (f : Finite d) (m : minus d ≡ 0) (g : Finite s) where
  -- the sum is not below s, in units, and overflows upward only
  sum_above : Finite (add binary64 d s) → (plus s ≤ plus (add binary64 d s)) × (minus (add binary64 d s) ≤ minus s)
  sum_above h =
      let w = result_rounded (omega arith) (add_result f g) h in
      ⊎_elim
      (λ e. (
        plus_ge (omega arith) w (subst (λ (n : ℕ). Digits53 n) (sym e.0) (mag_digits g)) (omega (arith, m, e.1)),
        omega (arith, minus_none (omega arith) w (omega (arith, m, e.1))),
      ))
      (λ e. (
        omega (arith, e.0),
        minus_le (omega arith) w (subst (λ (n : ℕ). Digits53 n) (sym e.1) (mag_digits g)) (omega (arith, m)),
      ))
      (one_sided s)

  sum_up : T (up (add binary64 d s))
  sum_up = let r = add_result f g in at r.minus? r refl
    where
      at : (b : Bool) (r : Result (add binary64 d s) (plus d + plus s) (minus d + minus s) 1) → r.minus? ≡ b
          → T (up (add binary64 d s))
      at true r e =
          let low = r.below e in
          finite_up (add binary64 d s)
          (result_finite (omega arith) r (mag_digits g) (omega (arith, low)) (omega (arith, m, plus_minus s))
          (mag_limit g)).number
      at false r e =
          le_up (add binary64 d s)
          (subst (λ (x : Float). T (le x (add binary64 d s))) (of_units_zero false)
          (subst (λ (x : Float). T (le (round binary64 false 0 one) x))
          (sym (r.rounds ∙ ap (λ (b : Bool). round binary64 b r.top r.bottom) e))
          (round_mono binary64 0 one r.top r.bottom one_pos r.proper (omega arith))))

-- ---- every float

-- a number z not below s is not at most r < s
beyond : (z r : Float) {t : Bool} {n : ℕ} {c : ℤ} → let s = fin t n c in
    T (up z) → T (fits binary64 z) → T (fits binary64 r) → Finite s
    → (Finite z → (plus s ≤ plus z) × (minus z ≤ minus s)) → lt r s ≡ true → le z r ≡ false
unfolding le lt eq
beyond nan r u h k g a e = absurd u
beyond (inf true) r u h k g a e = absurd u
beyond z nan u h k g a e = absurd (cc)
beyond (inf false) (inf true) u h k g a e = refl
beyond (fin t n d) (inf true) u h k g a e = refl
beyond z (inf false) u h k g a e = absurd (cc)
beyond (inf false) (fin q o c) u h k g a e = refl
beyond (fin t n d) (fin q o c) u h k g a e = by (le (fin t n d) (fin q o c)) refl
  where
    by : (b : Bool) → le (fin t n d) (fin q o c) ≡ b → b ≡ false
    by false j = refl
    by true j =
        let z : Finite (fin t n d) = record { fit = h; number = tt } in
        let r : Finite (fin q o c) = record { fit = k; number = tt } in
        absurd (omega (arith, (a z).0, (a z).1, units_of_le z r j, units_of_lt r g e))

sum_top : (d : Float) → Finite d → add binary64 d (inf false) ≡ inf false
unfolding add
sum_top nan f = absurd f.number
sum_top (inf t) f = absurd f.number
sum_top (fin t n e) f = refl

not_within : {d : Float} (r s : Float) → Finite d → minus d ≡ 0 → T (fits binary64 r) → T (fits binary64 s)
    → lt r s ≡ true → le (add binary64 d s) r ≡ false
unfolding le lt eq
not_within nan s f m k h e = absurd (cc)
not_within (inf false) (inf t) f m k h e = absurd (cc)
not_within (inf t) nan f m k h e = absurd (cc)
not_within (fin q o c) nan f m k h e = absurd (cc)
not_within (inf true) (inf true) f m k h e = absurd (cc)
not_within (fin q o c) (inf true) f m k h e = absurd (cc)
not_within {d = d} (inf true) (inf false) f m k h e = rw (sum_top d f)
not_within {d = d} (fin q o c) (inf false) f m k h e = rw (sum_top d f)
not_within {d = d} r (fin t n c) f m k h e =
    let g : Finite (fin t n c) = record { fit = h; number = tt } in
    beyond (add binary64 d (fin t n c)) r (sum_up f m g) (add-fits binary64 d (fin t n c)) k g (sum_above f m g) e

distance_finite : (x y : Float) → Finite (hypot x y)
unfolding hypot
distance_finite x y = root_finite _ (add-fits binary64 (mul binary64 x x) (mul binary64 y y))

distance_minus : (x y : Float) → minus (hypot x y) ≡ 0
unfolding hypot
distance_minus x y = root_minus _ (add-fits binary64 (mul binary64 x x) (mul binary64 y y))

pub not_contained : (a b : Circle) → T (fits binary64 a.radius) → T (fits binary64 b.radius)
    → lt a.radius b.radius ≡ true → contains a b ≡ false
not_contained a b h k e =
    ap (λ (q : Bool). not (either_closed a b) && q)
    (not_within a.radius b.radius (distance_finite _ _) (distance_minus _ _) h k e)
    ∙ and-false (not (either_closed a b))
