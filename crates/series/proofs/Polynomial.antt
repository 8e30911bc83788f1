-- Polynomials with integer coefficients, lowest first, and their value at a fraction without dividing.
use mathlib.Core.Path.{◌≡◌, refl, sym, ap, ◌∙◌}
use mathlib.Core.List.{List, [], ◌∷◌}
use Prim.Native.Nat.{ℕ, zero, suc, ◌+◌, ◌*◌, ◌^◌, ◌≤◌, zero-le}
use native.Mathlib.Nat.{mul-zero, mul-one, le_refl, le_trans, le_of_eq}
use native.Mathlib.Nat.{add-le-add, suc_inj, mul-le-mul, mul-le-mul_left, pow-suc}
use native.Mathlib.Omega.{arith}
use lib.ListN.{length}
use lib.IntN.{ℤ, pos, ◌+ℤ◌, ◌-ℤ◌, ◌*ℤ◌, nat_abs, *ℤ-zero}
use Rattle.series.proofs.Integers.{parts, ⊖-eq, abs_add, abs_mul, differences, dist}

-- Σ c_i x^i y^(n-i) for the n coefficients c_i: y^n times the polynomial's value at x/y.
unfoldable pub hval : List ℤ → ℤ → ℕ → ℤ
hval [] x y = pos 0
hval (c ∷ p) x y = c *ℤ pos (y ^ suc (length p)) +ℤ x *ℤ hval p x y

-- The same for natural coefficients.
unfoldable pub nval : List ℕ → ℕ → ℕ → ℕ
nval [] x y = 0
nval (c ∷ p) x y = c * y ^ suc (length p) + x * nval p x y

-- ---- the shift

-- c + (b + X) p
unfoldable pub step : ℤ → ℕ → List ℤ → List ℤ
step c b [] = c ∷ []
step c b (d ∷ p) = (c +ℤ pos b *ℤ d) ∷ step d b p

-- p at X + b
unfoldable pub shift : List ℤ → ℕ → List ℤ
unfolding step
shift [] b = []
shift (c ∷ p) b = step c b (shift p b)

length_step : (c : ℤ) (b : ℕ) (p : List ℤ) → length (step c b p) ≡ suc (length p)
unfolding step
length_step c b [] = refl
length_step c b (d ∷ p) = ap suc (length_step d b p)

pub length_shift : (p : List ℤ) (b : ℕ) → length (shift p b) ≡ length p
unfolding shift
length_shift [] b = refl
length_shift (c ∷ p) b = length_step c b (shift p b) ∙ ap suc (length_shift p b)

lift_coefficient : (c d : ℤ) (b y Y : ℕ)
    → (c +ℤ pos b *ℤ d) *ℤ pos (Y * y) ≡ c *ℤ pos (Y * y) +ℤ pos (b * y) *ℤ (d *ℤ pos Y)
lift_coefficient c d b y Y =
    let c' = parts c in
    let d' = parts d in
    rw (c'.2, d'.2) (simp differences (⊖-eq _ _ _ _ (omega arith)))

step_identity : (A E r H : ℤ) (t : ℕ)
    → (A +ℤ pos t *ℤ E) +ℤ r *ℤ (E +ℤ (r +ℤ pos t) *ℤ H) ≡ A +ℤ (r +ℤ pos t) *ℤ (E +ℤ r *ℤ H)
step_identity A E r H t =
    let A' = parts A in
    let E' = parts E in
    let r' = parts r in
    let H' = parts H in
    rw (A'.2, E'.2, r'.2, H'.2) (simp differences (⊖-eq _ _ _ _ (omega arith)))

step_value : (c : ℤ) (b : ℕ) (p : List ℤ) (r : ℤ) (y : ℕ) →
    hval (step c b p) r y ≡ c *ℤ pos (y ^ suc (length p)) +ℤ (r +ℤ pos (b * y)) *ℤ hval p r y
unfolding hval step
step_value c b [] r y = simp *ℤ-zero
step_value c b (d ∷ p) r y = rw (length_step d b p, step_value d b p r y, pow-suc y (suc (length p)), lift_coefficient)
    (step_identity (c *ℤ pos (y ^ suc (length p) * y)) (d *ℤ pos (y ^ suc (length p))) r (hval p r y) (b * y))

-- p shifted by b, at r/y, is p at (r + b y)/y
pub shift_value : (p : List ℤ) (b : ℕ) (r : ℤ) (y : ℕ) → hval (shift p b) r y ≡ hval p (r +ℤ pos (b * y)) y
unfolding hval shift
shift_value [] b r y = refl
shift_value (c ∷ p) b r y = step_value c b (shift p b) r y ∙ rw (length_shift p b, shift_value p b r y)

-- ---- the distance of values

-- the distances of coefficients, for polynomials of one length
unfoldable pub dists : List ℤ → List ℤ → List ℕ
unfolding dist
dists [] q = []
dists (c ∷ p) [] = []
dists (c ∷ p) (d ∷ q) = dist c d ∷ dists p q

-- the sizes of coefficients
unfoldable pub sizes : List ℤ → List ℕ
sizes [] = []
sizes (c ∷ p) = nat_abs c ∷ sizes p

no_length : (n : ℕ) → suc n ≡ 0 → ⊥
no_length n h = omega arith

pub length_dists : (p q : List ℤ) → length p ≡ length q → length (dists p q) ≡ length p
unfolding dists
length_dists [] q e = refl
length_dists (c ∷ p) [] e = absurd (no_length (length p) e)
length_dists (c ∷ p) (d ∷ q) e = ap suc (length_dists p q (suc_inj e))

pub length_sizes : (p : List ℤ) → length (sizes p) ≡ length p
unfolding sizes
length_sizes [] = refl
length_sizes (c ∷ p) = ap suc (length_sizes p)

-- (c Y + x H) - (d Y + x G) = (c - d) Y + x (H - G)
apart : (c d x H G : ℤ) (Y : ℕ) → (c *ℤ pos Y +ℤ x *ℤ H) -ℤ (d *ℤ pos Y +ℤ x *ℤ G) ≡ (c -ℤ d) *ℤ pos Y +ℤ x *ℤ (H -ℤ G)
apart c d x H G Y =
    let c' = parts c in
    let d' = parts d in
    let x' = parts x in
    let H' = parts H in
    let G' = parts G in
    rw (c'.2, d'.2, x'.2, H'.2, G'.2) (simp differences (⊖-eq _ _ _ _ (omega arith)))

abs_linear : (a x b : ℤ) (Y : ℕ) → nat_abs (a *ℤ pos Y +ℤ x *ℤ b) ≤ nat_abs a * Y + nat_abs x * nat_abs b
abs_linear a x b Y = rw (← abs_mul x b, ← (abs_mul a (pos Y))) (abs_add (a *ℤ pos Y) (x *ℤ b))

-- where the coefficients are close, so are the values
pub values_near : (p q : List ℤ) → length p ≡ length q → (x : ℤ) (X : ℕ) → nat_abs x ≤ X → (y : ℕ)
    → dist (hval p x y) (hval q x y) ≤ nval (dists p q) X y
unfolding hval nval dists dist
values_near [] [] e x X h y = le_refl 0
values_near [] (d ∷ q) e x X h y = absurd (no_length (length q) (sym e))
values_near (c ∷ p) [] e x X h y = absurd (no_length (length p) e)
values_near (c ∷ p) (d ∷ q) e x X h y =
    rw (← e, apart)
    (le_trans (abs_linear (c -ℤ d) x (hval p x y -ℤ hval q x y) (y ^ suc (length p)))
    (rw (length_dists p q (suc_inj e))
    (add-le-add (le_refl (dist c d * y ^ suc (length p))) (mul-le-mul h (values_near p q (suc_inj e) x X h y)))))

-- |p (x/y)|
pub value_size : (p : List ℤ) (x : ℤ) (X : ℕ) → nat_abs x ≤ X → (y : ℕ) → nat_abs (hval p x y) ≤ nval (sizes p) X y
unfolding hval nval sizes
value_size [] x X h y = le_refl 0
value_size (c ∷ p) x X h y =
    le_trans (abs_linear c x (hval p x y) (y ^ suc (length p)))
    (rw (length_sizes p) (add-le-add (le_refl (nat_abs c * y ^ suc (length p))) (mul-le-mul h (value_size p x X h y))))

-- a bound on the slope of p between -X/y and X/y, for coefficients of these sizes
unfoldable pub slope : List ℕ → ℕ → ℕ → ℕ
unfolding nval
slope [] X y = 0
slope (c ∷ p) X y = nval p X y + X * slope p X y

moved : (c x z H G : ℤ) (Y : ℕ) → (c *ℤ pos Y +ℤ x *ℤ H) -ℤ (c *ℤ pos Y +ℤ z *ℤ G) ≡ (x -ℤ z) *ℤ H +ℤ z *ℤ (H -ℤ G)
moved c x z H G Y =
    let c' = parts c in
    let x' = parts x in
    let z' = parts z in
    let H' = parts H in
    let G' = parts G in
    rw (c'.2, x'.2, z'.2, H'.2, G'.2) (simp differences (⊖-eq _ _ _ _ (omega arith)))

-- where the arguments are close, so are the values
pub values_follow : (p : List ℤ) (x z : ℤ) (X : ℕ) → nat_abs x ≤ X → nat_abs z ≤ X → (y : ℕ)
    → dist (hval p x y) (hval p z y) ≤ dist x z * slope (sizes p) X y
unfolding hval slope sizes dist
values_follow [] x z X h k y = zero-le
values_follow (c ∷ p) x z X h k y =
    rw moved
    (le_trans (abs_add ((x -ℤ z) *ℤ hval p x y) (z *ℤ (hval p x y -ℤ hval p z y)))
    (simp abs_mul
    (le_trans
    (add-le-add (mul-le-mul_left (dist x z) (value_size p x X h y)) (mul-le-mul k (values_follow p x z X h k y)))
    (le_of_eq (gather (dist x z) (nval (sizes p) X y) X (slope (sizes p) X y))))))
  where
    gather : (d n X s : ℕ) → d * n + X * (d * s) ≡ d * (n + X * s)
    gather d n X s = omega arith

-- ---- fractions in other units

pub one_pow : (n : ℕ) → 1 ^ n ≡ 1
one_pow zero = refl
one_pow (suc n) = pow-suc 1 n ∙ mul-one (1 ^ n) ∙ one_pow n

-- the bound at X z / z is z^n times that at X, for n coefficients
pub nval_units : (p : List ℕ) (X z : ℕ) → nval p (X * z) z ≡ z ^ length p * nval p X 1
unfolding nval
nval_units [] X z = sym (mul-zero (z ^ 0))
nval_units (c ∷ p) X z = rw (nval_units p X z, one_pow, pow-suc) (gather c (z ^ length p) z X (nval p X 1))
  where
    gather : (c Z z X n : ℕ) → c * (Z * z) + X * z * (Z * n) ≡ Z * z * (c * 1 + X * n)
    gather c Z z X n = omega arith

pub slope_units : (p : List ℕ) (X z : ℕ) → z * slope p (X * z) z ≡ z ^ length p * slope p X 1
unfolding slope
slope_units [] X z = mul-zero z ∙ sym (mul-zero (z ^ 0))
slope_units (c ∷ p) X z =
    rw (nval_units p X z, pow-suc)
    (spread (z ^ length p) (nval p X 1) X (slope p (X * z) z) z (slope p X 1) (slope_units p X z))
  where
    spread : (Z n X s z t : ℕ) → z * s ≡ Z * t → z * (Z * n + X * z * s) ≡ Z * z * (n + X * t)
    spread Z n X s z t h = omega (arith, ap (λ (k : ℕ). X * z * k) h)

-- ---- the unit of the argument

-- the polynomial whose argument is counted in parts of 1/d: c_i d^(n-i)
unfoldable pub finer : ℕ → List ℤ → List ℤ
finer d [] = []
finer d (c ∷ p) = (c *ℤ pos (d ^ suc (length p))) ∷ finer d p

pub length_finer : (d : ℕ) (p : List ℤ) → length (finer d p) ≡ length p
unfolding finer
length_finer d [] = refl
length_finer d (c ∷ p) = ap suc (length_finer d p)

pub finer_value : (d : ℕ) (p : List ℤ) (x : ℤ) (y : ℕ)
    → hval (finer d p) (pos d *ℤ x) y ≡ pos (d ^ length p) *ℤ hval p x y
unfolding hval finer
finer_value d [] x y = ap pos (sym (mul-zero (d ^ 0)))
finer_value d (c ∷ p) x y =
    rw (length_finer d p, finer_value d p x y, pow-suc d (length p))
    (gather c x (hval p x y) (d ^ length p) d (y ^ suc (length p)))
  where
    gather : (c x H : ℤ) (D d Y : ℕ)
        → (c *ℤ pos (D * d)) *ℤ pos Y +ℤ (pos d *ℤ x) *ℤ (pos D *ℤ H) ≡ pos (D * d) *ℤ (c *ℤ pos Y +ℤ x *ℤ H)
    gather c x H D d Y =
        let c' = parts c in
        let x' = parts x in
        let H' = parts H in
        rw (c'.2, x'.2, H'.2) (simp differences (⊖-eq _ _ _ _ (omega arith)))
