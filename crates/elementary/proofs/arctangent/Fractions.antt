-- From Good, over integers, to the fractions of the promise: x, y and t as exact fractions, and the 40-term sums at t.
use Rattle.std.proofs.Common.{◌≡◌, ℕ, zero, suc, ◌+◌, ◌-◌, ◌*◌, ◌^◌, ◌<◌, ◌≤◌, Bool, true, false, ℤ, pos, ◌+ℤ◌, ◌*ℤ◌}
use Rattle.std.proofs.Common.{nat_abs, sym, refl, ap, ◌∙◌, subst, ap₂, subst₂, le_trans}
use Rattle.std.proofs.Common.{le_of_eq, mul-le-mul_right, mul_assoc, mul_comm}
use Rattle.std.proofs.Common.{mul-le-mul_left, mul-pos, le_of_mul-le-mul_right, arith, lit<}
use native.Mathlib.Nat.{one-le-pow, le_of_mul-le-mul_left}
use lib.IntN.{*ℤ_comm}
use lib.Ieee.{Float, nan, inf, fin, up, down}
use lib.Ieee.Fits.{down_pos}
use Rattle.series.specs.Fraction.{Fraction, ◌⊹◌, exact, signed}
use Rattle.series.specs.Taylor.{factorial, term, total, sin40, cos40}
use Rattle.series.proofs.Integers.{◌⊖◌, parts, differences, dist, dist-⊖, dist_self}
use Rattle.series.proofs.Integers.{dist_scale, abs_mul, abs-negℤ, distrib, neg-*ℤ, *ℤ-assoc, *ℤ-left-comm}
use Rattle.series.proofs.Sums.{scale, sin79, cos79, sin40_value, cos40_value}
use Rattle.series.proofs.Polynomial.{hval}
use Rattle.binary64.specs.Units.{one, Finite, mag, negative}
use Rattle.binary64.proofs.Units.{mag_exact, one_pos}
use Rattle.elementary.specs.ArctangentPromise.{◌⊛◌, ◌⊝◌, size, 2^-40, AtMost, Positive}
use Rattle.elementary.proofs.arctangent.Good.{Good, difference, scaled}

-- ---- no denominator is 0

factorial_pos : (i : ℕ) → 0 < factorial i
unfolding factorial
factorial_pos zero = lit< tt
factorial_pos (suc i) = mul-pos (omega arith) (factorial_pos i)

term_proper : (k i : ℕ) (v : Fraction) → 0 < v.den → 0 < (term k i v).den
unfolding term
term_proper k i v h = mul-pos (factorial_pos i) (one-le-pow i v.den h)

total_proper : (k n : ℕ) (f : ℕ → Fraction) → ((j : ℕ) → 0 < (f j).den) → 0 < (total k n f).den
unfolding total ◌⊹◌
total_proper k zero f h = lit< tt
total_proper k (suc n) f h = mul-pos (h k) (total_proper (suc k) n f h)

pub sin40_proper : (v : Fraction) → 0 < v.den → 0 < (sin40 v).den
unfolding sin40
sin40_proper v h = total_proper 0 40 (λ k. term k (2 * k + 1) v) (λ j. term_proper j (2 * j + 1) v h)

pub cos40_proper : (v : Fraction) → 0 < v.den → 0 < (cos40 v).den
unfolding cos40
cos40_proper v h = total_proper 0 40 (λ k. term k (2 * k) v) (λ j. term_proper j (2 * j) v h)

pub exact_proper : (x : Float) → 0 < (exact x).den
unfolding exact
exact_proper nan = lit< tt
exact_proper (inf s) = lit< tt
exact_proper (fin s m e) = down_pos e

-- ---- a float as a fraction, against its units

pub signed_times : (s : Bool) (a b : ℕ) → signed s a *ℤ pos b ≡ signed s (a * b)
signed_times true a b = neg-*ℤ (pos a) (pos b)
signed_times false a b = refl

pub signed_size : (s : Bool) (a : ℕ) → nat_abs (signed s a) ≡ a
signed_size true a = abs-negℤ (pos a)
signed_size false a = refl

-- the units of x
abbrev pub units : Float → ℤ
units x = signed (negative x) (mag x)

pub exact_units : {x : Float} → Finite x → units x *ℤ pos (exact x).den ≡ (exact x).num *ℤ pos one
unfolding exact
exact_units {x = nan} f = absurd f.number
exact_units {x = inf s} f = absurd f.number
exact_units {x =
    fin s m e} f =
    signed_times s (mag (fin s m e)) (down e) ∙ ap (signed s) (mag_exact s m e f.fit)
    ∙ sym (signed_times s (m * up e) one)

-- ---- a point with its coordinates multiplied by a common number

-- z = m where k z = k m
divided : (k f : ℕ) (z : ℤ) → 0 < k → pos k *ℤ z ≡ pos f → (m : ℕ) × (z ≡ pos m) × (k * m ≡ f)
divided k f z l e =
    let z' = parts z in
    let h = exactly z'.0 z'.1 (subst (λ (w : ℤ). pos k *ℤ w ≡ pos f) z'.2 e) in
    let b = le_of_mul-le-mul_left (omega arith) l in
    (z'.0 - z'.1, z'.2 ∙ difference z'.0 z'.1 b, rest z'.0 z'.1 (z'.0 - z'.1) h (back z'.0 z'.1 b))
  where
    exactly : (a b : ℕ) → pos k *ℤ (a ⊖ b) ≡ pos f → k * a ≡ k * b + f
    exactly a b e =
        let g = simp (differences, dist-⊖) at (le_of_eq (ap (λ (w : ℤ). dist w (pos f)) e ∙ dist_self (pos f))) in
        omega arith

    back : (a b : ℕ) → b ≤ a → a ≡ a - b + b
    back a b h = omega arith

    rest : (a b c : ℕ) → k * a ≡ k * b + f → a ≡ c + b → k * c ≡ f
    rest a b c h e = omega (arith, ap (λ (n : ℕ). k * n) e)

spread : (k e a b : ℕ) → k * (e * (a + b)) ≡ e * (k * a + k * b)
spread k e a b = omega arith

pub stretched : {x y s c : ℤ} {e D : ℕ} (k : ℕ) → Good x y s c e D → Good (pos k *ℤ x) (pos k *ℤ y) s c e D
stretched {x} {y} {s} {c} {e} {D} k g = record {
  residual =
      le_trans (le_of_eq (ap₂ dist (*ℤ-assoc (pos k) x s) (*ℤ-assoc (pos k) y c) ∙ dist_scale k (x *ℤ s) (y *ℤ c)))
      (le_trans (mul-le-mul_left k g.residual)
      (le_of_eq
      (spread k e (nat_abs x) (nat_abs y)
      ∙ ap₂ (λ (a b : ℕ). e * (a + b)) (sym (abs_mul (pos k) x)) (sym (abs_mul (pos k) y)))));
  forward = k * g.forward;
  ahead =
      ap₂ (λ (a b : ℤ). a +ℤ b) (*ℤ-assoc (pos k) x c) (*ℤ-assoc (pos k) y s) ∙ sym (distrib (pos k) (x *ℤ c) (y *ℤ s))
      ∙ ap (λ (z : ℤ). pos k *ℤ z) g.ahead;
  far =
      le_trans
      (le_of_eq
      (sym (spread k D (nat_abs x) (nat_abs y)
      ∙ ap₂ (λ (a b : ℕ). D * (a + b)) (sym (abs_mul (pos k) x)) (sym (abs_mul (pos k) y)))))
      (mul-le-mul_left k g.far);
}

pub shrunk : {x y s c : ℤ} {e D : ℕ} (k : ℕ) → 0 < k → Good (pos k *ℤ x) (pos k *ℤ y) s c e D → Good x y s c e D
shrunk {x} {y} {s} {c} {e} {D} k l g = record {
  residual =
      le_of_mul-le-mul_left
      (le_trans
      (le_of_eq (sym (ap₂ dist (*ℤ-assoc (pos k) x s) (*ℤ-assoc (pos k) y c) ∙ dist_scale k (x *ℤ s) (y *ℤ c))))
      (le_trans g.residual
      (le_of_eq
      (ap₂ (λ (a b : ℕ). e * (a + b)) (abs_mul (pos k) x) (abs_mul (pos k) y)
      ∙ sym (spread k e (nat_abs x) (nat_abs y))))))
      l;
  forward = whole.0;
  ahead = whole.1;
  far =
      le_of_mul-le-mul_left
      (le_trans
      (le_of_eq
      (spread k D (nat_abs x) (nat_abs y)
      ∙ ap₂ (λ (a b : ℕ). D * (a + b)) (sym (abs_mul (pos k) x)) (sym (abs_mul (pos k) y))))
      (le_trans g.far (le_of_eq (sym whole.2))))
      l;
}
  where
    whole : (m : ℕ) × (x *ℤ c +ℤ y *ℤ s ≡ pos m) × (k * m ≡ g.forward)
    whole =
        divided k g.forward (x *ℤ c +ℤ y *ℤ s) l
        (distrib (pos k) (x *ℤ c) (y *ℤ s)
        ∙ sym (ap₂ (λ (a b : ℤ). a +ℤ b) (*ℤ-assoc (pos k) x c) (*ℤ-assoc (pos k) y s)) ∙ g.ahead)

-- ---- the promise, from Good

-- (d h) f = n K: then (d m) (M h) is M K (n m), for the denominators d and m of the two sums
sum_scaled : (d m M K : ℕ) (h n : ℤ) → n *ℤ pos K ≡ h *ℤ pos d
    → pos (d * m) *ℤ (pos M *ℤ h) ≡ pos (M * K) *ℤ (n *ℤ pos m)
sum_scaled d m M K h n e =
    first (pos d) (pos m) (pos M) h ∙ ap (λ (z : ℤ). pos m *ℤ (pos M *ℤ z)) (sym e) ∙ second (pos m) (pos M) (pos K) n
  where
    first : (d m M h : ℤ) → (d *ℤ m) *ℤ (M *ℤ h) ≡ m *ℤ (M *ℤ (h *ℤ d))
    first d m M h = simp (*ℤ-assoc, *ℤ_comm, *ℤ-left-comm)

    second : (m M K n : ℤ) → m *ℤ (M *ℤ (n *ℤ K)) ≡ (M *ℤ K) *ℤ (n *ℤ m)
    second m M K n = simp (*ℤ-assoc, *ℤ_comm, *ℤ-left-comm)

regroup : (n e s d : ℤ) → (n *ℤ e) *ℤ (s *ℤ d) ≡ (n *ℤ s) *ℤ (e *ℤ d)
regroup n e s d = simp (*ℤ-assoc, *ℤ-left-comm)

-- (a b) u = one (n b), where u a = n one
coordinate : (a b o : ℕ) (u n : ℤ) → u *ℤ pos a ≡ n *ℤ pos o → pos (a * b) *ℤ u ≡ pos o *ℤ (n *ℤ pos b)
coordinate a b o u n e = first (pos a) (pos b) u ∙ ap (λ (z : ℤ). pos b *ℤ z) e ∙ second (pos b) n (pos o)
  where
    first : (a b u : ℤ) → (a *ℤ b) *ℤ u ≡ b *ℤ (u *ℤ a)
    first a b u = simp (*ℤ-assoc, *ℤ_comm, *ℤ-left-comm)

    second : (b n o : ℤ) → b *ℤ (n *ℤ o) ≡ o *ℤ (n *ℤ b)
    second b n o = simp (*ℤ_comm, *ℤ-left-comm)

module _ {x y : Float} (X : Finite x) (Y : Finite y) (some : 0 < mag x + mag y) (v : Fraction) (v-pos : 0 < v.den)
    (u M : ℕ) (u-pos : 0 < u) (scales : M * scale ≡ 2 ^ 61 * u)
    (points : Good (units x) (units y) (pos M *ℤ hval sin79 v.num v.den) (pos M *ℤ hval cos79 v.num v.den)
    (v.den ^ 80 * (2 ^ 21 * u)) (v.den ^ 80 * (2 ^ 56 * u))) where
  abbrev a : Fraction
  a = exact x

  abbrev b : Fraction
  b = exact y

  abbrev S : Fraction
  S = sin40 v

  abbrev C : Fraction
  C = cos40 v

  -- the point over the common denominator
  P : ℤ
  P = a.num *ℤ pos b.den

  R : ℤ
  R = b.num *ℤ pos a.den

  K : ℕ
  K = M * (scale * v.den ^ 80)

  K_is : K ≡ 2 ^ 61 * u * v.den ^ 80
  unfolding K
  K_is = sym (mul_assoc M scale (v.den ^ 80)) ∙ ap (λ (k : ℕ). k * v.den ^ 80) scales

  over_fractions : Good P R (pos K *ℤ (S.num *ℤ pos C.den)) (pos K *ℤ (C.num *ℤ pos S.den))
      (S.den * C.den * (v.den ^ 80 * (2 ^ 21 * u))) (S.den * C.den * (v.den ^ 80 * (2 ^ 56 * u)))
  unfolding P R K
  over_fractions =
      subst₂ (λ (s c : ℤ). Good P R s c (S.den * C.den * (v.den ^ 80 * (2 ^ 21 * u)))
      (S.den * C.den * (v.den ^ 80 * (2 ^ 56 * u))))
      (sum_scaled S.den C.den M (scale * v.den ^ 80) (hval sin79 v.num v.den) S.num (sin40_value v))
      (ap (λ (k : ℕ). pos k *ℤ (pos M *ℤ hval cos79 v.num v.den)) (mul_comm S.den C.den)
      ∙ sum_scaled C.den S.den M (scale * v.den ^ 80) (hval cos79 v.num v.den) C.num (cos40_value v))
      (scaled (S.den * C.den)
      (shrunk one one_pos
      (subst₂ (λ (p r : ℤ). Good p r (pos M *ℤ hval sin79 v.num v.den) (pos M *ℤ hval cos79 v.num v.den)
      (v.den ^ 80 * (2 ^ 21 * u)) (v.den ^ 80 * (2 ^ 56 * u)))
      (coordinate a.den b.den one (units x) a.num (exact_units X))
      (ap (λ (k : ℕ). pos k *ℤ units y) (mul_comm a.den b.den)
      ∙ coordinate b.den a.den one (units y) b.num (exact_units Y))
      (stretched (a.den * b.den) points))))

  P_size : nat_abs P ≡ nat_abs a.num * b.den
  unfolding P
  P_size = abs_mul a.num (pos b.den)

  R_size : nat_abs R ≡ nat_abs b.num * a.den
  unfolding R
  R_size = abs_mul b.num (pos a.den)

  residual_over : 2 ^ 40 * dist (P *ℤ (S.num *ℤ pos C.den)) (R *ℤ (C.num *ℤ pos S.den)) ≤ S.den * C.den *
      (nat_abs P + nat_abs R)
  residual_over =
      le_of_mul-le-mul_right
      (at (dist (P *ℤ (S.num *ℤ pos C.den)) (R *ℤ (C.num *ℤ pos S.den))) (S.den * C.den) (nat_abs P + nat_abs R)
      (v.den ^ 80) u
      (le_trans
      (le_of_eq
      (ap (λ (k : ℕ). k * dist (P *ℤ (S.num *ℤ pos C.den)) (R *ℤ (C.num *ℤ pos S.den))) (sym K_is)
      ∙ sym (dist_scale K (P *ℤ (S.num *ℤ pos C.den)) (R *ℤ (C.num *ℤ pos S.den)))
      ∙ ap₂ dist (*ℤ-left-comm (pos K) P (S.num *ℤ pos C.den)) (*ℤ-left-comm (pos K) R (C.num *ℤ pos S.den))))
      over_fractions.residual))
      (mul-pos (mul-pos (lit< tt) u-pos) (one-le-pow 80 v.den v-pos))
    where
      at : (d q s w u : ℕ) → 2 ^ 61 * u * w * d ≤ q * (w * (2 ^ 21 * u)) * s
          → 2 ^ 40 * d * (2097152 * u * w) ≤ q * s * (2097152 * u * w)
      at d q s w u h = omega arith

  pub residual_fractions : AtMost (exact x ⊛ sin40 v ⊝ exact y ⊛ cos40 v) (2^-40 ⊛ (size (exact x) ⊹ size (exact y)))
  unfolding ◌⊛◌ ◌⊝◌ ◌⊹◌ dist P R
  residual_fractions =
      subst (λ (d : ℕ). d * (2 ^ 40 * (a.den * b.den)) ≤ 1 * (nat_abs a.num * b.den + nat_abs b.num * a.den) *
      (a.den * S.den * (b.den * C.den)))
      (ap₂ dist (regroup a.num (pos b.den) S.num (pos C.den)) (regroup b.num (pos a.den) C.num (pos S.den)))
      (at (dist (P *ℤ (S.num *ℤ pos C.den)) (R *ℤ (C.num *ℤ pos S.den))) (nat_abs a.num * b.den + nat_abs b.num * a.den)
      a.den b.den S.den C.den
      (mul-le-mul_right (a.den * b.den)
      (le_trans residual_over (le_of_eq (ap₂ (λ (p r : ℕ). S.den * C.den * (p + r)) P_size R_size)))))
    where
      at : (d q a b s c : ℕ) → 2 ^ 40 * d * (a * b) ≤ s * c * q * (a * b)
          → d * (2 ^ 40 * (a * b)) ≤ 1 * q * (a * s * (b * c))
      at d q a b s c h = omega arith

  -- (|P| + |R|) one = (|x| + |y|) a b
  point_some : 0 < nat_abs P + nat_abs R
  point_some =
      nonzero (nat_abs P + nat_abs R) one
      (subst (λ (k : ℕ). 0 < k) sizes (mul-pos some (mul-pos (exact_proper x) (exact_proper y))))
    where
      in_units : {z : Float} → Finite z → mag z * (exact z).den ≡ nat_abs (exact z).num * one
      in_units {z} f =
          ap (λ (k : ℕ). k * (exact z).den) (sym (signed_size (negative z) (mag z)))
          ∙ sym (abs_mul (units z) (pos (exact z).den)) ∙ ap nat_abs (exact_units f) ∙ abs_mul (exact z).num (pos one)

      spread : (m n p q d e o : ℕ) → m * d ≡ p * o → n * e ≡ q * o → (m + n) * (d * e) ≡ (p * e + q * d) * o
      spread m n p q d e o h k = omega (arith, ap (λ (z : ℕ). z * e) h, ap (λ (z : ℕ). z * d) k)

      sizes : (mag x + mag y) * (a.den * b.den) ≡ (nat_abs P + nat_abs R) * one
      sizes =
          spread (mag x) (mag y) (nat_abs a.num) (nat_abs b.num) a.den b.den one (in_units X) (in_units Y)
          ∙ ap₂ (λ (p r : ℕ). (p + r) * one) (sym P_size) (sym R_size)

      nonzero : (n o : ℕ) → 0 < n * o → 0 < n
      nonzero zero o h = absurd (none o h)
        where
          none : (o : ℕ) → 0 < 0 * o → ⊥
          none o h = omega arith
      nonzero (suc n) o h = omega arith

  pub ahead_fractions : Positive (exact x ⊛ cos40 v ⊹ exact y ⊛ sin40 v)
  unfolding ◌⊛◌ ◌⊹◌ P R
  ahead_fractions =
      at whole.0
      (sym (ap₂ (λ (c s : ℤ). c +ℤ s) (regroup a.num (pos b.den) C.num (pos S.den))
      (regroup b.num (pos a.den) S.num (pos C.den))) ∙ whole.1)
      (subst (λ (f : ℕ). 0 < f) (sym whole.2)
      (above over_fractions.far
      (mul-pos
      (mul-pos (mul-pos (sin40_proper v v-pos) (cos40_proper v v-pos))
      (mul-pos (one-le-pow 80 v.den v-pos) (mul-pos (lit< tt) u-pos))) point_some)))
    where
      whole : (m : ℕ) × (P *ℤ (C.num *ℤ pos S.den) +ℤ R *ℤ (S.num *ℤ pos C.den) ≡ pos m)
          × (K * m ≡ over_fractions.forward)
      whole =
          divided K over_fractions.forward (P *ℤ (C.num *ℤ pos S.den) +ℤ R *ℤ (S.num *ℤ pos C.den))
          (subst (λ (k : ℕ). 0 < k) (sym K_is) (mul-pos (mul-pos (lit< tt) u-pos) (one-le-pow 80 v.den v-pos)))
          (distrib (pos K) (P *ℤ (C.num *ℤ pos S.den)) (R *ℤ (S.num *ℤ pos C.den))
          ∙ ap₂ (λ (c s : ℤ). c +ℤ s) (*ℤ-left-comm (pos K) P (C.num *ℤ pos S.den))
          (*ℤ-left-comm (pos K) R (S.num *ℤ pos C.den)) ∙ over_fractions.ahead)

      above : {p q : ℕ} → p ≤ q → 0 < p → 0 < q
      above h k = le_trans k h

      at : (m : ℕ) {z : ℤ} → z ≡ pos m → 0 < K * m → (n : ℕ) × (z ≡ pos (suc n))
      at zero e h = absurd (none K h)
        where
          none : (k : ℕ) → 0 < k * 0 → ⊥
          none k h = omega arith
      at (suc n) e h = (n, e)
