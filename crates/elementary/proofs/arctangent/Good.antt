-- When numbers s and c, in proportion to a sine and a cosine, are those of the angle of the point (x, y): the residual
-- x s - y c is small, and x c + y s is well above 0, both against |x| + |y|. Laws for the point and the angle swapped,
-- mirrored, turned, moved, scaled.
use Rattle.std.proofs.Common.{◌≡◌, ℕ, ◌+◌, ◌-◌, ◌*◌, ◌^◌, ◌≤◌, ℤ, pos, ◌+ℤ◌, ◌-ℤ◌, ◌*ℤ◌, neg_ℤ, nat_abs, sym}
use Rattle.std.proofs.Common.{ap, ◌∙◌, subst, ap₂, subst₂, le_trans, le_of_eq}
use Rattle.std.proofs.Common.{mul-le-mul_right, mul_assoc, mul_comm, mul-le-mul}
use Rattle.std.proofs.Common.{add_comm, mul-le-mul_left, arith, pow_pos}
use native.Mathlib.Nat.{le_of_mul-le-mul_left}
use lib.IntN.{+ℤ_comm, neg_ℤ-neg_ℤ, *ℤ_comm}
use Rattle.cells.proofs.Cell.{near_naturals}
use Rattle.series.proofs.Integers.{*ℤ-assoc, ◌⊖◌, parts, pos-⊖, ⊖-eq, differences, dist, dist-⊖, dist_trans, dist_comm}
use Rattle.series.proofs.Integers.{dist_neg, dist_scale, size_near, abs_add, abs_mul}
use Rattle.series.proofs.Integers.{abs-negℤ, neg-*ℤ, *ℤ-neg, *ℤ-left-comm, distrib}

pub record Good (x y s c : ℤ) (e D : ℕ) : Type 0 where
  pub residual : dist (x *ℤ s) (y *ℤ c) ≤ e * (nat_abs x + nat_abs y)
  pub forward : ℕ
  pub ahead : x *ℤ c +ℤ y *ℤ s ≡ pos forward
  pub far : D * (nat_abs x + nat_abs y) ≤ forward

-- ---- distances

dist_factor : (x a b : ℤ) → dist (x *ℤ a) (x *ℤ b) ≡ nat_abs x * dist a b
unfolding dist
dist_factor x a b =
    ap nat_abs (ap (λ (z : ℤ). x *ℤ a +ℤ z) (sym (*ℤ-neg x b)) ∙ sym (distrib x a (neg_ℤ b))) ∙ abs_mul x (a -ℤ b)

dist_sum : (a b c d : ℤ) → dist (a +ℤ b) (c +ℤ d) ≤ dist a c + dist b d
unfolding dist
dist_sum a b c d =
    subst (λ (z : ℤ). nat_abs z ≤ nat_abs (a -ℤ c) + nat_abs (b -ℤ d)) (regroup a b c d) (abs_add (a -ℤ c) (b -ℤ d))
  where
    regroup : (a b c d : ℤ) → (a -ℤ c) +ℤ (b -ℤ d) ≡ (a +ℤ b) -ℤ (c +ℤ d)
    regroup a b c d =
        let a' = parts a in
        let b' = parts b in
        let c' = parts c in
        let d' = parts d in
        rw (a'.2, b'.2, c'.2, d'.2) (simp differences (⊖-eq _ _ _ _ (omega arith)))

pub difference : (a b : ℕ) → b ≤ a → a ⊖ b ≡ pos (a - b)
difference a b h = simp pos-⊖ (⊖-eq _ _ _ _ (omega arith))

-- what is near a large number is one
pub large_near : (z : ℤ) (n k : ℕ) → dist z (pos n) ≤ k → k ≤ n → (m : ℕ) × (z ≡ pos m) × (n ≤ m + k)
large_near z n k h l =
    let z' = parts z in
    let f = apart z'.0 z'.1 (subst (λ (w : ℤ). dist w (pos n) ≤ k) z'.2 h) in
    (z'.0 - z'.1, z'.2 ∙ difference z'.0 z'.1 f.0, f.1)
  where
    apart : (a b : ℕ) → dist (a ⊖ b) (pos n) ≤ k → (b ≤ a) × (n ≤ a - b + k)
    apart a b h = let g = simp (pos-⊖, dist-⊖) at h in omega arith

-- ---- the laws

-- the point and the angle seen in the diagonal
pub swapped : {x y s c : ℤ} {e D : ℕ} → Good x y s c e D → Good y x c s e D
swapped {x} {y} {s} {c} {e} {D} g = record {
  residual =
      subst₂ (λ (d m : ℕ). d ≤ e * m) (dist_comm (x *ℤ s) (y *ℤ c)) (add_comm (nat_abs x) (nat_abs y)) g.residual;
  forward = g.forward;
  ahead = +ℤ_comm (y *ℤ s) (x *ℤ c) ∙ g.ahead;
  far = subst (λ (m : ℕ). D * m ≤ g.forward) (add_comm (nat_abs x) (nat_abs y)) g.far;
}

-- seen in the y axis
pub mirrored : {x y s c : ℤ} {e D : ℕ} → Good x y s c e D → Good (neg_ℤ x) y s (neg_ℤ c) e D
mirrored {x} {y} {s} {c} {e} {D} g = record {
  residual =
      subst₂ (λ (d m : ℕ). d ≤ e * (m + nat_abs y))
      (sym (ap₂ dist (neg-*ℤ x s) (*ℤ-neg y c) ∙ dist_neg (x *ℤ s) (y *ℤ c))) (sym (abs-negℤ x)) g.residual;
  forward = g.forward;
  ahead = ap (λ (z : ℤ). z +ℤ y *ℤ s) (neg-*ℤ x (neg_ℤ c) ∙ ap neg_ℤ (*ℤ-neg x c) ∙ neg_ℤ-neg_ℤ (x *ℤ c)) ∙ g.ahead;
  far = subst (λ (m : ℕ). D * (m + nat_abs y) ≤ g.forward) (sym (abs-negℤ x)) g.far;
}

-- seen in the x axis
pub turned : {x y s c : ℤ} {e D : ℕ} → Good x y s c e D → Good x (neg_ℤ y) (neg_ℤ s) c e D
turned {x} {y} {s} {c} {e} {D} g = record {
  residual =
      subst₂ (λ (d m : ℕ). d ≤ e * (nat_abs x + m))
      (sym (ap₂ dist (*ℤ-neg x s) (neg-*ℤ y c) ∙ dist_neg (x *ℤ s) (y *ℤ c))) (sym (abs-negℤ y)) g.residual;
  forward = g.forward;
  ahead = ap (λ (z : ℤ). x *ℤ c +ℤ z) (neg-*ℤ y (neg_ℤ s) ∙ ap neg_ℤ (*ℤ-neg y s) ∙ neg_ℤ-neg_ℤ (y *ℤ s)) ∙ g.ahead;
  far = subst (λ (m : ℕ). D * (nat_abs x + m) ≤ g.forward) (sym (abs-negℤ y)) g.far;
}

-- s and c moved by at most δ
pub moved : {x y s c : ℤ} {e D : ℕ} (s' c' : ℤ) (δ : ℕ) → δ ≤ D → dist s' s ≤ δ → dist c' c ≤ δ → Good x y s c e D
    → Good x y s' c' (e + δ) (D - δ)
moved {x} {y} {s} {c} {e} {D} s' c' δ l p q g = record {
  residual = residual;
  forward = near.0;
  ahead = near.1;
  far = far (nat_abs x) (nat_abs y) g.forward near.0 l g.far near.2;
}
  where
    residual : dist (x *ℤ s') (y *ℤ c') ≤ (e + δ) * (nat_abs x + nat_abs y)
    residual =
        le_trans (dist_trans (x *ℤ s') (x *ℤ s) (y *ℤ c'))
        (omega (
          arith,
          le_trans (le_of_eq (dist_factor x s' s)) (mul-le-mul_left (nat_abs x) p),
          dist_trans (x *ℤ s)
              (y *ℤ c) (y *ℤ c'),
          g.residual,
          le_trans (le_of_eq (dist_factor y c c'))
              (mul-le-mul_left (nat_abs y) (le_trans (le_of_eq (dist_comm c c')) q)),
        ))

    shifted : dist (x *ℤ c' +ℤ y *ℤ s') (pos g.forward) ≤ (nat_abs x + nat_abs y) * δ
    shifted =
        subst (λ (z : ℤ). dist (x *ℤ c' +ℤ y *ℤ s') z ≤ (nat_abs x + nat_abs y) * δ) g.ahead
        (le_trans (dist_sum (x *ℤ c') (y *ℤ s') (x *ℤ c) (y *ℤ s))
        (omega (
          arith,
          le_trans (le_of_eq (dist_factor x c' c)) (mul-le-mul_left (nat_abs x) q),
          le_trans
              (le_of_eq (dist_factor y s' s)) (mul-le-mul_left (nat_abs y) p),
        )))

    near : (m : ℕ) × (x *ℤ c' +ℤ y *ℤ s' ≡ pos m) × (g.forward ≤ m + (nat_abs x + nat_abs y) * δ)
    near =
        large_near (x *ℤ c' +ℤ y *ℤ s') g.forward ((nat_abs x + nat_abs y) * δ) shifted
        (le_trans (le_trans (mul-le-mul_left (nat_abs x + nat_abs y) l) (le_of_eq (mul_comm (nat_abs x + nat_abs y) D)))
        g.far)

    far : (a b f m : ℕ) → δ ≤ D → D * (a + b) ≤ f → f ≤ m + (a + b) * δ → (D - δ) * (a + b) ≤ m
    far a b f m l h k = take_away (D - δ) (omega arith)
      where
        take_away : (r : ℕ) → D ≡ r + δ → r * (a + b) ≤ m
        take_away r e = omega (arith, ap (λ (z : ℕ). z * (a + b)) e)

-- s and c multiplied by k
pub scaled : {x y s c : ℤ} {e D : ℕ} (k : ℕ) → Good x y s c e D → Good x y (pos k *ℤ s) (pos k *ℤ c) (k * e) (k * D)
scaled {x} {y} {s} {c} {e} {D} k g = record {
  residual =
      le_trans
      (le_of_eq (ap₂ dist (*ℤ-left-comm x (pos k) s) (*ℤ-left-comm y (pos k) c) ∙ dist_scale k (x *ℤ s) (y *ℤ c)))
      (le_trans (mul-le-mul_left k g.residual) (le_of_eq (sym (mul_assoc k e (nat_abs x + nat_abs y)))));
  forward = k * g.forward;
  ahead =
      ap₂ (λ (a b : ℤ). a +ℤ b) (*ℤ-left-comm x (pos k) c) (*ℤ-left-comm y (pos k) s)
      ∙ sym (distrib (pos k) (x *ℤ c) (y *ℤ s)) ∙ ap (λ (z : ℤ). pos k *ℤ z) g.ahead;
  far = le_trans (le_of_eq (mul_assoc k D (nat_abs x + nat_abs y))) (mul-le-mul_left k g.far);
}

-- looser bounds
pub loosened : {x y s c : ℤ} {e D : ℕ} (e' D' : ℕ) → e ≤ e' → D' ≤ D → Good x y s c e D → Good x y s c e' D'
loosened {x} {y} e' D' h k g = record {
  residual = le_trans g.residual (mul-le-mul_right (nat_abs x + nat_abs y) h);
  forward = g.forward;
  ahead = g.ahead;
  far = le_trans (mul-le-mul_right (nat_abs x + nat_abs y) k) g.far;
}

-- ---- from the residual at a tangent to the point

-- low / high is near n / 2^64, and the residual at n / 2^64 is small; the cosine is from 3/8 to 13/8, where 1 is 2^61 u
module _ (n low high u : ℕ) (s c : ℤ) (order : low ≤ high) (n-above : n * high ≤ 2 ^ 64 * low + 1025 * high)
    (n-below : 2 ^ 64 * low ≤ n * high + 1025 * high)
    (short : dist (pos (2 ^ 64) *ℤ s) (pos n *ℤ c) ≤ 770 * 2 ^ 64 * u)
    (cosine : dist c (pos (2 ^ 61 * u)) ≤ 5 * 2 ^ 58 * u) where
  c_size : nat_abs c ≤ 13 * 2 ^ 58 * u
  c_size = le_trans (size_near c (pos (2 ^ 61 * u))) (omega arith)

  residual_at : dist (pos high *ℤ s) (pos low *ℤ c) ≤ 1000 * u * high
  residual_at =
      le_of_mul-le-mul_left {k = 2 ^ 64}
      (le_trans
      (le_of_eq
      (sym (dist_scale (2 ^ 64) (pos high *ℤ s) (pos low *ℤ c))
      ∙ ap₂ dist (*ℤ-left-comm (pos (2 ^ 64)) (pos high) s) (merge low c)))
      (le_trans (dist_trans (pos high *ℤ (pos (2 ^ 64) *ℤ s)) (pos high *ℤ (pos n *ℤ c)) (pos (2 ^ 64 * low) *ℤ c))
      (omega (
        arith,
        le_trans (le_of_eq (dist_scale high (pos (2 ^ 64) *ℤ s) (pos n *ℤ c)))
            (mul-le-mul_left high short),
        le_trans
            (le_of_eq
            (ap (λ (z : ℤ). dist z (pos (2 ^ 64 * low) *ℤ c)) (join high n c)
            ∙ ap₂ dist (*ℤ_comm (pos (n * high)) c) (*ℤ_comm (pos (2 ^ 64 * low)) c)
            ∙ dist_factor c (pos (n * high)) (pos (2 ^ 64 * low))))
            (mul-le-mul c_size (near_naturals (n * high) (2 ^ 64 * low) (1025 * high) n-above n-below)),
      ))))
      (pow_pos 64)
    where
      merge : (l : ℕ) (c : ℤ) → pos (2 ^ 64) *ℤ (pos l *ℤ c) ≡ pos (2 ^ 64 * l) *ℤ c
      merge l c = sym (*ℤ-assoc (pos (2 ^ 64)) (pos l) c)

      join : (h n : ℕ) (c : ℤ) → pos h *ℤ (pos n *ℤ c) ≡ pos (n * h) *ℤ c
      join h n c = sym (*ℤ-assoc (pos h) (pos n) c) ∙ ap (λ (k : ℕ). pos k *ℤ c) (mul_comm h n)

  cosine_large : (m : ℕ) × (c ≡ pos m) × (2 ^ 61 * u ≤ m + 5 * 2 ^ 58 * u)
  cosine_large = large_near c (2 ^ 61 * u) (5 * 2 ^ 58 * u) cosine (omega arith)

  -- the sine is hardly below 0
  sine_above : (a b : ℕ) → s ≡ a ⊖ b → b ≤ a + 770 * u
  sine_above a b e =
      at cosine_large.0
      (subst₂ (λ (s c : ℤ). dist (pos (2 ^ 64) *ℤ s) (pos n *ℤ c) ≤ 770 * 2 ^ 64 * u) e cosine_large.1 short)
    where
      at : (m : ℕ) → dist (pos (2 ^ 64) *ℤ (a ⊖ b)) (pos n *ℤ pos m) ≤ 770 * 2 ^ 64 * u → b ≤ a + 770 * u
      at m h = let g = simp (differences, dist-⊖) at h in omega arith

  pub good : Good (pos high) (pos low) s c (1000 * u) (2 ^ 58 * u)
  good =
      at (parts s).0 (parts s).1 cosine_large.0 (parts s).2 cosine_large.1 cosine_large.2
      (sine_above (parts s).0 (parts s).1 (parts s).2)
    where
      at : (a b m : ℕ) → s ≡ a ⊖ b → c ≡ pos m → 2 ^ 61 * u ≤ m + 5 * 2 ^ 58 * u → b ≤ a + 770 * u
          → Good (pos high) (pos low) s c (1000 * u) (2 ^ 58 * u)
      at a b m p q h k = record {
        residual = le_trans residual_at (more (1000 * u) high low);
        forward = high * m + low * a - low * b;
        ahead =
            ap₂ (λ (c s : ℤ). pos high *ℤ c +ℤ pos low *ℤ s) q p
            ∙ open_up (omega (arith, mul-le-mul_left low k, mul-le-mul_left high h, mul-le-mul_right (770 * u) order));
        far =
            above (mul-le-mul_left low k) (mul-le-mul_left high h) (mul-le-mul_right (770 * u) order)
            (mul-le-mul_right u order);
      }
        where
          more : (e h l : ℕ) → e * h ≤ e * (h + l)
          more e h l = mul-le-mul_left e (omega arith)

          open_up : low * b ≤ high * m + low * a
              → pos high *ℤ pos m +ℤ pos low *ℤ (a ⊖ b) ≡ pos (high * m + low * a - low * b)
          open_up h = simp differences (⊖-eq _ _ _ _ (omega arith))

          above : low * b ≤ low * (a + 770 * u) → high * (2 ^ 61 * u) ≤ high * (m + 5 * 2 ^ 58 * u)
              → low * (770 * u) ≤ high * (770 * u) → low * u ≤ high * u
              → 2 ^ 58 * u * (high + low) ≤ high * m + low * a - low * b
          above h k l o = omega arith
