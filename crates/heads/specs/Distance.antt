-- The distance of two whole numbers by their signs, and what follows for two heads: the squared centre distance is
-- symmetric, two heads of the domain have one below 2^32, and one cut at the greatest u64 gives the same relation.
use Rattle.std.specs.Prelude.{ℕ, zero, suc, ◌+◌, ◌-◌, ◌*◌, ◌^◌, ◌≤◌, ◌<◌, min, ◌≡◌, refl}
use Rattle.std.specs.Prelude.{Bool, true, false, ◌&&◌, T, ltb, leb, ℤ, pos, negsuc, nat_abs, ◌-ℤ◌}
use Rattle.std.proofs.Common.{mul-le-mul, arith, sym, ap, ◌∙◌, inr, leb→le, ltb-true, ltb-false}
use Rattle.std.proofs.Math.IntN.{sub_ℕ}
use Rattle.std.specs.Int.Signed.{mag}
use Rattle.std.proofs.Math.Facts.{and_yes}
use Rattle.heads.specs.declared.Head.{Head}
use Rattle.heads.specs.declared.Relation.TheVariants.{Apart}
use Rattle.heads.specs.Limits.{position_limit, radius_limit, position_in_limits, radius_in_limits, in_limits}
use Rattle.heads.specs.Relation.{relation, meets, meets_once}
use Rattle.heads.specs.Pair.{squared_distance, above_zero, radius_of, relation_of, meets_of, meets_once_of, greatest}
use Rattle.heads.specs.Cases.{relation_is, relation_comm, meets_comm, meets_once_comm}

-- how far two whole numbers lie apart, by their signs
abbrev pub far : ℤ → ℤ → ℕ
far (pos m) (pos n) = (m - n) + (n - m)
far (pos m) (negsuc n) = m + suc n
far (negsuc m) (pos n) = n + suc m
far (negsuc m) (negsuc n) = (m - n) + (n - m)

sub_far : (m n : ℕ) → nat_abs (sub_ℕ m n) ≡ (m - n) + (n - m)
sub_far m n = go (ltb m n) refl
  where
    go : (p : Bool) → ltb m n ≡ p → nat_abs (sub_ℕ m n) ≡ (m - n) + (n - m)
    go true e = let h = ltb-true m n e in rw e (omega arith)
    go false e = let h = ltb-false m n e in rw e (omega arith)

-- the magnitude of the difference is that
pub nat_abs_diff : (a b : ℤ) → nat_abs (a -ℤ b) ≡ far a b
nat_abs_diff (pos m) (pos zero) = omega arith
nat_abs_diff (pos m) (pos (suc n)) = sub_far m (suc n)
nat_abs_diff (pos m) (negsuc n) = refl
nat_abs_diff (negsuc m) (pos zero) = sub_far 0 (suc m) ∙ omega arith
nat_abs_diff (negsuc m) (pos (suc n)) = omega arith
nat_abs_diff (negsuc m) (negsuc n) = sub_far (suc n) (suc m) ∙ omega arith

far_comm : (a b : ℤ) → far a b ≡ far b a
far_comm (pos m) (pos n) = omega arith
far_comm (pos m) (negsuc n) = refl
far_comm (negsuc m) (pos n) = refl
far_comm (negsuc m) (negsuc n) = omega arith

far_mag : (a b : ℤ) → far a b ≤ suc (mag a + mag b)
far_mag (pos m) (pos n) = omega arith
far_mag (pos m) (negsuc n) = omega arith
far_mag (negsuc m) (pos n) = omega arith
far_mag (negsuc m) (negsuc n) = omega arith

far_nat_abs : (a b : ℤ) → far a b ≤ nat_abs a + nat_abs b
far_nat_abs (pos m) (pos n) = omega arith
far_nat_abs (pos m) (negsuc n) = omega arith
far_nat_abs (negsuc m) (pos n) = omega arith
far_nat_abs (negsuc m) (negsuc n) = omega arith

-- and does not depend on the order
pub nat_abs_diff_comm : (a b : ℤ) → nat_abs (a -ℤ b) ≡ nat_abs (b -ℤ a)
nat_abs_diff_comm a b = nat_abs_diff a b ∙ far_comm a b ∙ sym (nat_abs_diff b a)

-- two i32 lie less than 2^32 apart
pub diff_below : (a b : ℤ) → mag a < 2 ^ 31 → mag b < 2 ^ 31 → nat_abs (a -ℤ b) < 2 ^ 32
diff_below a b ha hb = omega (arith, nat_abs_diff a b, far_mag a b)

-- ---- the squared distance of two heads

-- symmetric in the two heads
pub squared_distance_comm : (a b : Head) → squared_distance a b ≡ squared_distance b a
squared_distance_comm a b = simp (nat_abs_diff_comm a.x b.x, nat_abs_diff_comm a.y b.y)

-- and so are the relation and meeting
pub relation_of_comm : (a b : Head) → relation_of a b ≡ relation_of b a
relation_of_comm a b =
    relation_comm (squared_distance a b) (radius_of a) (radius_of b)
    ∙ ap (λ (D : ℕ). relation D (radius_of b) (radius_of a)) (squared_distance_comm a b)

pub meets_of_comm : (a b : Head) → meets_of a b ≡ meets_of b a
meets_of_comm a b =
    meets_comm (squared_distance a b) (radius_of a) (radius_of b)
    ∙ ap (λ (D : ℕ). meets D (radius_of b) (radius_of a)) (squared_distance_comm a b)

pub meets_once_of_comm : (a b : Head) → meets_once_of a b ≡ meets_once_of b a
meets_once_of_comm a b =
    meets_once_comm (squared_distance a b) (radius_of a) (radius_of b)
    ∙ ap (λ (D : ℕ). meets_once D (radius_of b) (radius_of a)) (squared_distance_comm a b)

-- what the limits say of an accepted head's numbers
pub record InLimits (h : Head) : Type 0 where
  pub x : nat_abs h.x ≤ position_limit
  pub y : nat_abs h.y ≤ position_limit
  pub most : radius_of h ≤ radius_limit
  pub whole : h.radius ≡ pos (radius_of h)

position_bound : (v : ℤ) → T (position_in_limits v) → nat_abs v ≤ position_limit
position_bound (pos n) h = leb→le n 20000 h
position_bound (negsuc n) h = omega (arith, leb→le n 19999 (and_yes (leb n 19999) true h).0)

radius_bounds : (v : ℤ) → T (radius_in_limits v)
    → (above_zero v ≤ radius_limit) × (v ≡ pos (above_zero v))
radius_bounds (pos n) h = (leb→le n 20000 (and_yes (leb 0 n) (leb n 20000) h).1, refl)
radius_bounds (negsuc n) h = absurd h

-- an accepted head has these bounds
pub limits_of : (h : Head) → T (in_limits h) → InLimits h
limits_of h t =
    let xs = and_yes (position_in_limits h.x) (position_in_limits h.y && radius_in_limits h.radius) t in
    let ys = and_yes (position_in_limits h.y) (radius_in_limits h.radius) xs.1 in
    let r = radius_bounds h.radius ys.1 in
    record {
      x = position_bound h.x xs.0;
      y = position_bound h.y ys.0;
      most = r.0;
      whole = r.1;
    }

-- two positions within the limits lie at most 40000 apart
position_diff : (v w : ℤ) → nat_abs v ≤ position_limit → nat_abs w ≤ position_limit → nat_abs (v -ℤ w) ≤ 40000
position_diff v w hv hw = omega (arith, nat_abs_diff v w, far_nat_abs v w)

-- two accepted heads: D is at most 2 × 40000², which is below 2^32
pub distance_in_limits : (a b : Head) → T (in_limits a) → T (in_limits b) → squared_distance a b ≤ 2 * (40000 * 40000)
distance_in_limits a b ha hb =
    let la = limits_of a ha in
    let lb = limits_of b hb in
    let dx = position_diff a.x b.x la.x lb.x in
    let dy = position_diff a.y b.y la.y lb.y in
    omega (arith, mul-le-mul dx dx, mul-le-mul dy dy)

pub distance_fits : (a b : Head) → T (in_limits a) → T (in_limits b) → squared_distance a b < 2 ^ 32
distance_fits a b ha hb = omega (arith, distance_in_limits a b ha hb)

-- so that nothing is cut at the greatest u64
pub distance_whole : (a b : Head) → T (in_limits a) → T (in_limits b)
    → min (squared_distance a b) greatest ≡ squared_distance a b
distance_whole a b ha hb = let h = distance_fits a b ha hb in omega arith

-- a distance cut at the greatest u64 gives the same relation for radii below 2^31
pub relation_capped : (D a b : ℕ) → a < 2 ^ 31 → b < 2 ^ 31 → relation (min D greatest) a b ≡ relation D a b
relation_capped D a b ha hb = go (ltb greatest D) refl
  where
    square : (a + b) * (a + b) < greatest
    square =
        omega (
          arith,
          mul-le-mul {n₁ =
              a + b} {m₁ = a + b} {n₂ = 4294967294} {m₂ = 4294967294} (omega arith) (omega arith),
        )

    go : (p : Bool) → ltb greatest D ≡ p → relation (min D greatest) a b ≡ relation D a b
    go true e =
        let h = ltb-true greatest D e in
        relation_is (min D greatest) a b Apart (inr (omega (arith, square)))
        ∙ sym (relation_is D a b Apart (inr (omega (arith, square))))
    go false e =
        let h = ltb-false greatest D e in
        let same : min D greatest ≡ D = omega arith in
        ap (λ (n : ℕ). relation n a b) same
