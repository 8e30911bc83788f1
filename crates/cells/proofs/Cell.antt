-- What a passed test of a cell says, and with the 16 cells: for every tangent n / 2^64 below 1 there is an angle X,
-- close to the recipe's, whose residual sine - tangent × cosine is small. Rests on Tests and Plain.
use mathlib.Core.Path.{◌≡◌, refl, sym, ap, ap₂, ◌∙◌, subst, subst₂}
use mathlib.Core.List.{List, [], ◌∷◌}
use mathlib.Core.Bool.{Bool, ◌&&◌}
use Prim.Native.Nat.{ℕ, zero, suc, ◌+◌, ◌-◌, ◌*◌, ◌/◌, ◌^◌, ◌≤◌, ◌<◌, zero-le}
use native.Mathlib.Nat.{le_refl, le_trans, le_of_eq, le_of_lt, add-le-add, mul-le-mul, mul-le-mul_left}
use native.Mathlib.Nat.{mul-le-mul_right, mul_comm, one-mul, mul-one}
use native.Mathlib.Nat.{add-zero, add_comm, le_of_mul-le-mul_right, le_of_suc-le-suc}
use native.Mathlib.Omega.{arith}
use native.Mathlib.Decide.{dec_lt}
use lib.Dec.{T, leb, leb→le}
use lib.Pow.{pow_pos}
use lib.ListN.{length, take}
use lib.IntN.{ℤ, pos, ◌+ℤ◌, ◌*ℤ◌, nat_abs, +ℤ_idl, +ℤ_idr, +ℤ_comm}
use lib.Ieee.Fits.{and_l, and_r}
use Rattle.series.specs.Taylor.{factorial}
use Rattle.series.specs.Kernel.{mulhi, horner}
use Rattle.series.proofs.Integers.{◌⊖◌, parts, pos-⊖, ⊖-eq, differences, dist}
use Rattle.series.proofs.Integers.{dist-⊖, dist_trans, dist_comm, dist_scale, abs_add, abs-⊖, *ℤ-left-comm}
use Rattle.series.proofs.Polynomial.{hval, shift, one_pow}
use Rattle.series.proofs.Alternating.{alternating, exact_sum, falling, alternating_value}
use Rattle.series.proofs.Alternating.{Stands, horner_stands, quotient_above, quotient_below}
use Rattle.cells.specs.Arc.{first_arc, arcs, arc}
use Rattle.cells.proofs.Plain.{val, value_whole, shifted_value, scaled, scaled_value, times}
use Rattle.cells.proofs.Plain.{times_value, compose, compose_value, gaps, bound, values_close}
use Rattle.cells.proofs.Tests.{arc_polynomial, sine24, cosine24, unit24, sine80, cosine80}
use Rattle.cells.proofs.Tests.{unit80, tick, grade, half, reach, tail, residual}
use Rattle.cells.proofs.Tests.{angle, spans, cell, quotients, cell_of, cell_at, cells_from}
use Rattle.cells.proofs.Tests.{lowest_cells, lower_cells, upper_cells, highest_cells, close, sine_head, cosine_head}

-- |z| as a distance
pub size_dist : (z : ℤ) → nat_abs z ≡ dist z (pos 0)
unfolding dist
size_dist z = ap nat_abs (sym (+ℤ_idr z))

-- two naturals that differ by at most e
pub near_naturals : (a b e : ℕ) → a ≤ b + e → b ≤ a + e → dist (pos a) (pos b) ≤ e
near_naturals a b e h k = simp (pos-⊖, dist-⊖) (omega arith)

-- the tangent c + X, at d
line : (c : ℕ) (d : ℤ) → val (pos c ∷ pos 1 ∷ []) d ≡ d +ℤ pos c
unfolding val
line c d =
    let d' = parts d in
    rw d'.2 (simp differences (⊖-eq _ _ _ _ (omega arith)))

-- ---- one cell

module _ (c a : ℕ) (b : List ℤ) (test : T (cell c a b)) (d : ℤ) (small : nat_abs d ≤ half) where
  -- the six tests
  angle? : Bool
  angle? = angle c a b

  spans? : Bool
  spans? = spans b

  starts? : Bool
  starts? = leb (a + reach) (2 ^ 600)

  sine-tail? : Bool
  sine-tail? = tail (shift sine24 a)

  cosine-tail? : Bool
  cosine-tail? = tail (shift cosine24 a)

  residual? : Bool
  residual? = residual c (take 8 (shift sine24 a)) (take 8 (shift cosine24 a)) (pos 0 ∷ b)

  all : T (angle? && spans? && starts? && sine-tail? && cosine-tail? && residual?)
  unfolding cell angle? spans? starts? sine-tail? cosine-tail? residual?
  all = test

  -- the angle less a, and the angle
  part : ℤ
  part = val (pos 0 ∷ b) d

  pub middle : ℤ
  middle = part +ℤ pos a

  middle_is : val (pos a ∷ b) d ≡ middle
  unfolding val middle part
  middle_is = ap (λ (z : ℤ). pos a +ℤ z) (sym (+ℤ_idl (d *ℤ val b d))) ∙ +ℤ_comm (pos a) (pos 0 +ℤ d *ℤ val b d)

  pub angle_near : dist (val arc_polynomial (d +ℤ pos c)) (pos grade *ℤ middle) ≤ 512 * tick * grade
  unfolding angle angle?
  angle_near =
      subst₂ (λ (x y : ℤ). dist x y ≤ 512 * tick * grade) (shifted_value arc_polynomial c d)
      (scaled_value (pos grade) (pos a ∷ b) d ∙ ap (λ (z : ℤ). pos grade *ℤ z) middle_is)
      (le_trans (values_close (shift arc_polynomial c) (scaled (pos grade) (pos a ∷ b)) d half small)
      (leb→le (bound (gaps (shift arc_polynomial c) (scaled (pos grade) (pos a ∷ b))) half) (512 * tick * grade)
      (and_l angle? spans?
      (and_l (angle? && spans?) starts?
      (and_l (angle? && spans? && starts?) sine-tail?
      (and_l (angle? && spans? && starts? && sine-tail?) cosine-tail?
      (and_l (angle? && spans? && starts? && sine-tail? && cosine-tail?) residual? all)))))))

  part_small : nat_abs part ≤ reach
  unfolding spans spans? part val
  part_small =
      le_trans (le_of_eq (size_dist (val (pos 0 ∷ b) d)))
      (le_trans (values_close (pos 0 ∷ b) [] d half small)
      (leb→le (bound (gaps (pos 0 ∷ b) []) half) reach
      (and_r angle? spans?
      (and_l (angle? && spans?) starts?
      (and_l (angle? && spans? && starts?) sine-tail?
      (and_l (angle? && spans? && starts? && sine-tail?) cosine-tail?
      (and_l (angle? && spans? && starts? && sine-tail? && cosine-tail?) residual? all)))))))

  pub middle_small : nat_abs middle ≤ 2 ^ 600
  unfolding middle starts?
  middle_small =
      le_trans (abs_add part (pos a))
      (le_trans (add-le-add part_small (le_refl a))
      (le_trans (le_of_eq (add_comm reach a))
      (leb→le (a + reach) (2 ^ 600)
      (and_r (angle? && spans?) starts?
      (and_l (angle? && spans? && starts?) sine-tail?
      (and_l (angle? && spans? && starts? && sine-tail?) cosine-tail?
      (and_l (angle? && spans? && starts? && sine-tail? && cosine-tail?) residual? all)))))))

  -- 8 coefficients about a are enough
  tail_near : (p : List ℤ) → T (tail (shift p a)) → dist (val p middle) (val (take 8 (shift p a)) part) ≤ 128 * unit24
  unfolding tail middle
  tail_near p t =
      subst (λ (z : ℤ). dist z (val (take 8 (shift p a)) part) ≤ 128 * unit24) (shifted_value p a part)
      (le_trans (values_close (shift p a) (take 8 (shift p a)) part reach part_small)
      (leb→le (bound (gaps (shift p a) (take 8 (shift p a))) reach) (128 * unit24) t))

  residual_near : dist (pos (2 ^ 64) *ℤ val (take 8 (shift sine24 a)) part)
      ((d +ℤ pos c) *ℤ val (take 8 (shift cosine24 a)) part) ≤ 512 * 2 ^ 64 * unit24
  unfolding residual residual? part
  residual_near =
      subst₂ (λ (x y : ℤ). dist x y ≤ 512 * 2 ^ 64 * unit24)
      (scaled_value (pos (2 ^ 64)) (compose (take 8 (shift sine24 a)) (pos 0 ∷ b)) d
      ∙ ap (λ (z : ℤ). pos (2 ^ 64) *ℤ z) (compose_value (take 8 (shift sine24 a)) (pos 0 ∷ b) d))
      (times_value (pos c ∷ pos 1 ∷ []) (compose (take 8 (shift cosine24 a)) (pos 0 ∷ b)) d
      ∙ ap₂ (λ (x y : ℤ). x *ℤ y) (line c d) (compose_value (take 8 (shift cosine24 a)) (pos 0 ∷ b) d))
      (le_trans
      (values_close (scaled (pos (2 ^ 64)) (compose (take 8 (shift sine24 a)) (pos 0 ∷ b)))
      (times (pos c ∷ pos 1 ∷ []) (compose (take 8 (shift cosine24 a)) (pos 0 ∷ b))) d half small)
      (leb→le (bound
      (gaps (scaled (pos (2 ^ 64)) (compose (take 8 (shift sine24 a)) (pos 0 ∷ b)))
      (times (pos c ∷ pos 1 ∷ []) (compose (take 8 (shift cosine24 a)) (pos 0 ∷ b)))) half) (512 * 2 ^ 64 * unit24)
      (and_r (angle? && spans? && starts? && sine-tail? && cosine-tail?) residual? all)))

  -- sine and cosine by 24 coefficients
  pub cell_residual : (n : ℕ) → pos n ≡ d +ℤ pos c → n ≤ 2 ^ 64
      → dist (pos (2 ^ 64) *ℤ val sine24 middle) (pos n *ℤ val cosine24 middle) ≤ 768 * 2 ^ 64 * unit24
  unfolding sine-tail? cosine-tail?
  cell_residual n e l =
      le_trans
      (dist_trans (pos (2 ^ 64) *ℤ val sine24 middle) (pos (2 ^ 64) *ℤ val (take 8 (shift sine24 a)) part)
      (pos n *ℤ val cosine24 middle))
      (three unit24 (le_of_eq (dist_scale (2 ^ 64) (val sine24 middle) (val (take 8 (shift sine24 a)) part)))
      (tail_near sine24
      (and_r (angle? && spans? && starts?) sine-tail?
      (and_l (angle? && spans? && starts? && sine-tail?) cosine-tail?
      (and_l (angle? && spans? && starts? && sine-tail? && cosine-tail?) residual? all))))
      (dist_trans (pos (2 ^ 64) *ℤ val (take 8 (shift sine24 a)) part) (pos n *ℤ val (take 8 (shift cosine24 a)) part)
      (pos n *ℤ val cosine24 middle))
      (subst (λ (z : ℤ). dist (pos (2 ^ 64) *ℤ val (take 8 (shift sine24 a)) part)
      (z *ℤ val (take 8 (shift cosine24 a)) part) ≤ 512 * 2 ^ 64 * unit24) (sym e) residual_near)
      (le_trans (le_of_eq (dist_scale n (val (take 8 (shift cosine24 a)) part) (val cosine24 middle)))
      (mul-le-mul l (le_trans (le_of_eq (dist_comm (val (take 8 (shift cosine24 a)) part) (val cosine24 middle)))
      (tail_near cosine24
      (and_r (angle? && spans? && starts? && sine-tail?) cosine-tail?
      (and_l (angle? && spans? && starts? && sine-tail? && cosine-tail?) residual? all)))))))
    where
      three : (u : ℕ) {p q r s t : ℕ} → p ≤ 2 ^ 64 * q → q ≤ 128 * u → r ≤ s + t → s ≤ 512 * 2 ^ 64 * u
          → t ≤ 2 ^ 64 * (128 * u) → p + r ≤ 768 * 2 ^ 64 * u
      three u h1 h2 h3 h4 h5 = omega arith

-- ---- all cells

cell_from : (k n i : ℕ) → T (cells_from k n) → i < n → T (cell_at (k + i))
unfolding cells_from
cell_from k zero i t l = absurd (omega arith)
cell_from k (suc n) zero t l =
    subst (λ (i : ℕ). T (cell_at i)) (sym (add-zero k)) (and_l (cell_at k) (cells_from (suc k) n) t)
cell_from k (suc n) (suc i) t l =
    subst (λ (i : ℕ). T (cell_at i)) (sym (one_more k i))
    (cell_from (suc k) n i (and_r (cell_at k) (cells_from (suc k) n) t) (le_of_suc-le-suc l))
  where
    one_more : (k i : ℕ) → k + suc i ≡ suc k + i
    one_more k i = omega arith

every_cell : (k : ℕ) → k < 16 → T (cell_at k)
every_cell k l = go (dec_lt k 4) (dec_lt k 8) (dec_lt k 12)
  where
    at : (b : ℕ) → T (cells_from b 4) → b ≤ k → k < b + 4 → T (cell_at k)
    at b t h m = subst (λ (i : ℕ). T (cell_at i)) (omega arith) (cell_from b 4 (k - b) t (omega arith))

    go : Dec (k < 4) → Dec (k < 8) → Dec (k < 12) → T (cell_at k)
    go (yes h) y z = at 0 lowest_cells zero-le h
    go (no h) (yes y) z = at 4 lower_cells (omega arith) (omega arith)
    go (no h) (no y) (yes z) = at 8 upper_cells (omega arith) (omega arith)
    go (no h) (no y) (no z) = at 12 highest_cells (omega arith) (omega arith)

-- an angle X near the recipe's polynomial at n, with its residual
record Middle (n : ℕ) : Type 0 where
  place : ℤ
  small : nat_abs place ≤ 2 ^ 600
  near : dist (val arc_polynomial (pos n)) (pos grade *ℤ place) ≤ 512 * tick * grade
  short : dist (pos (2 ^ 64) *ℤ val sine24 place) (pos n *ℤ val cosine24 place) ≤ 768 * 2 ^ 64 * unit24

middle_of : (c n : ℕ) (d : ℤ) (l : List ℤ) → T (cell_of c l) → nat_abs d ≤ half → pos n ≡ d +ℤ pos c → n ≤ 2 ^ 64
    → Middle n
unfolding cell_of
middle_of c n d [] t s e l = absurd t
middle_of c n d (a ∷ b) t s e l = record {
  place = middle c (nat_abs a) b t d s;
  small = middle_small c (nat_abs a) b t d s;
  near =
      subst (λ (z : ℤ). dist (val arc_polynomial z) (pos grade *ℤ middle c (nat_abs a) b t d s) ≤ 512 * tick * grade)
      (sym e) (angle_near c (nat_abs a) b t d s);
  short = cell_residual c (nat_abs a) b t d s n e l;
}

-- n lies in the cell number n / 2^60
middle_at : (n : ℕ) → n < 2 ^ 64 → Middle n
unfolding cell_at
middle_at n l =
    middle_of ((2 * (n / 2 ^ 60) + 1) * half) n (n ⊖ (2 * (n / 2 ^ 60) + 1) * half)
    (quotients 10 (shift arc_polynomial ((2 * (n / 2 ^ 60) + 1) * half))) (every_cell (n / 2 ^ 60) (omega arith))
    (le_trans (le_of_eq (abs-⊖ n ((2 * (n / 2 ^ 60) + 1) * half))) (omega arith))
    (place n ((2 * (n / 2 ^ 60) + 1) * half)) (le_of_lt l)
  where
    place : (n c : ℕ) → pos n ≡ n ⊖ c +ℤ pos c
    place n c = simp differences (⊖-eq _ _ _ _ (omega arith))

-- ---- the recipe against its polynomial

arcs_fall : T (falling first_arc arcs)
unfolding falling
arcs_fall = tt

-- the alternating sum without cuts
sum_at : ℕ → ℕ
sum_at n = exact_sum (2 ^ 64 * 2 ^ 64) (n * n) (first_arc ∷ arcs)

polynomial_value : (n : ℕ) → n ≤ 2 ^ 64 → val arc_polynomial (pos n) ≡ pos (n * sum_at n)
unfolding val hval arc_polynomial sum_at
polynomial_value n l =
    +ℤ_idl (pos n *ℤ val (alternating 1 (2 ^ 128) [] (first_arc ∷ arcs)) (pos n))
    ∙ ap (λ (z : ℤ). pos n *ℤ z)
    (sym (value_whole (alternating 1 (2 ^ 128) [] (first_arc ∷ arcs)) (pos n))
    ∙ alternating_value 1 (2 ^ 128) n 1 (mul-le-mul l l) [] (pos n) refl (ap pos (sym (mul-one (n * n)))) first_arc arcs
    arcs_fall
    ∙ ap pos
    (ap₂ (λ (a b : ℕ). a * b) (one_pow (length (alternating 1 (2 ^ 128) [] (first_arc ∷ arcs))))
    (one-mul (exact_sum (2 ^ 128) (n * n) (first_arc ∷ arcs)))
    ∙ one-mul (exact_sum (2 ^ 128) (n * n) (first_arc ∷ arcs))))

-- t = n h / 2^65, cut, stands for n E / (2^65 U) where h stands for E / U
angle_stands : (n h t E U : ℕ) → n ≤ 2 ^ 64 → t * 2 ^ 65 ≤ n * h → n * h ≤ t * 2 ^ 65 + 2 ^ 65 → Stands h E U 42
    → (t * (2 ^ 65 * U) ≤ n * E + 22 * (2 ^ 65 * U)) × (n * E ≤ t * (2 ^ 65 * U) + 22 * (2 ^ 65 * U))
angle_stands n h t E U l low high s = (
  omega (arith, mul-le-mul_right U low, mul-le-mul_left n s.above, mul-le-mul_right (42 * U) l),
  omega (arith, mul-le-mul_right U high, mul-le-mul_left n s.below, mul-le-mul_right (42 * U) l),
)

scales : 2 ^ 65 * (2 ^ 64 * 2 ^ 64) ^ 21 ≡ tick * grade
unfolding tick grade
scales = refl

-- the recipe's angle, against its polynomial: 22 units of 2^-62
recipe_near : (n : ℕ) → n ≤ 2 ^ 64
    → dist (pos (arc n * (tick * grade))) (val arc_polynomial (pos n)) ≤ 22 * (tick * grade)
unfolding arc sum_at
recipe_near n l =
    rw (polynomial_value n l, ← scales)
    (near_naturals (t * K) (n * sum_at n) (22 * K) both.0 both.1)
  where
    h : ℕ
    h = horner first_arc arcs (mulhi n n)

    t : ℕ
    t = mulhi n h / 2

    K : ℕ
    K = 2 ^ 65 * (2 ^ 64 * 2 ^ 64) ^ 21

    low : (p : ℕ) → p / 2 ^ 64 / 2 * 2 ^ 65 ≤ p
    low p = omega arith

    high : (p : ℕ) → p ≤ p / 2 ^ 64 / 2 * 2 ^ 65 + 2 ^ 65
    high p = omega arith

    both : (t * K ≤ n * sum_at n + 22 * K) × (n * sum_at n ≤ t * K + 22 * K)
    both =
        angle_stands n h t (sum_at n) ((2 ^ 64 * 2 ^ 64) ^ 21) l (low (n * h)) (high (n * h))
        (horner_stands (2 ^ 64) (n * n) (mulhi n n) (quotient_above (n * n) (2 ^ 64))
        (quotient_below (n * n) (2 ^ 64) (pow_pos 64)) (mul-le-mul l l) (pow_pos 64) first_arc arcs
        (leb→le first_arc (2 ^ 64) tt) arcs_fall).0

-- ---- both together

-- Of a tangent n / 2^64: an angle at most 1, within 534 × 2^-62 of the recipe's, whose residual by the whole sums is at
-- most 770 × 2^-61.
pub record Slanted (n : ℕ) : Type 0 where
  pub place : ℤ
  pub small : nat_abs place ≤ 2 ^ 600
  pub near : dist (pos (arc n * tick)) place ≤ 534 * tick
  pub short : dist (pos (2 ^ 64) *ℤ val sine80 place) (pos n *ℤ val cosine80 place) ≤ 770 * 2 ^ 64 * unit80

unit_scale : (2 ^ 600) ^ 56 * unit24 ≡ unit80
unfolding unit24 unit80 factorial
unit_scale = refl

grade_pos : 0 < grade
unfolding grade
grade_pos = pow_pos 2215

-- the first 24 coefficients
head_near : (p q : List ℤ) → T (close p (scaled (pos ((2 ^ 600) ^ 56)) q) (2 ^ 600) 1) → (x : ℤ) → nat_abs x ≤ 2 ^ 600
    → dist (val p x) (pos ((2 ^ 600) ^ 56) *ℤ val q x) ≤ unit80
unfolding close
head_near p q t x h =
    subst (λ (z : ℤ). dist (val p x) z ≤ unit80) (scaled_value (pos ((2 ^ 600) ^ 56)) q x)
    (le_trans (values_close p (scaled (pos ((2 ^ 600) ^ 56)) q) x (2 ^ 600) h)
    (le_trans (leb→le (bound (gaps p (scaled (pos ((2 ^ 600) ^ 56)) q)) (2 ^ 600)) (1 * unit80) t)
    (le_of_eq (one-mul unit80))))

-- from values near M s and M k to s and k, for the residual m s - n k
lifted : (m n M u e : ℕ) (s k S C : ℤ) → n ≤ m → dist S (pos M *ℤ s) ≤ u → dist C (pos M *ℤ k) ≤ u
    → dist (pos m *ℤ s) (pos n *ℤ k) ≤ e → dist (pos m *ℤ S) (pos n *ℤ C) ≤ M * e + 2 * (m * u)
lifted m n M u e s k S C l p q r =
    le_trans (dist_trans (pos m *ℤ S) (pos m *ℤ (pos M *ℤ s)) (pos n *ℤ C))
    (three (le_trans (le_of_eq (dist_scale m S (pos M *ℤ s))) (mul-le-mul_left m p))
    (dist_trans (pos m *ℤ (pos M *ℤ s)) (pos n *ℤ (pos M *ℤ k)) (pos n *ℤ C))
    (le_trans
    (le_of_eq
    (ap₂ dist (*ℤ-left-comm (pos m) (pos M) s) (*ℤ-left-comm (pos n) (pos M) k)
    ∙ dist_scale M (pos m *ℤ s) (pos n *ℤ k))) (mul-le-mul_left M r))
    (le_trans (le_of_eq (dist_scale n (pos M *ℤ k) C))
    (mul-le-mul l (le_trans (le_of_eq (dist_comm (pos M *ℤ k) C)) q))))
  where
    three : {a b c d : ℕ} → a ≤ m * u → b ≤ c + d → c ≤ M * e → d ≤ m * u → a + b ≤ M * e + 2 * (m * u)
    three h1 h2 h3 h4 = omega arith

pub slanted : (n : ℕ) → n < 2 ^ 64 → Slanted n
slanted n l = record { place = m.place; small = m.small; near = near; short = short }
  where
    m : Middle n
    m = middle_at n l

    near : dist (pos (arc n * tick)) m.place ≤ 534 * tick
    near =
        le_of_mul-le-mul_right
        (le_trans
        (le_of_eq
        (mul_comm (dist (pos (arc n * tick)) m.place) grade ∙ sym (dist_scale grade (pos (arc n * tick)) m.place)
        ∙ ap (λ (k : ℕ). dist (pos k) (pos grade *ℤ m.place)) (omega arith)))
        (le_trans (dist_trans (pos (arc n * (tick * grade))) (val arc_polynomial (pos n)) (pos grade *ℤ m.place))
        (sum tick grade (recipe_near n (le_of_lt l)) m.near)))
        grade_pos
      where
        sum : (t g : ℕ) {a b : ℕ} → a ≤ 22 * (t * g) → b ≤ 512 * t * g → a + b ≤ 534 * t * g
        sum t g h k = omega arith

    short : dist (pos (2 ^ 64) *ℤ val sine80 m.place) (pos n *ℤ val cosine80 m.place) ≤ 770 * 2 ^ 64 * unit80
    short =
        le_trans
        (lifted (2 ^ 64) n ((2 ^ 600) ^ 56) unit80 (768 * 2 ^ 64 * unit24) (val sine24 m.place) (val cosine24 m.place)
        (val sine80 m.place) (val cosine80 m.place) (le_of_lt l)
        (head_near sine80 sine24 sine_head m.place m.small) (head_near cosine80 cosine24 cosine_head m.place m.small)
        m.short)
        (le_of_eq (gather ((2 ^ 600) ^ 56) unit24 unit80 unit_scale))
      where
        gather : (M u v : ℕ) → M * u ≡ v → M * (768 * 2 ^ 64 * u) + 2 * (2 ^ 64 * v) ≡ 770 * 2 ^ 64 * v
        gather M u v e = omega (arith, e)
