-- Integers as differences of natural numbers: a ⊖ b. Sums, products, equality and size of such differences are those of
-- natural numbers, which `omega` settles, so that every identity and every bound over ℤ is proved in ℕ. Rests on
-- lib.IntN.
use mathlib.Core.Path.{◌≡◌, refl, sym, ap, ap₂, ◌∙◌, subst}
use Prim.Native.Nat.{ℕ, zero, suc, ◌+◌, ◌-◌, ◌*◌, ◌≤◌}
use native.Mathlib.Omega.{arith}
use native.Mathlib.Decide.{dec_le}
use lib.IntN.{ℤ, pos, negsuc, neg_ℤ, ◌+ℤ◌, ◌-ℤ◌, ◌*ℤ◌, nat_abs, +ℤ_assoc}
use lib.IntN.{+ℤ_comm, +ℤ_idl, +ℤ_idr, +ℤ_invr, neg_ℤ-+ℤ, neg_ℤ-neg_ℤ, suc_ℤ-*ℤ, zero-*ℤ, *ℤ_comm, *ℤ-negsuc}

-- ---- ℤ as a ring

pub +ℤ-left-comm : (a b c : ℤ) → a +ℤ (b +ℤ c) ≡ b +ℤ (a +ℤ c)
+ℤ-left-comm a b c = sym (+ℤ_assoc a b c) ∙ ap (λ (z : ℤ). z +ℤ c) (+ℤ_comm a b) ∙ +ℤ_assoc b a c

pub pair_sum : (a b c d : ℤ) → (a +ℤ b) +ℤ (c +ℤ d) ≡ (a +ℤ c) +ℤ (b +ℤ d)
pair_sum a b c d = simp (+ℤ_assoc, +ℤ-left-comm)

-- (-a) b = -(a b)
neg_negsuc : (n : ℕ) (k : ℤ) → negsuc n *ℤ k ≡ neg_ℤ (pos (suc n) *ℤ k)
neg_negsuc n k = *ℤ_comm (negsuc n) k ∙ *ℤ-negsuc k n ∙ ap neg_ℤ (*ℤ_comm k (pos (suc n)))

pub neg-*ℤ : (a b : ℤ) → neg_ℤ a *ℤ b ≡ neg_ℤ (a *ℤ b)
neg-*ℤ (pos zero) b = zero-*ℤ b ∙ sym (ap neg_ℤ (zero-*ℤ b))
neg-*ℤ (pos (suc n)) b = neg_negsuc n b
neg-*ℤ (negsuc n) b = sym (ap neg_ℤ (neg_negsuc n b) ∙ neg_ℤ-neg_ℤ (pos (suc n) *ℤ b))

pub *ℤ-neg : (a b : ℤ) → a *ℤ neg_ℤ b ≡ neg_ℤ (a *ℤ b)
*ℤ-neg a b = *ℤ_comm a (neg_ℤ b) ∙ neg-*ℤ b a ∙ ap neg_ℤ (*ℤ_comm b a)

distrib_pos : (n : ℕ) (b c : ℤ) → pos n *ℤ (b +ℤ c) ≡ pos n *ℤ b +ℤ pos n *ℤ c
distrib_pos zero b c = zero-*ℤ (b +ℤ c) ∙ sym (ap₂ (λ (x y : ℤ). x +ℤ y) (zero-*ℤ b) (zero-*ℤ c))
distrib_pos (suc n) b c =
    suc_ℤ-*ℤ (pos n) (b +ℤ c)
    ∙ ap (λ (z : ℤ). z +ℤ (b +ℤ c)) (distrib_pos n b c)
    ∙ pair_sum (pos n *ℤ b) (pos n *ℤ c) b c
    ∙ sym (ap₂ (λ (x y : ℤ). x +ℤ y) (suc_ℤ-*ℤ (pos n) b) (suc_ℤ-*ℤ (pos n) c))

-- a (b + c) = a b + a c
pub distrib : (a b c : ℤ) → a *ℤ (b +ℤ c) ≡ a *ℤ b +ℤ a *ℤ c
distrib (pos n) b c = distrib_pos n b c
distrib (negsuc n) b c =
    neg_negsuc n (b +ℤ c)
    ∙ ap neg_ℤ (distrib_pos (suc n) b c)
    ∙ neg_ℤ-+ℤ (pos (suc n) *ℤ b) (pos (suc n) *ℤ c)
    ∙ sym (ap₂ (λ (x y : ℤ). x +ℤ y) (neg_negsuc n b) (neg_negsuc n c))

pub distrib_r : (a b c : ℤ) → (a +ℤ b) *ℤ c ≡ a *ℤ c +ℤ b *ℤ c
distrib_r a b c = *ℤ_comm (a +ℤ b) c ∙ distrib c a b ∙ ap₂ (λ (x y : ℤ). x +ℤ y) (*ℤ_comm c a) (*ℤ_comm c b)

-- ---- differences

-- a - b, for two naturals. Shut, so that a goal shows it.
infixl 6 ◌⊖◌
pub ◌⊖◌ : ℕ → ℕ → ℤ
a ⊖ b = pos a -ℤ pos b

pub ⊖-neg : (a b : ℕ) → neg_ℤ (a ⊖ b) ≡ b ⊖ a
unfolding ◌⊖◌
⊖-neg a b =
    neg_ℤ-+ℤ (pos a) (neg_ℤ (pos b)) ∙ ap (λ (z : ℤ). neg_ℤ (pos a) +ℤ z) (neg_ℤ-neg_ℤ (pos b))
    ∙ +ℤ_comm (neg_ℤ (pos a)) (pos b)

pub pos-⊖ : (a : ℕ) → pos a ≡ a ⊖ 0
unfolding ◌⊖◌
pos-⊖ a = sym (+ℤ_idr (pos a))

pub neg-pos-⊖ : (b : ℕ) → neg_ℤ (pos b) ≡ 0 ⊖ b
neg-pos-⊖ b = ap neg_ℤ (pos-⊖ b) ∙ ⊖-neg b 0

-- every integer is a difference
pub parts : (z : ℤ) → (a : ℕ) × (b : ℕ) × (z ≡ a ⊖ b)
unfolding ◌⊖◌
parts (pos a) = (a, 0, sym (+ℤ_idr (pos a)))
parts (negsuc b) = (0, suc b, sym (+ℤ_idl (negsuc b)))

sum_of_differences : (a b c d : ℤ) → (a -ℤ b) +ℤ (c -ℤ d) ≡ (a +ℤ c) -ℤ (b +ℤ d)
sum_of_differences a b c d = pair_sum a (neg_ℤ b) c (neg_ℤ d) ∙ ap (λ (z : ℤ). (a +ℤ c) +ℤ z) (sym (neg_ℤ-+ℤ b d))

pub ⊖-add : (a b c d : ℕ) → (a ⊖ b) +ℤ (c ⊖ d) ≡ (a + c) ⊖ (b + d)
unfolding ◌⊖◌
⊖-add a b c d = sum_of_differences (pos a) (pos b) (pos c) (pos d)

product_of_differences : (a b c d : ℤ) → (a -ℤ b) *ℤ (c -ℤ d) ≡ (a *ℤ c +ℤ b *ℤ d) -ℤ (a *ℤ d +ℤ b *ℤ c)
product_of_differences a b c d =
    distrib_r a (neg_ℤ b) (c -ℤ d)
    ∙ ap₂ (λ (x y : ℤ). x +ℤ y)
    (distrib a c (neg_ℤ d) ∙ ap (λ (z : ℤ). a *ℤ c +ℤ z) (*ℤ-neg a d))
    (neg-*ℤ b (c -ℤ d) ∙ ap neg_ℤ (distrib b c (neg_ℤ d) ∙ ap (λ (z : ℤ). b *ℤ c +ℤ z) (*ℤ-neg b d))
    ∙ neg_ℤ-+ℤ (b *ℤ c) (neg_ℤ (b *ℤ d)) ∙ ap (λ (z : ℤ). neg_ℤ (b *ℤ c) +ℤ z) (neg_ℤ-neg_ℤ (b *ℤ d))
    ∙ +ℤ_comm (neg_ℤ (b *ℤ c)) (b *ℤ d))
    ∙ sum_of_differences (a *ℤ c) (a *ℤ d) (b *ℤ d) (b *ℤ c)

pub ⊖-mul : (a b c d : ℕ) → (a ⊖ b) *ℤ (c ⊖ d) ≡ (a * c + b * d) ⊖ (a * d + b * c)
unfolding ◌⊖◌
⊖-mul a b c d = product_of_differences (pos a) (pos b) (pos c) (pos d)

-- what turns an expression over differences into one difference
pub ruleset differences = (pos-⊖, neg-pos-⊖, ⊖-add, ⊖-mul, ⊖-neg)

-- a - b = c - d where a + d = c + b
cancelled : (a b c : ℤ) → a -ℤ b ≡ (a +ℤ c) -ℤ (b +ℤ c)
cancelled a b c = sym (sym (sum_of_differences a b c c) ∙ ap (λ (z : ℤ). (a -ℤ b) +ℤ z) (+ℤ_invr c) ∙ +ℤ_idr (a -ℤ b))

pub ⊖-eq : (a b c d : ℕ) → a + d ≡ c + b → a ⊖ b ≡ c ⊖ d
unfolding ◌⊖◌
⊖-eq a b c d h =
    cancelled (pos a) (pos b) (pos d)
    ∙ ap₂ (λ (x y : ℤ). x -ℤ y) (ap pos h) (+ℤ_comm (pos b) (pos d))
    ∙ sym (cancelled (pos c) (pos d) (pos b))

-- (x y) z = x (y z)
pub *ℤ-assoc : (x y z : ℤ) → (x *ℤ y) *ℤ z ≡ x *ℤ (y *ℤ z)
*ℤ-assoc x y z =
    let p = parts x in
    let q = parts y in
    let r = parts z in
    rw (p.2, q.2, r.2) (simp (⊖-mul) (⊖-eq _ _ _ _ (omega arith)))

pub *ℤ-left-comm : (x y z : ℤ) → x *ℤ (y *ℤ z) ≡ y *ℤ (x *ℤ z)
*ℤ-left-comm x y z = sym (*ℤ-assoc x y z) ∙ ap (λ (w : ℤ). w *ℤ z) (*ℤ_comm x y) ∙ *ℤ-assoc y x z

-- ---- size

abs_neg : (n : ℕ) → nat_abs (neg_ℤ (pos n)) ≡ n
abs_neg zero = refl
abs_neg (suc n) = refl

pub abs-negℤ : (z : ℤ) → nat_abs (neg_ℤ z) ≡ nat_abs z
abs-negℤ (pos n) = abs_neg n
abs-negℤ (negsuc n) = refl

-- |a b| = |a| |b|
pub abs_mul : (x y : ℤ) → nat_abs (x *ℤ y) ≡ nat_abs x * nat_abs y
abs_mul (pos a) (pos b) = refl
abs_mul (pos a) (negsuc b) = abs_neg (a * suc b)
abs_mul (negsuc a) (pos b) = abs_neg (suc a * b)
abs_mul (negsuc a) (negsuc b) = refl

-- |a - b|, for two naturals
pub abs-⊖ : (a b : ℕ) → nat_abs (a ⊖ b) ≡ (a - b) + (b - a)
abs-⊖ a b = go (dec_le b a)
  where
    over : (a b : ℕ) → ¬ (b ≤ a) → b + 0 ≡ b - a + a
    over a b h = omega arith

    go : Dec (b ≤ a) → nat_abs (a ⊖ b) ≡ (a - b) + (b - a)
    go (yes h) = ap nat_abs (⊖-eq a b (a - b) 0 (omega arith) ∙ sym (pos-⊖ (a - b))) ∙ (omega arith)
    go (no h) =
        ap nat_abs (sym (⊖-neg b a) ∙ ap neg_ℤ (⊖-eq b a (b - a) 0 (over a b h) ∙ sym (pos-⊖ (b - a))))
        ∙ abs_neg (b - a) ∙ (omega arith)

-- |x + y| ≤ |x| + |y|
pub abs_add : (x y : ℤ) → nat_abs (x +ℤ y) ≤ nat_abs x + nat_abs y
abs_add x y =
    let p = parts x in
    let q = parts y in
    rw (p.2, q.2, ⊖-add) (simp abs-⊖ (triangle p.0 p.1 q.0 q.1))
  where
    triangle : (a b c d : ℕ) → (a + c - (b + d)) + (b + d - (a + c)) ≤ ((a - b) + (b - a)) + ((c - d) + (d - c))
    triangle a b c d = omega arith

-- ---- the distance of two integers

-- |x - y|
unfoldable pub dist : ℤ → ℤ → ℕ
dist x y = nat_abs (x -ℤ y)

-- the distance of two differences, in natural numbers
pub dist-⊖ : (a b c d : ℕ) → dist (a ⊖ b) (c ⊖ d) ≡ (a + d - (b + c)) + (b + c - (a + d))
unfolding dist
dist-⊖ a b c d = rw (⊖-neg, ⊖-add, abs-⊖)

pub dist_self : (x : ℤ) → dist x x ≡ 0
unfolding dist
dist_self x = ap nat_abs (+ℤ_invr x)

pub dist_comm : (x y : ℤ) → dist x y ≡ dist y x
unfolding dist
dist_comm x y =
    sym (abs-negℤ (x -ℤ y))
    ∙ ap nat_abs (neg_ℤ-+ℤ x (neg_ℤ y) ∙ ap (λ (z : ℤ). neg_ℤ x +ℤ z) (neg_ℤ-neg_ℤ y) ∙ +ℤ_comm (neg_ℤ x) y)

pub dist_trans : (x y z : ℤ) → dist x z ≤ dist x y + dist y z
dist_trans x y z =
    let p = parts x in
    let q = parts y in
    let r = parts z in
    rw (p.2, q.2, r.2) (simp dist-⊖ (triangle p.0 p.1 q.0 q.1 r.0 r.1))
  where
    triangle : (a b c d e f : ℕ)
        → (a + f - (b + e)) + (b + e - (a + f)) ≤ ((a + d - (b + c)) + (b + c - (a + d))) +
        ((c + f - (d + e)) + (d + e - (c + f)))
    triangle a b c d e f = omega arith

-- |x| ≤ |y| + |x - y|
pub size_near : (x y : ℤ) → nat_abs x ≤ nat_abs y + dist x y
unfolding dist
size_near x y = subst (λ (z : ℤ). nat_abs z ≤ nat_abs y + nat_abs (x -ℤ y)) (regroup x y) (abs_add y (x -ℤ y))
  where
    regroup : (x y : ℤ) → y +ℤ (x -ℤ y) ≡ x
    regroup x y = +ℤ-left-comm y x (neg_ℤ y) ∙ ap (λ (z : ℤ). x +ℤ z) (+ℤ_invr y) ∙ +ℤ_idr x

pub dist_neg : (x y : ℤ) → dist (neg_ℤ x) (neg_ℤ y) ≡ dist x y
unfolding dist
dist_neg x y = ap nat_abs (sym (neg_ℤ-+ℤ x (neg_ℤ y))) ∙ abs-negℤ (x -ℤ y)

-- a common factor
pub dist_scale : (n : ℕ) (x y : ℤ) → dist (pos n *ℤ x) (pos n *ℤ y) ≡ n * dist x y
unfolding dist
dist_scale n x y =
    ap nat_abs (ap (λ (z : ℤ). pos n *ℤ x +ℤ z) (sym (*ℤ-neg (pos n) y)) ∙ sym (distrib (pos n) x (neg_ℤ y)))
    ∙ abs_mul (pos n) (x -ℤ y)
