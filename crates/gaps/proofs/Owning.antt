-- A test of every number below another; and whether every head of a set lets a head have a point, as the code asks all.
use mathlib.Core.Path.{◌≡◌, sym, ap, ◌∙◌}
use mathlib.Core.Bool.{Bool, not, ◌&&◌, ◌||◌, and_assoc}
use mathlib.Core.List.{List, map}
use mathlib.Core.Logic.{◌⊎◌, inl, inr, ⊎_elim}
use Prim.Native.Nat.{ℕ, zero, suc, ◌+◌, ◌<◌}
use native.Mathlib.Nat.{eq-or-lt_of_le, le_of_suc-le-suc, add-zero, zero-add}
use native.Mathlib.Numerals.{add-one}
use native.Mathlib.Omega.{arith}
use lib.ListN.{length, get_or}
use Rattle.std.specs.List.{list_all, enumerate_from, range_with_len}
use Rattle.std.proofs.lemmas.List.{ext_get_or}
use Rattle.std.proofs.lemmas.List.Folds.{list_all-map}
use Rattle.std.proofs.lemmas.List.FromFn.{length-enumerate_from, get_or-enumerate_from}
use Rattle.std.proofs.lemmas.List.FromFn.{length-map-range_with_len, get_or-map-range_with_len}
use Rattle.masks.specs.Mask.{every, in_set}
use Rattle.std.proofs.Math.Bool.{and-true}
use Rattle.geometry.specs.declared.point.Point.{Point}
use Rattle.geometry.specs.declared.circle.Circle.{Circle}
use Rattle.intersections.specs.Members.{no_circle, circle_at}
use Rattle.boundary.specs.Outline.{lets}
use Rattle.gaps.specs.Gaps.{owned_in}

-- below n + 1: below n, or n
pub lt_or_eq : (i n : ℕ) → i < suc n → (i < n) ⊎ (i ≡ n)
lt_or_eq i n h = ⊎_elim (λ e. inr e) (λ k. inl k) (eq-or-lt_of_le (le_of_suc-le-suc h))

-- ---- a test of every number below another

-- of the numbers of a range
every_from : (p : ℕ → Bool) (a n : ℕ) → every (a + n) p ≡ (every a p && list_all p (range_with_len a n))
unfolding every
every_from p a zero = rw (add-zero a) (sym (and-true (every a p)))
every_from p a (suc n) =
    let on : a + suc n ≡ a + 1 + n = omega arith in
    ap (λ (m : ℕ). every m p) on ∙ every_from p (a + 1) n
    ∙ rw (ap (λ (m : ℕ). every m p) (add-one a)) (and_assoc (every a p) (p a) (list_all p (range_with_len (a + 1) n)))

pub every_range : (p : ℕ → Bool) (n : ℕ) → list_all p (range_with_len 0 n) ≡ every n p
unfolding every
every_range p n = sym (ap (λ (m : ℕ). every m p) (sym (zero-add n)) ∙ every_from p 0 n)

-- ---- the heads of a set

-- a list with its indices, by its indices
enumerated : {A : Type 0} (l : List A) (d : A)
    → enumerate_from 0 l ≡ map (λ i. (i, get_or l i d)) (range_with_len 0 (length l))
enumerated {A} l d =
    ext_get_or (0, d) (enumerate_from 0 l) (map (λ i. (i, get_or l i d)) (range_with_len 0 (length l)))
    (length-enumerate_from 0 l ∙ sym (length-map-range_with_len (λ i. (i, get_or l i d)) 0 (length l)))
    (λ i h.
    let below : i < length l = omega (arith, length-enumerate_from 0 l, h) in
    get_or-enumerate_from 0 l i (0, d) below
    ∙ ap (λ k. (k, get_or l i d)) (zero-add i)
    ∙ sym (get_or-map-range_with_len (λ i. (i, get_or l i d)) 0 (length l) i i (0, d) below (zero-add i)))

-- every head with its circle: not in the set, or it lets head j have the point
pub all_let : (circles : List Circle) (S j : ℕ) (p : Point)
    → list_all (λ q. not (in_set S q.0) || lets j p q.0 q.1) (enumerate_from 0 circles) ≡ owned_in circles S j p
unfolding owned_in
all_let circles S j p =
    ap (list_all (λ q. not (in_set S q.0) || lets j p q.0 q.1)) (enumerated circles no_circle)
    ∙ list_all-map (λ q. not (in_set S q.0) || lets j p q.0 q.1) (λ i. (i, circle_at circles i))
    (range_with_len 0 (length circles))
    ∙ every_range (λ l. not (in_set S l) || lets j p l (circle_at circles l)) (length circles)
