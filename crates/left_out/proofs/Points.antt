-- All circles have the meeting points of those kept: a closed circle has none, and adopts none.
use mathlib.Core.Path.{◌≡◌, refl, sym, ap, ap₂, ◌∙◌}
use mathlib.Core.Bool.{Bool, false, ◌||◌, or-true, true≢false}
use mathlib.Core.List.{List, [], ◌∷◌, map, map-append}
use Prim.Native.Nat.{ℕ, zero, suc, ◌+◌, ◌-◌, ◌<◌}
use native.Mathlib.Omega.{arith}
use borrow.Author.Tests.{ne_eqb}
use lib.Dec.{eqb}
use lib.ListN.{length, drop}
use Rattle.lists.specs.Lists.{up_to}
use Rattle.lists.proofs.Lists.{up_to_cong, up_to_through}
use Rattle.masks.specs.Mask.{gather}
use Rattle.geometry.specs.Circle.{is_closed, intersection_points}
use Rattle.geometry.specs.declared.point.Point.{Point}
use Rattle.geometry.specs.declared.circle.Circle.{Circle}
use Rattle.intersections.specs.Members.{circle_at, no_circle}
use Rattle.intersections.specs.Points.{adopts_point, adopts, with_adopters, pair_points, later_points, collected}
use Rattle.intersections.specs.Points.{adopts_by, with_adopters_by, pair_points_by, later_points_by, collected_by}
use Rattle.masks.specs.Gather.{gather_same}
use Rattle.lists.specs.Kept.{kept, remaining, place, kept_below}
use Rattle.masks.specs.Spread.{spread}
use Rattle.left_out.specs.Circles.{OnlyClosedCircles, renumbered, PointsLeftOut}
use Rattle.lists.proofs.Kept.{remaining_at, remaining_length, place_kept, number_of_place, kept_next_in, kept_from}
use Rattle.lists.proofs.Kept.{place_from, number_from, place_lt, up_to_kept}
use Rattle.masks.proofs.Spread.{place_eqb, gather_kept}

pub mapped_alike : {A B C : Type 0} (f : B → C) (h : A → B) (g : A → C) → ((x : A) → f (h x) ≡ g x) → (l : List A)
    → map f (map h l) ≡ map g l
mapped_alike f h g e [] = refl
mapped_alike f h g e (x ∷ l) = ap₂ ◌∷◌ (e x) (mapped_alike f h g e l)

pub up_to_nothing : {A : Type 0} (f : ℕ → List A) (m : ℕ) → ((i : ℕ) → f i ≡ []) → up_to f m ≡ []
unfolding up_to
up_to_nothing f zero e = refl
up_to_nothing f (suc m) e = rw (up_to_nothing f m e, e m)

-- a place left out is not the place of one kept
pub not_place : (keeps : List Bool) (i j : ℕ) → kept keeps i ≡ false → eqb i (place keeps j) ≡ false
not_place keeps i j e =
    ne_eqb i (place keeps j) (λ q. true≢false (sym (place_kept keeps j) ∙ sym (ap (kept keeps) q) ∙ e))

module _ (cs : List Circle) (keeps : List Bool) (closed : OnlyClosedCircles keeps cs) where
  abbrev pub rest : List Circle
  rest = remaining keeps cs

  pub many : length rest ≡ kept_below keeps (length cs)
  many = remaining_length keeps cs

  pub same : (j : ℕ) → circle_at cs (place keeps j) ≡ circle_at rest j
  same j = sym (remaining_at keeps cs j no_circle)

  adopts_place : (a b l : ℕ) (p : Point)
      → adopts cs (place keeps a) (place keeps b) p (place keeps l) ≡ adopts rest a b p l
  unfolding adopts_by
  adopts_place a b l p =
      ap₂ (λ (x y : Bool). x ||
      (y || adopts_point (circle_at cs (place keeps a)) (circle_at cs (place keeps b))
      (circle_at cs (place keeps l)) p))
      (place_eqb keeps l a) (place_eqb keeps l b)
      ∙ ap₂ (λ (x y : Circle). eqb l a || (eqb l b || adopts_point x y (circle_at cs (place keeps l)) p)) (same a)
      (same b)
      ∙ ap (λ (x : Circle). eqb l a || (eqb l b || adopts_point (circle_at rest a) (circle_at rest b) x p)) (same l)

  adopts_out : (a b i : ℕ) (p : Point) → kept keeps i ≡ false → adopts cs (place keeps a) (place keeps b) p i ≡ false
  unfolding adopts_by adopts_point
  adopts_out a b i p e = rw (not_place keeps i a e, not_place keeps i b e, closed i e)

  with_place : (a b : ℕ) (p : Point)
      → with_adopters cs (place keeps a) (place keeps b) p ≡ renumbered keeps (with_adopters rest a b p)
  unfolding with_adopters_by
  with_place a b p =
      ap (λ (A : ℕ). record { point = p; first = place keeps a; second = place keeps b; adopters = A })
      (gather_kept keeps (length cs) (adopts cs (place keeps a) (place keeps b) p) (λ i h e. adopts_out a b i p e)
      ∙ ap (spread keeps)
      (ap (λ (m : ℕ). gather m (λ l. adopts cs (place keeps a) (place keeps b) p (place keeps l))) (sym many)
      ∙ gather_same (length rest) _ (adopts rest a b p) (λ l h. adopts_place a b l p)))

  pairs_place : (a b : ℕ)
      → pair_points cs (place keeps a) (place keeps b) ≡ map (renumbered keeps) (pair_points rest a b)
  unfolding pair_points_by
  pairs_place a b =
      ap₂ (λ (x y : Circle). map (with_adopters cs (place keeps a) (place keeps b)) (intersection_points x y))
      (same a) (same b)
      ∙ sym (mapped_alike (renumbered keeps) (with_adopters rest a b)
      (with_adopters cs (place keeps a) (place keeps b)) (λ p. sym (with_place a b p))
      (intersection_points (circle_at rest a) (circle_at rest b)))

  -- a place left out has no points
  first_out : (i j : ℕ) → kept keeps i ≡ false → pair_points cs i j ≡ []
  unfolding pair_points_by
  first_out i j e = rw (closed i e)

  second_out : (i j : ℕ) → kept keeps j ≡ false → pair_points cs i j ≡ []
  unfolding pair_points_by
  second_out i j e = rw (closed j e, or-true (is_closed (circle_at cs i)))

  later_out : (i : ℕ) → kept keeps i ≡ false → later_points cs i ≡ []
  unfolding later_points_by
  later_out i e =
      up_to_nothing (λ d. pair_points cs i (i + 1 + d)) (length cs - (i + 1)) (λ d. first_out i (i + 1 + d) e)

  later_place : (a : ℕ) → a < length rest
      → later_points cs (place keeps a) ≡ map (renumbered keeps) (later_points rest a)
  unfolding later_points_by
  later_place a h =
      up_to_kept after (length cs - (i + 1)) (λ d. pair_points cs i (i + 1 + d))
      (λ d l e. second_out i (i + 1 + d) (sym (kept_from keeps (i + 1) d) ∙ e))
      ∙ ap (up_to (λ d. pair_points cs i (i + 1 + place after d))) count
      ∙ up_to_cong _ _ (length rest - (a + 1)) (λ d l. ap (pair_points cs i) (next d) ∙ pairs_place a (a + 1 + d))
      ∙ sym (up_to_through (map (renumbered keeps)) refl (map-append (renumbered keeps))
      (λ d. pair_points rest a (a + 1 + d)) (length rest - (a + 1)))
    where
      i : ℕ
      i = place keeps a

      after : List Bool
      after = drop (i + 1) keeps

      number : kept_below keeps (i + 1) ≡ a + 1
      number =
          let s : i + 1 ≡ suc i = omega arith in
          ap (kept_below keeps) s ∙ kept_next_in keeps i (place_kept keeps a) ∙ omega (arith, number_of_place keeps a)

      next : (d : ℕ) → i + 1 + place after d ≡ place keeps (a + 1 + d)
      next d = sym (place_from keeps (i + 1) d) ∙ ap (λ (m : ℕ). place keeps (m + d)) number

      count : kept_below after (length cs - (i + 1)) ≡ length rest - (a + 1)
      count =
          let low : i < length cs = place_lt keeps a (length cs) (omega (arith, h, many)) in
          let s : i + 1 + (length cs - (i + 1)) ≡ length cs = omega arith in
          omega (arith, number_from keeps (i + 1) (length cs - (i + 1)), ap (kept_below keeps) s, number, many)

  points_kept : collected cs ≡ map (renumbered keeps) (collected rest)
  unfolding collected_by
  points_kept =
      up_to_kept keeps (length cs) (later_points cs) (λ i h e. later_out i e)
      ∙ ap (up_to (λ j. later_points cs (place keeps j))) (sym many)
      ∙ up_to_cong _ _ (length rest) later_place
      ∙ sym (up_to_through (map (renumbered keeps)) refl (map-append (renumbered keeps)) (later_points rest)
      (length rest))

pub points_left_out : PointsLeftOut
points_left_out cs keeps closed = points_kept cs keeps closed
