-- A set of the circles kept has the same members among all.
use mathlib.Core.Path.{◌≡◌, refl, sym, ap, ap₂, ◌∙◌, subst}
use mathlib.Core.Bool.{Bool, true, false, cond, ◌&&◌, ◌||◌}
use mathlib.Core.List.{List, [], ◌∷◌, map, map-append}
use Prim.Native.Nat.{ℕ, ◌^◌, ◌≤◌, ◌<◌}
use native.Mathlib.Omega.{arith}
use lib.ListN.{length, take}
use Rattle.lists.specs.Lists.{keep}
use Rattle.lists.proofs.Lists.{up_to_cong, up_to_through}
use Rattle.masks.specs.Mask.{in_set}
use Rattle.intersections.specs.declared.points.IntersectionPoint.{IntersectionPoint}
use Rattle.intersections.specs.Members.{Member, heads_of, has_parent, counted_for, points_for, points_held}
use Rattle.intersections.specs.Members.{member_at, members_of}
use Rattle.intersections.specs.Points.{collected}
use Rattle.lists.specs.Kept.{remaining, place, kept_below}
use Rattle.masks.specs.Spread.{spread}
use Rattle.left_out.specs.Circles.{renumbered, MembersLeftOut}
use Rattle.lists.proofs.Kept.{kept_few, kept_mono, up_to_kept}
use Rattle.masks.proofs.Spread.{in_place, in_left_out, place_eqb, subset_kept, subset_wider}
use Rattle.left_out.proofs.Points.{mapped_alike, many, same, points_left_out}

-- the heads of a spread mask stand at the places of those of the mask
pub heads_spread : (keeps : List Bool) (n T : ℕ)
    → heads_of n (spread keeps T) ≡ map (place keeps) (heads_of (kept_below keeps n) T)
unfolding heads_of
heads_spread keeps n T =
    up_to_kept keeps n (λ j. cond (in_set (spread keeps T) j) (j ∷ []) [])
    (λ i h e. ap (λ (b : Bool). cond b (i ∷ []) []) (in_left_out keeps T i e))
    ∙ up_to_cong _ _ (kept_below keeps n)
    (λ j l. ap (λ (b : Bool). cond b (place keeps j ∷ []) []) (in_place keeps T j) ∙ one (in_set T j) j)
    ∙ sym (up_to_through (map (place keeps)) refl (map-append (place keeps)) (λ j. cond (in_set T j) (j ∷ []) [])
    (kept_below keeps n))
  where
    one : (b : Bool) (j : ℕ) → cond b (place keeps j ∷ []) [] ≡ map (place keeps) (cond b (j ∷ []) [])
    one true j = refl
    one false j = refl

-- a test after f and another before it that say the same keep the same elements, as seen through g
kept_of_mapped : {A B : Type 0} (f : A → A) (p q : A → Bool) (g : A → B) → ((x : A) → p (f x) ≡ q x)
    → ((x : A) → g (f x) ≡ g x)
    → (l : List A) → map g (keep p (map f l)) ≡ map g (keep q l)
unfolding keep
kept_of_mapped f p q g e s [] = refl
kept_of_mapped f p q g e s (x ∷ l) = rw (e x) (by (q x) (kept_of_mapped f p q g e s l))
  where
    by : (b : Bool) → map g (keep p (map f l)) ≡ map g (keep q l)
        → map g (cond b (f x ∷ keep p (map f l)) (keep p (map f l))) ≡ map g (cond b (x ∷ keep q l) (keep q l))
    by true r = ap₂ ◌∷◌ (s x) r
    by false r = r

module _ (keeps : List Bool) (n T : ℕ) (low : n ≤ 64) (few : T < 2 ^ kept_below keeps n) where
  counted_spread : (j : ℕ) (q : IntersectionPoint)
      → counted_for (spread keeps T) (place keeps j) (renumbered keeps q) ≡ counted_for T j q
  unfolding counted_for has_parent
  counted_spread j q =
      ap₂ ◌&&◌ (ap₂ ◌||◌ (place_eqb keeps q.first j) (place_eqb keeps q.second j))
      (subset_kept keeps 64 T q.adopters
      ∙ subset_wider (kept_below keeps n) (kept_below keeps 64) T q.adopters few (kept_mono keeps n 64 low)
      ∙ sym (subset_wider (kept_below keeps n) 64 T q.adopters few (omega (arith, kept_few keeps n))))

  points_spread : (l : List IntersectionPoint) (j : ℕ)
      → points_for (map (renumbered keeps) l) (spread keeps T) (place keeps j) ≡ points_for l T j
  unfolding points_for
  points_spread l j =
      ap (take points_held)
      (kept_of_mapped (renumbered keeps) (counted_for (spread keeps T) (place keeps j)) (counted_for T j) (λ q. q.point)
      (counted_spread j) (λ q. refl) l)

pub members_left_out : MembersLeftOut
unfolding members_of member_at
members_left_out cs keeps closed few T h =
    let rest = remaining keeps cs in
    let n = length cs in
    let S = spread keeps T in
    ap (map (member_at cs (collected cs) S)) (heads_spread keeps n T)
    ∙ mapped_alike (member_at cs (collected cs) S) (place keeps) (member_at rest (collected rest) T)
    (λ j. ap₂ {C = Member} (λ x y. record { circle = x; points = y }) (same cs keeps closed j)
    (ap (λ ps. points_for ps S (place keeps j)) (points_left_out cs keeps closed)
    ∙ points_spread keeps n T few (subst (λ (m : ℕ). T < 2 ^ m) (many cs keeps closed) h) (collected rest) j))
    (heads_of (kept_below keeps n) T)
    ∙ ap (λ (m : ℕ). map (member_at rest (collected rest) T) (heads_of m T)) (sym (many cs keeps closed))
