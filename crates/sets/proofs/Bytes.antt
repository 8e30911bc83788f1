-- What each presence byte says (specs/Bytes.antt).
use mathlib.Core.Path.{◌≡◌, refl, ◌∙◌}
use mathlib.Core.Bool.{Bool, true, false}
use mathlib.Core.List.{List, [], ◌∷◌, map}
use Prim.Native.Nat.{ℕ, zero, suc, ◌+◌, ◌-◌, ◌^◌, ◌<◌}
use native.Mathlib.Omega.{arith}
use Rattle.std.proofs.lemmas.Bool.Decides.{nat_tests}
use lib.Dec.{eqb}
use lib.ListN.{get_or, length, replicate}
use Rattle.masks.specs.Mask.{in_set, gather, single}
use Rattle.masks.specs.Presence.{byte}
use Rattle.masks.specs.Operations.{in_of_zero, bit_of_zero}
use Rattle.masks.specs.Gather.{in_gather}
use Rattle.masks.specs.Size.{ones_of_zero}
use Rattle.lists.specs.Some.{any}
use Rattle.lists.proofs.Somes.{some_none, any_up_to}
use Rattle.lists.proofs.Writing.{written_before, written_past}
use Rattle.geometry.specs.Circle.{intersection_points}
use Rattle.geometry.specs.declared.point.Point.{Point}
use Rattle.geometry.specs.declared.circle.Circle.{Circle}
use Rattle.intersections.specs.Members.{circle_at}
use Rattle.intersections.specs.Points.{adopts, with_adopters, pair_points, later_points, collected, adopts_by}
use Rattle.intersections.specs.Points.{collected_by, later_points_by, pair_points_by, with_adopters_by}
use Rattle.sets.specs.Sets.{pair, is_pair, witnessed, is_part, with_parts, overlapping, containing, is_set}
use Rattle.sets.specs.Regions.{is_one_head, closed_at, is_adopters_of, in_regions}
use Rattle.sets.proofs.LevelStep.{is_few}
use Rattle.sets.specs.Bytes.{ByteSays, EmptyIsNoSet}

-- a list of zeros reads 0 everywhere
zeros_at : (m S : ℕ) → ◌≡◌ {A = ℕ} (get_or (replicate m 0) S 0) 0
zeros_at zero S = refl
zeros_at (suc m) zero = refl
zeros_at (suc m) (suc S) = zeros_at m S

pub byte_says : ByteSays
byte_says circles points S =
    let there : ℕ → ℕ = λ T. byte (in_regions circles points T) in
    let n = length circles in
    grind (
      arith,
      nat_tests,
      written_before there (2 ^ n) S (replicate 1024 0) 0,
      written_past there (2 ^ n) S (replicate 1024 0) 0,
      zeros_at 1024 S,
    )

-- ---- the empty mask

-- a mask with a head is not empty
not_empty : (S i : ℕ) → in_set S i ≡ true → eqb 0 S ≡ false
not_empty S i h = grind (arith, nat_tests, in_of_zero 0 i (bit_of_zero i))

one_head_not : (n : ℕ) (closed : ℕ → Bool) → is_one_head n closed 0 ≡ false
unfolding is_one_head
one_head_not n closed =
    some_none n _ (λ i k. grind (arith, nat_tests, in_gather, not_empty (single n i) i))

pair_not : (n : ℕ) (meets contains : ℕ → ℕ → Bool) → is_pair n meets contains 0 ≡ false
unfolding is_pair
pair_not n meets contains =
    some_none n _ (λ i k. some_none i _ (λ j l. grind (arith, nat_tests, in_gather, not_empty (pair n i j) j)))

pub empty_not : (n : ℕ) (is_single is_adopters : ℕ → Bool) (meets contains : ℕ → ℕ → Bool) → is_single 0 ≡ false
    → is_adopters 0 ≡ false → is_set n is_single is_adopters meets contains 0 ≡ false
unfolding is_set witnessed is_part
empty_not n is_single is_adopters meets contains single_not adopters_not =
    let found = with_parts n (witnessed n is_single is_adopters meets contains) in
    grind (
      arith,
      nat_tests,
      ones_of_zero,
      pair_not n meets contains,
      is_few n found (overlapping n found) (containing n contains) 0,
    )

-- ---- the meeting points of circles are adopted by their first parent

module _ (cs : List Circle) where
  parent_adopts : (i j : ℕ) (p : Point) → adopts cs i j p i ≡ true
  unfolding adopts_by
  parent_adopts i j p = grind (arith, nat_tests)

  adopters_of : (i j : ℕ) → i < length cs → (l : List Point) → is_adopters_of (map (with_adopters cs i j) l) 0 ≡ false
  unfolding any with_adopters_by
  adopters_of i j h [] = refl
  adopters_of i j h (p ∷ l) =
      let adopters = gather (length cs) (adopts cs i j p) in
      grind (arith, adopters_of i j h l, not_empty adopters i, in_gather, parent_adopts i j p)

  collected_adopted : is_adopters_of (collected cs) 0 ≡ false
  unfolding collected_by later_points_by pair_points_by
  collected_adopted =
      any_up_to _ (later_points cs) (length cs)
      ∙ some_none (length cs) _ (λ i h. any_up_to _ (λ d. pair_points cs i (i + 1 + d)) (length cs - (i + 1))
      ∙ some_none _ _ (λ d k. let j = i + 1 + d in
      adopters_of i j h (intersection_points (circle_at cs i) (circle_at cs j))))

pub empty_is_no_set : EmptyIsNoSet
empty_is_no_set cs = empty_not (length cs) _ _ _ _ (one_head_not (length cs) (closed_at cs)) (collected_adopted cs)
