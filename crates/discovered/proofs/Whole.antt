-- The sets of a plan within the limits by whole numbers (specs/Whole.antt).
use mathlib.Core.Path.{◌≡◌, refl, sym, ap, ap₂, ◌∙◌, subst}
use mathlib.Core.Bool.{Bool, true, false, not, ◌&&◌}
use mathlib.Core.List.{List, [], ◌∷◌}
use Prim.Native.Nat.{ℕ, ◌<◌}
use native.Mathlib.Omega.{arith}
use lib.Dec.{T, eqb}
use lib.ListN.{length}
use Rattle.heads.specs.declared.Head.{Head}
use Rattle.heads.specs.Limits.{in_limits}
use Rattle.heads.specs.Distance.{meets_of_comm}
use Rattle.heads.specs.Pair.{is_closed, meets_of, contains_of}
use Rattle.plan.specs.declared.Plan.{Plan}
use Rattle.plan.specs.Limits.{Acceptable}
use Rattle.plan.proofs.Exactly.{within_limits}
use Rattle.geometry.specs.Circle as circle
use Rattle.geometry.specs.Circle.{contains, intersection_points}
use Rattle.geometry.specs.declared.point.Point.{Point}
use Rattle.geometry.specs.declared.circle.Circle.{Circle}
use Rattle.exact.specs.Circle.{circle_of}
use Rattle.exact.proofs.Theorem.{is-drawn, decides_exactly}
use Rattle.drawn.specs.Drawn.{plan_circles}
use Rattle.drawn.proofs.Circles.{circles_many, circle-at}
use Rattle.regions.specs.Table.{head_at}
use Rattle.intersections.specs.Members.{circle_at, no_circle}
use Rattle.intersections.specs.Points.{collected}
use Rattle.lists.proofs.Somes.{some_cong}
use Rattle.masks.specs.Mask.{single}
use Rattle.sets.specs.Regions.{is_one_head, closed_at, is_adopters_of, meets_at, contains_at, in_regions}
use Rattle.sets.specs.Sets.{is_set}
use Rattle.sets.proofs.Alike.{sets_alike}
use Rattle.areas.specs.Sets.{plan_sets}
use Rattle.discovered.specs.Whole.{SetsByWholeNumbers}
use Rattle.discovered.proofs.Parents.{nonempty, met_points}

-- ---- circles of heads within the limits

module _ (cs : List Circle) (h : ℕ → Head) (drawn : (i : ℕ) → i < length cs → circle_at cs i ≡ circle_of (h i))
    (limits : (i : ℕ) → i < length cs → T (in_limits (h i))) where
  some_point : (l : List Point) (t : Bool) → (l ≡ [] → t ≡ false) → (t ≡ false → l ≡ []) → nonempty l ≡ t
  some_point [] t f g = sym (f refl)
  some_point (x ∷ l) true f g = refl
  some_point (x ∷ l) false f g = ap nonempty (g refl)

  meets_is : (i j : ℕ) → j < i → i < length cs → meets_at (collected cs) i j ≡ meets_of (h i) (h j)
  meets_is i j k l =
      let d = (decides_exactly (h j) (h i) (limits j (omega arith)) (limits i l)).none in
      met_points cs i j k l
      ∙ ap₂ (λ (a b : Circle). nonempty (intersection_points a b)) (drawn j (omega arith)) (drawn i l)
      ∙ some_point (intersection_points (circle_of (h j)) (circle_of (h i))) (meets_of (h j) (h i)) d.0 d.1 ∙ meets_of_comm (h j) (h i)

  contains_is : (i j : ℕ) → i < length cs → j < length cs → contains_at cs i j ≡ contains_of (h i) (h j)
  contains_is i j k l = ap₂ contains (drawn i k) (drawn j l) ∙ (decides_exactly (h i) (h j) (limits i k) (limits j l)).contained

  closed_same : (i : ℕ) → i < length cs → closed_at cs i ≡ is_closed (h i)
  closed_same i k = ap circle.is_closed (drawn i k) ∙ (is-drawn (h i) (limits i k)).closed

-- ---- the singles look at heads below n only

one_head_same : (n : ℕ) (closed closed' : ℕ → Bool) → ((i : ℕ) → i < n → closed i ≡ closed' i) → (S : ℕ)
    → is_one_head n closed S ≡ is_one_head n closed' S
unfolding is_one_head
one_head_same n closed closed' same S =
    some_cong n (λ i. eqb S (single n i) && not (closed i)) (λ i. eqb S (single n i) && not (closed' i))
    (λ i k. ap (λ (b : Bool). eqb S (single n i) && not b) (same i k))

-- ---- a plan

module _ (p : Plan) (ten : length p.heads ≡ 10) (ok : Acceptable p) where
  abbrev cs : List Circle
  cs = plan_circles p

  many : length cs ≡ p.n
  many = circles_many p ten ok.count

  below : {i : ℕ} → i < length cs → i < p.n
  below {i} l = subst (λ (m : ℕ). i < m) many l

  whole_in : (S : ℕ) → in_regions cs (collected cs) S
      ≡ is_set (length cs) (is_one_head (length cs) (λ i. is_closed (head_at p i))) (is_adopters_of (collected cs))
      (λ i j. meets_of (head_at p i) (head_at p j)) (λ i j. contains_of (head_at p i) (head_at p j)) S
  whole_in S =
      let drawn : (i : ℕ) → i < length cs → circle_at cs i ≡ circle_of (head_at p i) = λ i l. circle-at p ten ok.count i no_circle (below l) in
      let limits : (i : ℕ) → i < length cs → T (in_limits (head_at p i)) = λ i l. within_limits (head_at p i) (ok.heads i (below l)) in
      let closed : ℕ → Bool = λ i. is_closed (head_at p i) in
      sets_alike (length cs) (is_one_head (length cs) (closed_at cs)) (is_one_head (length cs) closed)
      (is_adopters_of (collected cs)) (is_adopters_of (collected cs)) (meets_at (collected cs))
      (λ i j. meets_of (head_at p i) (head_at p j)) (contains_at cs) (λ i j. contains_of (head_at p i) (head_at p j))
      (one_head_same (length cs) (closed_at cs) closed (closed_same cs (head_at p) drawn limits)) (λ T. refl)
      (meets_is cs (head_at p) drawn limits) (contains_is cs (head_at p) drawn limits) S

pub sets_by_whole_numbers : SetsByWholeNumbers
unfolding plan_sets
sets_by_whole_numbers p ten ok S =
    whole_in p ten ok S
    ∙ ap (λ (m : ℕ). is_set m (is_one_head m (λ i. is_closed (head_at p i)))
    (is_adopters_of (collected (plan_circles p))) (λ i j. meets_of (head_at p i) (head_at p j))
    (λ i j. contains_of (head_at p i) (head_at p j)) S) (many p ten ok)
