-- The arcs of a set by head numbers are those of its outline.
use mathlib.Core.Path.{◌≡◌, refl, sym, ap, ◌∙◌}
use mathlib.Core.Bool.{true, cond}
use mathlib.Core.List.{List, [], ◌∷◌, ◌++◌, map, map-append, append_assoc, append-nil}
use Prim.Native.Nat.{ℕ, zero, suc, ◌+◌, ◌^◌, ◌≤◌, ◌<◌}
use native.Mathlib.Nat.{le_trans}
use native.Mathlib.Omega.{arith}
use lib.Pow.{pow_mono}
use borrow.Author.Tests.{tests}
use lib.Dec.{eqb}
use lib.Count.{ones, count_trailing_zeros}
use lib.ListN.{length, get_or, length-append, length-map}
use Rattle.masks.specs.Mask.{in_set, size, Subset}
use Rattle.masks.specs.Operations.{one_of_in, zero_of_in}
use Rattle.masks.specs.Size.{ones_size}
use Rattle.masks.specs.Subset.{subset_head}
use Rattle.lists.specs.Lists.{up_to}
use Rattle.lists.proofs.Lists.{up_to_cong}
use Rattle.geometry.specs.declared.circle.Circle.{Circle}
use Rattle.intersections.specs.declared.points.IntersectionPoint.{IntersectionPoint}
use Rattle.intersections.specs.Members.{Member, circles_of, no_circle, heads_of, circle_at, member_at, members_of}
use Rattle.intersections.proofs.Gathering.{single_heads}
use Rattle.boundary.specs.Outline.{angles_of, arcs_at, full_circle, outline_from, outline}
use Rattle.boundary.specs.Set.{numbered}
use Rattle.outline.proofs.Walking.{circles_of_members, members_many}
use Rattle.boundary.specs.declared.sort.Mark.{Mark}
use Rattle.gaps.specs.Marks.{marks_at, marks_let, angles_in}
use Rattle.gaps.specs.declared.marks.HeadMarks.{HeadMarks}
use Rattle.sums.specs.declared.pass.Pass.{Pass}
use Rattle.sums.specs.Walk.{rank, marks_of, head_in, part_in, heads_in, arcs_by, outline_arcs}
use Rattle.gaps.specs.Marks.{Few}
use Rattle.sums.proofs.Sorting.{angles-in}
use Rattle.chords.proofs.Heads.{heads_with, heads_without}
use Rattle.sums.proofs.Gaps.{head_numbered, numbered_whole}
use Rattle.sums.proofs.Held.{marks_held, let_angles}
use Rattle.sums.proofs.Walking.{set_below}

-- the marks of each head
abbrev pub marks_for : List Circle → List IntersectionPoint → ℕ → List Mark
marks_for circles points j = marks_at (circle_at circles j) j points

outline_append : (cs : List Circle) (k : ℕ) (a b : List Member)
    → outline_from cs k (a ++ b) ≡ outline_from cs k a ++ outline_from cs (k + length a) b
unfolding outline_from
outline_append cs k [] b = ap (λ n. outline_from cs n b) (omega arith)
outline_append cs k (m ∷ a) b =
    ap (λ t. arcs_at cs k m.circle (angles_of m) ++ t)
    (outline_append cs (suc k) a b ∙ ap (λ n. outline_from cs (suc k) a ++ outline_from cs n b) (omega arith))
    ∙ sym (append_assoc (arcs_at cs k m.circle (angles_of m)) (outline_from cs (suc k) a)
    (outline_from cs (k + suc (length a)) b))

outline_single : (cs : List Circle) (k : ℕ) (m : Member)
    → outline_from cs k (m ∷ []) ≡ arcs_at cs k m.circle (angles_of m)
unfolding outline_from
outline_single cs k m = append-nil (arcs_at cs k m.circle (angles_of m))

-- the outline of one member, and of any other number
outline_one : (ms : List Member) → length ms ≡ 1 → outline ms ≡ full_circle 0 (get_or (circles_of ms) 0 no_circle) ∷ []
unfolding outline
outline_one [] h = absurd (omega arith)
outline_one (m ∷ []) h = refl
outline_one (m ∷ (m' ∷ ms)) h = absurd (omega arith)

outline_other : (ms : List Member) → (length ms ≡ 1 → ⊥) → outline ms ≡ outline_from (circles_of ms) 0 ms
unfolding outline outline_from
outline_other [] h = refl
outline_other (m ∷ []) h = absurd (h refl)
outline_other (m ∷ (m' ∷ ms)) h = refl

module _ (circles : List Circle) (points : List IntersectionPoint) (S : ℕ) (few : Few circles points) where
  heads : List ℕ
  heads = heads_of (length circles) S

  theirs : List Circle
  theirs = map (circle_at circles) (heads_of (length circles) S)

  members_to : ℕ → List Member
  members_to n = map (member_at circles points S) (heads_of n S)

  member_angles : (j : ℕ) → j < length circles
      → angles_of (member_at circles points S j) ≡ angles_in S (marks_for circles points j)
  unfolding angles_of member_at
  member_angles j h = sym (angles-in (circle_at circles j) S j points (few j h))

  member_circle : (j : ℕ) → (member_at circles points S j).circle ≡ circle_at circles j
  unfolding member_at
  member_circle j = refl

  outline_next : (n : ℕ) → in_set S n ≡ true
      → outline_from theirs 0 (members_to (suc n))
      ≡ outline_from theirs 0 (members_to n) ++ arcs_at theirs (rank S n) (circle_at circles n)
      (angles_of (member_at circles points S n))
  unfolding members_to
  outline_next n e =
      ap (λ t. outline_from theirs 0 (map (member_at circles points S) t)) (heads_with S n e)
      ∙ ap (outline_from theirs 0) (map-append (member_at circles points S) (heads_of n S) (n ∷ []))
      ∙ outline_append theirs 0 (map (member_at circles points S) (heads_of n S)) (member_at circles points S n ∷ [])
      ∙ ap (λ t. outline_from theirs 0 (map (member_at circles points S) (heads_of n S)) ++ t)
      (ap (λ m. outline_from theirs m (member_at circles points S n ∷ []))
      (omega (arith, length-map (heads_of n S) (member_at circles points S)))
      ∙ outline_single theirs (rank S n) (member_at circles points S n)
      ∙ ap (λ c. arcs_at theirs (rank S n) c (angles_of (member_at circles points S n))) (member_circle n))

  none_listed : map (numbered heads) (outline_from theirs 0 (members_to 0)) ≡ []
  unfolding members_to heads_of up_to outline_from
  none_listed = refl

  next_listed : (n : ℕ) → n < length circles → in_set S n ≡ true
      → map (numbered heads)
      (arcs_at theirs (rank S n) (circle_at circles n) (angles_of (member_at circles points S n)))
      ≡ head_in circles S n (angles_in S (marks_for circles points n))
  unfolding heads theirs
  next_listed n h e =
      ap (λ phis. map (numbered (heads_of (length circles) S))
      (arcs_at (map (circle_at circles) (heads_of (length circles) S)) (rank S n) (circle_at circles n) phis))
      (member_angles n h)
      ∙ head_numbered circles S n e h (angles_in S (marks_for circles points n))

  heads_listed : (n : ℕ) → n ≤ length circles
      → map (numbered heads) (outline_from theirs 0 (members_to n))
      ≡ up_to (part_in circles (marks_for circles points) S) n
  unfolding part_in members_to up_to
  heads_listed zero h = none_listed
  heads_listed (suc n) h =
      grind (
        arith,
        heads_listed n,
        outline_next n,
        next_listed n h,
        heads_without S n,
        append-nil,
        map-append (numbered heads) (outline_from theirs 0 (members_to n))
            (arcs_at theirs (rank S n) (circle_at circles n) (angles_of (member_at circles points S n))),
      )

heads_size : (n S : ℕ) → length (heads_of n S) ≡ size n S
unfolding heads_of up_to size
heads_size zero S = refl
heads_size (suc n) S =
    grind (
      arith,
      heads_size n S,
      length-append (heads_of n S) (n ∷ []),
      append-nil (heads_of n S),
      one_of_in S n,
      zero_of_in S n,
    )

-- the head of a single is the one that it has
pub single_head : (n S : ℕ) → n ≤ 64 → S < 2 ^ n → ones S ≡ 1 → heads_of n S ≡ count_trailing_zeros 64 S ∷ []
single_head n S most below e =
    let wide = le_trans below (pow_mono {i = n} {j = 64} most) in
    grind (arith, single_heads n S wide e, heads_size n S, ones_size n S below, e)

module _ (circles : List Circle) (points : List IntersectionPoint) (S : ℕ) (below : S < 2 ^ length circles) where
  many : length (members_of circles points S) ≡ ones S
  many = members_many circles points S ∙ heads_size (length circles) S ∙ sym (ones_size (length circles) S below)

  others_listed : Few circles points → (ones S ≡ 1 → ⊥)
      → heads_in circles (marks_for circles points) S (length circles)
      ≡ map (numbered (heads_of (length circles) S)) (outline (members_of circles points S))
  unfolding heads_in members_of heads theirs members_to
  others_listed few h =
      rw (outline_other (members_of circles points S) (λ e. h (sym many ∙ e)), circles_of_members circles points S)
      (sym (heads_listed circles points S few (length circles) (omega arith)))

  single_listed : length circles ≤ 64 → ones S ≡ 1
      → full_circle (count_trailing_zeros 64 S) (circle_at circles (count_trailing_zeros 64 S)) ∷ []
      ≡ map (numbered (heads_of (length circles) S)) (outline (members_of circles points S))
  single_listed most e =
      rw (
        outline_one (members_of circles points S) (many ∙ e),
        circles_of_members circles points S,
        single_head (length circles) S most below e,
      )
      (ap (λ a. a ∷ []) (sym
      (numbered_whole (count_trailing_zeros 64 S ∷ []) 0 (circle_at circles (count_trailing_zeros 64 S)))))

  -- the arcs of S by the marks of its heads are those of its outline, under head numbers. The empty set has none in
  -- either form.
  pub arcs_are : Few circles points → length circles ≤ 64
      → arcs_by circles (marks_for circles points) S
      ≡ map (numbered (heads_of (length circles) S)) (outline (members_of circles points S))
  unfolding arcs_by
  arcs_are few most = grind (arith, tests, single_listed most, others_listed few)

-- only the angles of the heads of S are looked at
part_same : (circles : List Circle) (f g : ℕ → List Mark) (S j : ℕ)
    → (in_set S j ≡ true → angles_in S (f j) ≡ angles_in S (g j))
    → part_in circles f S j ≡ part_in circles g S j
unfolding part_in
part_same circles f g S j h = grind (arith, h)

pub arcs_same : (circles : List Circle) (f g : ℕ → List Mark) (S : ℕ)
    → ((j : ℕ) → j < length circles → in_set S j ≡ true → angles_in S (f j) ≡ angles_in S (g j))
    → arcs_by circles f S ≡ arcs_by circles g S
unfolding arcs_by heads_in
arcs_same circles f g S h =
    ap (cond (eqb (ones S) 1)
    (full_circle (count_trailing_zeros 64 S) (circle_at circles (count_trailing_zeros 64 S)) ∷ []))
    (up_to_cong (part_in circles f S) (part_in circles g S) (length circles) (λ j k. part_same circles f g S j (h j k)))

-- the arcs that the walk lists are those of the outline: of any heads whose marks, of those of `needed`, are those of the
-- meeting points
pub marked_arcs : (circles : List Circle) (points : List IntersectionPoint) (needed S : ℕ) (heads : List HeadMarks)
    → ((j : ℕ) → j < length circles → in_set needed j ≡ true
    → marks_of heads j ≡ marks_let circles j (marks_at (circle_at circles j) j points))
    → Subset S needed → S < 2 ^ length circles → Few circles points → length circles ≤ 64
    → arcs_by circles (marks_of heads) S ≡ outline_arcs circles points S
marked_arcs circles points needed S heads held within below few most =
    arcs_same circles (marks_of heads) (marks_for circles points) S
    (λ j h i. ap (angles_in S) (held j h (subset_head S needed within j i))
    ∙ let_angles circles S j (marks_for circles points j))
    ∙ arcs_are circles points S below few most

-- of the heads of a pass
pub pass_arcs : (pass : Pass) (S : ℕ) → Subset S pass.needed
    → arcs_by pass.circles.now (marks_of pass.heads.now.items) S
    ≡ outline_arcs pass.circles.now pass.points.now S
pass_arcs pass S within =
    marked_arcs pass.circles.now pass.points.now pass.needed S pass.heads.now.items (marks_held pass) within
    (set_below pass S within) pass.few (omega (arith, pass.ten))
