-- What is worked out once a head: its meeting points by angle, each with its adopters, who lets the head have the gap
-- from each to the next, and who lets it have its probe.
use Rattle.std.specs.Prelude.{ℕ, ◌+◌, ◌%◌, ◌<◌, ◌≤◌, Bool, not, List, [], map, take, length, get_or, Float}
use Rattle.std.proofs.Math.Bool.{cond}
use Rattle.std.proofs.Math.Dec.{ltb}
use Rattle.masks.specs.Mask.{in_set, every, subset, gather}
use Rattle.lists.specs.Lists.{keep}
use Rattle.lists.specs.Written.{tab}
use Rattle.geometry.specs.declared.point.Point.{Point}
use Rattle.geometry.specs.declared.circle.Circle.{Circle}
use Rattle.intersections.specs.declared.points.IntersectionPoint.{IntersectionPoint}
use Rattle.intersections.specs.Members.{circle_at, has_parent, points_held}
use Rattle.boundary.specs.declared.sort.Mark.{Mark}
use Rattle.boundary.specs.Outline.{angle_about, lets, gap, collapsed, midpoint, probe}
use Rattle.boundary.specs.Sort.{sorted_by}
use Rattle.boundary.specs.Marks.{mark, no_mark}
use Rattle.gaps.specs.declared.marks.HeadMarks.{HeadMarks}

-- ---- the marks of a head

-- a point as its angle about a circle, and its adopters
unfoldable pub mark_of : Circle → IntersectionPoint → Mark
unfolding angle_about
mark_of c q = mark (angle_about c q.point) q.adopters

-- the meeting points of head j, by angle
unfoldable pub marks_at : Circle → ℕ → List IntersectionPoint → List Mark
unfolding sorted_by mark_of has_parent keep
marks_at c j points = sorted_by (λ m. m.phi) (map (mark_of c) (take points_held (keep (has_parent j) points)))

-- every head of S adopts the point
unfoldable pub adopted_by : ℕ → Mark → Bool
adopted_by S m = subset 64 S m.adopters

-- the angles of the points counted for S
unfoldable pub angles_in : ℕ → List Mark → List Float
unfolding keep adopted_by
angles_in S l = map (λ m. m.phi) (keep (adopted_by S) l)

-- No head has more points than there are places.
abbrev pub Few : List Circle → List IntersectionPoint → Type 0
Few circles points = (j : ℕ) → j < length circles → length (keep (has_parent j) points) ≤ points_held

-- the same as a test of the heads below n
unfoldable pub few_points : ℕ → List IntersectionPoint → Bool
unfolding every keep has_parent
few_points n points = every n (λ j. not (ltb points_held (length (keep (has_parent j) points))))

-- ---- who lets a head have a point

-- the heads that let head j have the point p of its edge
unfoldable pub letters : List Circle → ℕ → Point → ℕ
unfolding gather lets
letters circles j p = gather (length circles) (λ l. lets j p l (circle_at circles l))

-- the heads that let head j have the gap from a to b: nobody, where it is collapsed
unfoldable pub gap_letters : List Circle → ℕ → Float → Float → ℕ
unfolding collapsed gap midpoint letters
gap_letters circles j a b = cond (collapsed (gap a b)) 0 (letters circles j (midpoint (circle_at circles j) a b))

-- the angle of the i-th mark
abbrev pub phi_at : List Mark → ℕ → Float
phi_at marks i = (get_or marks i no_mark).phi

-- the heads that let head j have the gap from the i-th of its marks to the next, round the circle; none, where there is
-- no i-th
unfoldable pub lets_at : List Circle → ℕ → List Mark → ℕ → ℕ
unfolding gap_letters
lets_at circles j marks i =
    cond (ltb i (length marks)) (gap_letters circles j (phi_at marks i) (phi_at marks ((i + 1) % length marks))) 0

-- the i-th mark, with those heads
unfoldable pub let_at : List Circle → ℕ → List Mark → ℕ → Mark
unfolding lets_at
let_at circles j marks i =
    let m = get_or marks i no_mark in
    record { phi = m.phi; adopters = m.adopters; lets = lets_at circles j marks i }

-- each mark with those heads
unfoldable pub marks_let : List Circle → ℕ → List Mark → List Mark
unfolding let_at
marks_let circles j marks = tab (let_at circles j marks) (length marks)

-- ---- what is held of the heads

-- of head j
unfoldable pub head_marked : List Circle → List IntersectionPoint → ℕ → HeadMarks
unfolding marks_at marks_let letters
head_marked circles points j =
    let c = circle_at circles j in
    record {
      marks = record { items = marks_let circles j (marks_at c j points) };
      owners = letters circles j (probe c);
    }

-- of a head that no set needs
abbrev pub unmarked : HeadMarks
unmarked = record { marks = record { items = [] }; owners = 0 }

-- of every head: nothing where `needed` does not have it
unfoldable pub heads_marked : List Circle → List IntersectionPoint → ℕ → List HeadMarks
unfolding head_marked
heads_marked circles points needed =
    tab (λ j. cond (in_set needed j) (head_marked circles points j) unmarked) (length circles)
