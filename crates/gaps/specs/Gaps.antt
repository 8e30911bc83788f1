-- Whether a gap between two angles of a head is an arc of a set, the next place round a head, and the circle of a head
-- from its three numbers.
use Rattle.std.specs.Prelude.{ℕ, ◌+◌, ◌*◌, Bool, not, ◌&&◌, ◌||◌, List, length, get_or, Float}
use Rattle.std.specs.Float.{nan}
use Rattle.std.proofs.Math.Bool.{cond}
use Rattle.std.proofs.Math.Dec.{ltb}
use Rattle.masks.specs.Mask.{in_set, every}
use Rattle.geometry.specs.declared.point.Point.{Point}
use Rattle.geometry.specs.declared.circle.Circle.{Circle}
use Rattle.intersections.specs.Members.{circle_at}
use Rattle.boundary.specs.Outline.{lets, gap, collapsed, midpoint}

-- ---- the gaps of a head that are arcs of a set

-- every head of S lets head j have the point p
unfoldable pub owned_in : List Circle → ℕ → ℕ → Point → Bool
unfolding every lets
owned_in circles S j p = every (length circles) (λ l. not (in_set S l) || lets j p l (circle_at circles l))

-- the gap from a to b of head j is an arc of S: it is not collapsed, and its midpoint is j's own
unfoldable pub is_arc : List Circle → ℕ → ℕ → Float → Float → Bool
unfolding gap collapsed midpoint owned_in
is_arc circles S j a b = not (collapsed (gap a b)) && owned_in circles S j (midpoint (circle_at circles j) a b)

-- ---- the places of a head

-- the next place of n, round a circle: the first after the last
unfoldable pub next_of : ℕ → ℕ → ℕ
next_of a n = cond (ltb (a + 1) n) (a + 1) 0

-- ---- circles as numbers

-- the circle of head l from the three numbers of each head
unfoldable pub circle_in : List Float → ℕ → Circle
circle_in c l =
    record {
      center = record { x = get_or c (l * 3) nan; y = get_or c (l * 3 + 1) nan };
      radius = get_or c (l * 3 + 2) nan;
    }
