-- "The overlap of all heads is that of the open ones": a closed circle adds nothing to what all of some circles water
-- together, and takes nothing away. Proved in proofs/Closed.antt as `closed_not_counted`.
use Rattle.std.specs.Prelude.{ℕ, ◌<◌, ◌≡◌, true, false, List, [], ◌∷◌, ◌++◌, length}
use Rattle.binary64.specs.Constants.{zero64}
use Rattle.lists.specs.Every.{Every}
use Rattle.masks.specs.Mask.{in_set}
use Rattle.geometry.specs.Circle.{is_closed}
use Rattle.geometry.specs.declared.circle.Circle.{Circle}
use Rattle.intersections.specs.Members.{circle_at}
use Rattle.overlaps.specs.Overlap.{overlap, overlap_of}

pub record ClosedNotCounted : Type 0 where
  -- a closed circle is as if it were not there, wherever it stands;
  pub circle : (before after : List Circle) (c : Circle) → is_closed c ≡ true
      → overlap (before ++ (c ∷ after)) ≡ overlap (before ++ after)
  -- of two masks that differ in closed heads alone the overlap is the same;
  pub mask : (circles : List Circle) (S T : ℕ)
      → ((j : ℕ) → j < length circles → is_closed (circle_at circles j) ≡ false → in_set S j ≡ in_set T j)
      → overlap_of circles S ≡ overlap_of circles T
  -- and where all are closed it is that of no circles, which is +0.
  pub all_closed : (circles : List Circle) → Every (λ c. is_closed c ≡ true) circles → overlap circles ≡ overlap []
  pub of_none : overlap [] ≡ zero64
