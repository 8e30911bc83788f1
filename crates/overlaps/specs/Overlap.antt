-- The area that all of some circles water together (the Rust's compute_overlaps_circles): of one circle its area, of
-- two the area of the lens, else the open area of the set of all. "The overlap of all heads is that of the open ones"
-- (document 02, slip 3), by their number. And the same of the heads of a mask.
use Rattle.std.proofs.Common.{sym}
use Rattle.std.specs.Prelude.{◌≡◌, ℕ, ◌^◌, ◌-◌, not, List, [], ◌∷◌, map, Float, length}
use Rattle.lists.specs.Lists.{keep}
use Rattle.geometry.specs.Circle.{is_closed, area, intersection_area}
use Rattle.geometry.specs.declared.circle.Circle.{Circle}
use Rattle.intersections.specs.Heads.{heads_with, circle_list, circles_with_heads}
use Rattle.intersections.specs.Members.{circle_at, heads_of, members_of}
use Rattle.intersections.specs.Points.{Rule, rule, outline_rule, collected_by}
use Rattle.outline.specs.Area.{open_area}

module _ (r : Rule) where
  -- the open area of the set of all, of the meeting points by a rule
  abbrev pub of_all_by : List Circle → Float
  of_all_by circles = open_area (members_of circles (collected_by r circles) (2 ^ length circles - 1))

  -- of circles as they are
  abbrev pub together_by : List Circle → Float
  together_by [] = of_all_by []
  together_by (a ∷ []) = area a
  together_by (a ∷ b ∷ []) = intersection_area a b
  together_by (a ∷ b ∷ c ∷ rest) = of_all_by (a ∷ b ∷ c ∷ rest)

abbrev pub of_all : List Circle → Float
of_all = of_all_by rule

abbrev pub together : List Circle → Float
together = together_by rule

-- the circles that are not closed, in order
unfoldable pub not_closed : List Circle → List Circle
unfolding keep
not_closed circles = keep (λ c. not (is_closed c)) circles

-- a closed circle is as if it were not there
abbrev pub overlap : List Circle → Float
overlap circles = together (not_closed circles)

-- the circles of the heads of S, in order
abbrev pub chosen : List Circle → ℕ → List Circle
chosen circles S = map (circle_at circles) (heads_of (length circles) S)

pub chosen_are : (circles : List Circle) (S : ℕ) → chosen circles S ≡ circle_list (heads_with circles S)
chosen_are circles S = sym (circles_with_heads circles [] S)

-- the area that the heads of S water together, as if they were all there are
abbrev pub overlap_of : List Circle → ℕ → Float
overlap_of circles S = overlap (chosen circles S)

-- ---- the former overlap, of outlines alone

-- as it was before a circle could be closed: of circles as they are, and of their former meeting points
abbrev pub outline_overlap : List Circle → Float
outline_overlap circles = together_by outline_rule circles

-- Where every radius is above 0, the overlap of all and of each set of heads is the former one. Proved as
-- `overlap_as_before`, proofs/AsBefore.antt.
pub record OverlapAsBefore (circles : List Circle) : Type 0 where
  pub all : overlap circles ≡ outline_overlap circles
  pub some : (S : ℕ) → overlap_of circles S ≡ outline_overlap (chosen circles S)
