-- How many: of the meeting points of ten circles at most 18 are counted at a head, and so an outline has at most 180
-- arcs. For these the room that the code has for arcs is never short.
use Rattle.std.specs.Prelude.{◌≡◌, List, [], ◌∷◌, map, ℕ, suc, ◌*◌, ◌≤◌, ◌<◌, length, Float}
use Rattle.std.proofs.Common.{arith, length-append, take_all}
use Rattle.std.proofs.lemmas.List.{length-map}
use Rattle.lists.specs.Every.{Every, every_map, every_mapped}
use Rattle.geometry.specs.declared.circle.Circle.{Circle}
use Rattle.intersections.specs.Members.{Member, circles_of, heads_of, points_for, member_at, members_of}
use Rattle.intersections.specs.Points.{collected}
use Rattle.lists.proofs.Lists.{up_to_few, one_or_none}
use Rattle.intersections.specs.Counts.{counted_few, points_whole, heads_below, heads_few}
use Rattle.boundary.specs.Sort.{sorted}
use Rattle.boundary.proofs.Sorting.{sorted_length as sorted_by_length}
use Rattle.boundary.specs.Outline.{owned, probe, full_circle, arc_from, arcs_at, angles_of, outline_from, outline}
use Rattle.boundary.specs.Set.{numbered, arcs_held, region_arcs}

-- ---- arcs

pub sorted_length : (l : List Float) → length (sorted l) ≡ length l
sorted_length l = sorted_by_length (λ x. x) l

gap_few : (cs : List Circle) (k : ℕ) (c : Circle) (phis : List Float) (i : ℕ) → length (arc_from cs k c phis i) ≤ 1
unfolding arc_from
gap_few cs k c phis i = search one_or_none

module _ (b : ℕ) (some : 1 ≤ b) where
  -- a member has at most an arc for each angle, and one where it has no angle
  pub arcs_few : (cs : List Circle) (k : ℕ) (c : Circle) (phis : List Float) → length phis ≤ b
      → length (arcs_at cs k c phis) ≤ b
  unfolding arcs_at
  arcs_few cs k c [] h = omega (arith, one_or_none (owned k (probe c) cs) (full_circle k c))
  arcs_few cs k c (phi ∷ phis) h =
      let each = up_to_few (arc_from cs k c (phi ∷ phis)) 1 (length (phi ∷ phis)) in
      omega (arith, each (λ i g. gap_few cs k c (phi ∷ phis) i))

  angles_few : (m : Member) → length m.points ≤ b → length (angles_of m) ≤ b
  unfolding angles_of
  angles_few m h = rw (sorted_length, length-map) h

  members_arcs : (cs : List Circle) (k : ℕ) (ms : List Member) → Every (λ m. length m.points ≤ b) ms
      → length (outline_from cs k ms) ≤ length ms * b
  unfolding outline_from
  members_arcs cs k [] h = omega arith
  members_arcs cs k (m ∷ ms) h =
      omega (
        arith,
        length-append (arcs_at cs k m.circle (angles_of m)) (outline_from cs (suc k) ms),
        arcs_few cs k m.circle (angles_of m) (angles_few m h.0),
        members_arcs cs (suc k) ms h.1,
      )

  outline_le : (ms : List Member) → length (outline_from (circles_of ms) 0 ms) ≤ length ms * b
      → length (outline ms) ≤ length ms * b
  unfolding outline
  outline_le [] h = omega arith
  outline_le (m ∷ []) h = omega arith
  outline_le (m ∷ (m' ∷ ms)) h = h

-- ---- the arcs of a set

held : (cs : List Circle) (S j : ℕ) → length cs ≤ 10 → j < length cs → length (points_for (collected cs) S j) ≤ 18
held cs S j h g = rw (points_whole cs S j h g, length-map) (counted_few cs S j h g)

-- at most 180 arcs in the outline of a set
pub outline_few : (cs : List Circle) (S : ℕ) → length cs ≤ 10 → length (outline (members_of cs (collected cs) S)) ≤ 180
unfolding members_of member_at
outline_few cs S h =
    let js = heads_of (length cs) S in
    let each = every_map js (λ j g. held cs S j h g) (heads_below (length cs) S) in
    let member = member_at cs (collected cs) S in
    let ms : List Member = map member js in
    let all = members_arcs 18 (omega arith) (circles_of ms) 0 ms
    (every_mapped (λ m. length m.points ≤ 18) member js each) in
    omega (
      arith,
      outline_le 18 (omega arith) ms all,
      length-map js member,
      heads_few (length cs) S,
    )

-- so the room for arcs is never short
pub arcs_whole : (cs : List Circle) (S : ℕ) → length cs ≤ 10 → region_arcs cs (collected cs) S
    ≡ map (numbered (heads_of (length cs) S)) (outline (members_of cs (collected cs) S))
unfolding region_arcs
arcs_whole cs S h =
    take_all arcs_held (map (numbered (heads_of (length cs) S)) (outline (members_of cs (collected cs) S)))
    (rw (length-map) (outline_few cs S h))
