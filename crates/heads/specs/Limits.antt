-- Document 01's limits of a plan: an x or y of a head or of the box, a radius, a side of the box.
use Rattle.std.specs.Prelude.{ℕ, Bool, ◌&&◌, ℤ, pos, neg_ℤ}
use Rattle.std.specs.Int.Signed.{le_z}
use Rattle.heads.specs.declared.Head.{Head}

-- the greatest distance of an x or y from zero, the greatest radius, the greatest side
abbrev pub position_limit : ℕ
position_limit = 20000

abbrev pub radius_limit : ℕ
radius_limit = 20000

abbrev pub side_limit : ℕ
side_limit = 40000

-- from low to high, both ends taken
abbrev pub within : ℤ → ℤ → ℤ → Bool
within low high v = le_z low v && le_z v high

-- "x or y of box or head: outside -20000 to 20000" is refused
abbrev pub position_in_limits : ℤ → Bool
position_in_limits v = within (neg_ℤ (pos position_limit)) (pos position_limit) v

-- "radius: outside 0 to 20000" is refused: document 01's 1 became 0 with document 02's slip 3
abbrev pub radius_in_limits : ℤ → Bool
radius_in_limits v = within (pos 0) (pos radius_limit) v

-- "side: outside 1 to 40000" is refused
abbrev pub side_in_limits : ℤ → Bool
side_in_limits v = within (pos 1) (pos side_limit) v

-- A head that the checks accept: x, y and radius are within the limits.
abbrev pub in_limits : Head → Bool
in_limits h = position_in_limits h.x && (position_in_limits h.y && radius_in_limits h.radius)
