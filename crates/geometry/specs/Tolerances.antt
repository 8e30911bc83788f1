-- The tolerances of circles, by what they are for. Their bits, and the decimals of which these are the nearest f64, stand in binary64.
use Rattle.std.specs.Prelude.{Float}
use Rattle.binary64.specs.Constants.{ten_to_minus7, ten_to_minus9, ten_to_minus10, ten_to_minus12}

-- An arc of a smaller turn, or of a full turn but for less, is none.
abbrev pub arc_eps : Float
arc_eps = ten_to_minus9

-- Outlines so near to each other coincide.
abbrev pub coincidence : Float
coincidence = ten_to_minus7

-- How far from 1 the implicit form of a circle may be on its edge is never less than this.
abbrev pub coincidence_share : Float
coincidence_share = ten_to_minus12

-- At the box: an angle so near to the end of an arc is the end, and a point so near to the box is in it.
abbrev pub clip_angle : Float
clip_angle = ten_to_minus12

abbrev pub clip_box : Float
clip_box = ten_to_minus9

-- The Rust's, of a test that is left out here (docs/DIFFERENCES.md).
abbrev pub epsilon : Float
epsilon = ten_to_minus10
