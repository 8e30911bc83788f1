-- `heads::relation_of` meets its contract: a distance cut at the greatest u64 gives the same relation.
use Rattle.std.proofs.Common.{◌^◌, ◌<◌, pos, negsuc, ◌∙◌, arith, rules, w32, ℤ}
use mir.Val.{SFits}
use Rattle.std.proofs.lemmas.Int.{to_z-of_z}
use Rattle.heads.specs.Pair.{above_zero, radius_of, squared_distance}
use Rattle.heads.specs.Distance.{relation_capped}
use Rattle.heads.proofs.relation_of.Goals as goal

-- a radius of i32 counts for less than 2^31
above_zero_lt : (z : ℤ) → SFits w32 z → above_zero z < 2 ^ 31
above_zero_lt (pos n) h = omega (arith, h.sfits)
above_zero_lt (negsuc n) h = omega arith

pub returns : goal.returns
returns c = let s = c.args in
    let fa : SFits w32 s.a.radius = search rules in
    let fb : SFits w32 s.b.radius = search rules in
    c.relation_at.ensures
    ∙ simp (
      c.squared_distance.ensures,
      c.above_zero.ensures,
      c.above_zero-2.ensures,
      to_z-of_z w32 s.a.radius fa,
      to_z-of_z w32 s.b.radius fb,
    )
    (relation_capped (squared_distance s.a s.b) (radius_of s.a) (radius_of s.b) (above_zero_lt s.a.radius fa)
    (above_zero_lt s.b.radius fb))
