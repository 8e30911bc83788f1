-- The circles of a plan: how many, which, and that an edit changes one of them.
use mathlib.Core.Path.{◌≡◌, ap, ◌∙◌}
use mathlib.Core.List.{map}
use Prim.Native.Nat.{ℕ, ◌≤◌, ◌<◌}
use native.Mathlib.Omega.{arith}
use lib.ListN.{length, get_or, take, set, length-map, length-take}
use lib.Seq.{take-set-lt, get_or-take, length-take-le}
use Rattle.lists.proofs.Lists.{map_set, get_d_mapped}
use Rattle.plan.specs.declared.Edit.{Edit}
use Rattle.plan.specs.declared.Plan.{Plan}
use Rattle.plan.specs.Book.{head_of, applied}
use Rattle.plan.specs.Limits.{no_head}
use Rattle.geometry.specs.declared.circle.Circle.{Circle}
use Rattle.exact.specs.Circle.{circle_of}
use Rattle.drawn.specs.Drawn.{plan_circles}

-- an edit changes one circle
pub circles_edited : (p : Plan) (e : Edit) → e.head < p.n → plan_circles (applied p e) ≡ set (plan_circles p) e.head (circle_of (head_of e))
unfolding plan_circles
circles_edited p e h =
    ap (take p.n) (map_set circle_of p.heads e.head (head_of e))
    ∙ take-set-lt p.n (map circle_of p.heads) e.head (circle_of (head_of e)) h

pub circles_few : (p : Plan) → p.n ≤ 10 → length (plan_circles p) ≤ 10
unfolding plan_circles
circles_few p h = rw (length-take) (omega arith)

module _ (p : Plan) (ten : length p.heads ≡ 10) (few : p.n ≤ 10) where
  pub circles_many : length (plan_circles p) ≡ p.n
  unfolding plan_circles
  circles_many = length-take-le p.n (map circle_of p.heads) (omega (arith, length-map p.heads circle_of))

  -- circle j is that of head j
  pub circle-at : (j : ℕ) (none : Circle) → j < p.n → get_or (plan_circles p) j none ≡ circle_of (get_or p.heads j no_head)
  unfolding plan_circles
  circle-at j none h = get_or-take p.n (map circle_of p.heads) j none h ∙ get_d_mapped circle_of p.heads j no_head none (omega arith)
