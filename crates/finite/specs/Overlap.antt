-- What the heads of a set water together, as the Rust's compute_overlaps_circles works it out, is finite for a taken plan, with a bound: what is
-- claimed, and proved in proofs/Overlap.antt. `Most j 1074 x` says that x is finite and |x| ≤ j.
use Rattle.std.specs.Prelude.{◌≡◌, true, ℕ, ◌≤◌, ◌<◌, T, length}
use Rattle.binary64.specs.Magnitude.{Most}
use Rattle.heads.specs.Limits.{in_limits}
use Rattle.masks.specs.Mask.{in_set}
use Rattle.regions.specs.Table.{head_at}
use Rattle.plan.specs.Table.{taken}
use Rattle.plan.specs.declared.Plan.{Plan}
use Rattle.plan.specs.Checks.{plan_answer}
use Rattle.drawn.specs.Drawn.{plan_circles}
use Rattle.overlaps.specs.Overlap.{overlap, overlap_of}

-- At most ten heads: what the heads of a mask water together asks of these heads alone that they are of the domain.
abbrev pub OverlapOfFinite : Type 0
OverlapOfFinite =
    (p : Plan) → length p.heads ≡ 10 → p.n ≤ 10 → (S : ℕ) → ((j : ℕ) → j < p.n → in_set S j ≡ true → T (in_limits (head_at p j)))
    → Most 1440000000000 1074 (overlap_of (plan_circles p) S)

-- Of a plan: all its heads, and the heads of any mask, none, one, two or more, water at most 1,440,000,000,000 together.
pub record PlanOverlapFinite (p : Plan) : Type 0 where
  pub all : Most 1440000000000 1074 (overlap (plan_circles p))
  pub some : (S : ℕ) → Most 1440000000000 1074 (overlap_of (plan_circles p) S)

abbrev pub OverlapFinite : Type 0
OverlapFinite = (p : Plan) → length p.heads ≡ 10 → plan_answer p ≡ taken → PlanOverlapFinite p
