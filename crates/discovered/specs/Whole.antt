-- Which masks are among a plan's sets, with the rules of closed heads, of meeting and of containing over whole numbers
-- in the place of meeting points and float tests: for heads within the limits it is the same. proofs/Whole.antt proves
-- it: `sets_by_whole_numbers`.
use Rattle.std.specs.Prelude.{◌≡◌, Bool, ℕ, length}
use Rattle.heads.specs.Pair.{is_closed, meets_of, contains_of}
use Rattle.plan.specs.declared.Plan.{Plan}
use Rattle.plan.specs.Limits.{Acceptable}
use Rattle.drawn.specs.Drawn.{plan_circles}
use Rattle.regions.specs.Table.{head_at}
use Rattle.intersections.specs.Points.{collected}
use Rattle.sets.specs.Regions.{is_one_head, is_adopters_of}
use Rattle.sets.specs.Sets.{is_set}
use Rattle.areas.specs.Sets.{plan_sets}

-- the sets of a plan by whole numbers; only who adopts a point is asked of floats
abbrev pub whole_sets : Plan → ℕ → Bool
whole_sets p S =
    is_set p.n (is_one_head p.n (λ i. is_closed (head_at p i))) (is_adopters_of (collected (plan_circles p)))
    (λ i j. meets_of (head_at p i) (head_at p j)) (λ i j. contains_of (head_at p i) (head_at p j)) S

abbrev pub SetsByWholeNumbers : Type 0
SetsByWholeNumbers = (p : Plan) → length p.heads ≡ 10 → Acceptable p → (S : ℕ) → plan_sets p S ≡ whole_sets p S
