-- Document 01's worked examples P1 to P12, of the definitions: one list, `examples`, and one theorem, `worked`. Both sides of each equation are
-- computed. This crate alone unfolds the root.
use Prim.{Unit, tt}
use Rattle.std.specs.Prelude.{ℕ, true, List, [], ◌∷◌, ◌≡◌, refl, pos, neg_ℤ, Float, replicate}
use Rattle.std.specs.Int.Count.{ones, ones_in}
use Rattle.std.specs.Float.{binary64}
use Rattle.std.specs.Float.Ieee.{is_nan, add, sub, neg, mul, div, lt, le, eq, round, of_int, of_bits, to_bits}
use Rattle.lists.specs.Lists.{up_to, keep}
use Rattle.lists.specs.Run.{Step}
use Rattle.lists.specs.Written.{tab}
use Rattle.masks.specs.Mask.{bit, in_set, every}
use Rattle.binary64.specs.Units.{mag, pow2}
use Rattle.elementary.specs.Root.{root, hypot}
use Rattle.geometry.specs.Circle.{around, contains, intersection_points}
use Rattle.geometry.specs.Point.{at}
use Rattle.geometry.specs.declared.circle.Circle.{Circle}
use Rattle.inside.specs.Span.{between, horizontal_span}
use Rattle.exclusive.specs.RowOrder.{rows_of, row_order}
use Rattle.exclusive.specs.Exclusive.{sum_onto, above, subtracted, unclamped, exclusive_table}
use Rattle.plan.specs.Table.{Answered, taken}
use Rattle.plan.specs.declared.Ground.{Ground}
use Rattle.plan.specs.declared.Plan.{Plan}
use Rattle.plan.specs.Checks.{heads_items, plan_items, call_answer}
use Rattle.plan.specs.Limits.{no_head}
use Rattle.drawn.specs.Drawn.{box_of}
use Rattle.regions.specs.Edit.{afresh_row}
use Rattle.regions.specs.Slices.{PlanSlices, plan_slices, step_of, afresh_slices}
use Rattle.areas.specs.Clipped.{clipped_method}
use Rattle.areas.specs.Exclusives.{to_exclusives}
use Rattle.areas.specs.Sets.{plan_sets}

-- The whole number n, and -n, as f64.
abbrev pub whole : ℕ → Float
whole n = of_int binary64 (pos n)

abbrev pub minus : ℕ → Float
minus n = of_int binary64 (neg_ℤ (pos n))

-- The head (x, y, radius) as document 01 writes it.
abbrev pub head : ℕ → ℕ → ℕ → Circle
head x y r = around (at (whole x) (whole y)) (whole r)

-- All propositions of a list hold.
abbrev pub All : List (Type 0) → Type 0
All [] = Unit {0}
All (P ∷ Ps) = P × All Ps

-- The exclusives of four rows, all present, of two heads: of these areas, over a table of four numbers.
abbrev pub exclusives_of : ℕ → ℕ → ℕ → ℕ → List Float
exclusives_of a b c d =
    exclusive_table 2 (1 ∷ 1 ∷ 1 ∷ 1 ∷ []) (whole a ∷ whole b ∷ whole c ∷ whole d ∷ []) (whole 9 ∷ whole 9 ∷ whole 9 ∷ whole 9 ∷ [])

-- The plan of zero heads in the box that a file gives where no field stands: 40000 by 40000 about (0, 0).
abbrev pub no_heads : Plan
no_heads =
    let ground : Ground = record { x = pos 0; y = pos 0; width = pos 40000; height = pos 40000 } in
    record { ground = ground; n = 0; heads = replicate 10 no_head }

-- Its afresh call over two tables of two rows each, whatever they hold.
abbrev pub afresh_over : List ℕ → List Float → List ℕ → List Float → Step PlanSlices Answered
afresh_over bytes numbers others areas = afresh_slices (clipped_method plan_sets to_exclusives) (plan_slices no_heads bytes numbers others areas)

-- The examples, in document 01's order.
abbrev pub examples : List (Type 0)
examples =
    -- P1: points (4, 3), (4, -3)
    (intersection_points (head 0 0 5) (head 8 0 5) ≡ at (whole 4) (whole 3) ∷ at (whole 4) (minus 3) ∷ [])
    -- P2: one, (5, 0)
    ∷ (intersection_points (head 0 0 5) (head 10 0 5) ≡ at (whole 5) (whole 0) ∷ [])
    -- P3: none
    ∷ (intersection_points (head 0 0 5) (head 11 0 5) ≡ [])
    -- P4: one, (5, 0), and contained
    ∷ (intersection_points (head 0 0 5) (head 2 0 3) ≡ at (whole 5) (whole 0) ∷ [])
    ∷ (contains (head 0 0 5) (head 2 0 3) ≡ true)
    -- P5: none
    ∷ (intersection_points (head 0 0 5) (head 0 0 3) ≡ [])
    -- P6: none
    ∷ (intersection_points (head 0 0 5) (head 0 0 5) ≡ [])
    -- P7: on y = 3, x from -10 to 10, the span of (0, 0, 5) is -4 to 4
    ∷ (horizontal_span (whole 3) (minus 10) (whole 10) (head 0 0 5 ∷ []) ≡ between (minus 4) (whole 4) ∷ [])
    -- P8: on y = 5 no span
    ∷ (horizontal_span (whole 5) (minus 10) (whole 10) (head 0 0 5 ∷ []) ≡ [])
    -- P9: rows 50, 10, 8, 3 give 35, 7, 5, 3
    ∷ (exclusives_of 50 10 8 3 ≡ whole 35 ∷ whole 7 ∷ whole 5 ∷ whole 3 ∷ [])
    -- P10: row 1 as 2
    ∷ (exclusives_of 50 2 8 3 ≡ whole 43 ∷ whole 0 ∷ whole 5 ∷ whole 3 ∷ [])
    -- P11: the bits of the root of 2
    ∷ (to_bits binary64 (root (whole 2)) ≡ 0x3ff6_a09e_667f_3bcd)
    -- P12: zero heads: row 0 only, byte 1 and the box's area, in both tables; what stands beyond stays
    ∷ (afresh_over (7 ∷ 8 ∷ []) (whole 2 ∷ whole 3 ∷ []) (9 ∷ 5 ∷ []) (whole 4 ∷ whole 6 ∷ [])
    ≡ step_of (plan_slices no_heads (1 ∷ 8 ∷ []) (whole 1600000000 ∷ whole 3 ∷ []) (1 ∷ 5 ∷ []) (whole 1600000000 ∷ whole 6 ∷ [])) taken)
    ∷ []

-- Every example holds.
pub worked : All examples
unfolding is_nan add sub neg mul div lt le eq round of_int of_bits to_bits pow2 mag root hypot horizontal_span bit in_set every ones ones_in tab up_to keep
    rows_of row_order sum_onto above subtracted unclamped heads_items plan_items call_answer box_of afresh_row afresh_slices
worked = (refl, (refl, (refl, (refl, (refl, (refl, (refl, (refl, (refl, (refl, (refl, (refl, (refl, tt)))))))))))))
