-- What 5 and 11 of a call say of the numbers that a C program hands over: n, the box's four, and thirty of ten heads.
-- Proved in proofs/Numbers.antt as `five_of_numbers` and `eleven_of_numbers`; with `five_of_calls` and
-- `eleven_of_calls` (specs/Refusals.antt), of the plan that is made of these numbers, a call answers so exactly then.
use Rattle.std.specs.Prelude.{ℕ, ◌+◌, ◌*◌, ◌≤◌, ◌<◌, List, ◌↔◌, ℤ, pos, get_or}
use Rattle.plan.specs.Fields.{SideFailsFirst, RadiusFailsFirst}
use Rattle.plan.specs.Limits.{PositionWithin, SideWithin, RadiusWithin}
use Rattle.watered.specs.Handed.{plan_of}

-- number i of a list, 0 past its end
abbrev pub at : List ℤ → ℕ → ℤ
at l i = get_or l i (pos 0)

-- box[0] and box[1] are within the limits, and not both of box[2] and box[3] are
pub record BoxSideFails (n : ℕ) (box : List ℤ) : Type 0 where
  pub count : n ≤ 10
  pub x : PositionWithin (at box 0)
  pub y : PositionWithin (at box 1)
  pub sides : ¬ (SideWithin (at box 2) × SideWithin (at box 3))

-- heads[3i] and heads[3i + 1] are within the limits
abbrev pub PlaceWithin : List ℤ → ℕ → Type 0
PlaceWithin heads i = PositionWithin (at heads (i * 3)) × PositionWithin (at heads (i * 3 + 1))

-- All of box is within the limits, and of the heads before a head below n, and its place; heads[3 head + 2] is not.
pub record HeadRadiusFails (n : ℕ) (box heads : List ℤ) : Type 0 where
  pub count : n ≤ 10
  pub x : PositionWithin (at box 0)
  pub y : PositionWithin (at box 1)
  pub width : SideWithin (at box 2)
  pub height : SideWithin (at box 3)
  pub head : ℕ
  pub below : head < n
  pub before : (j : ℕ) → j < head → PlaceWithin heads j × RadiusWithin (at heads (j * 3 + 2))
  pub place : PlaceWithin heads head
  pub radius : ¬ RadiusWithin (at heads (head * 3 + 2))

abbrev pub FiveOfNumbers : Type 0
FiveOfNumbers = (n : ℕ) (box heads : List ℤ) → SideFailsFirst (plan_of n box heads) ↔ BoxSideFails n box

abbrev pub ElevenOfNumbers : Type 0
ElevenOfNumbers = (n : ℕ) (box heads : List ℤ)
    → RadiusFailsFirst (plan_of n box heads) ↔ HeadRadiusFails n box heads
