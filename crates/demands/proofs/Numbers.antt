-- What 5 and 11 say of the numbers handed over (specs/Numbers.antt): the plan's values are these numbers.
use Prim.Native.Nat.{ℕ, ◌<◌}
use mathlib.Core.Path.{◌≡◌, sym, subst}
use mathlib.Core.List.{List}
use native.Mathlib.Omega.{arith}
use lib.IntN.{ℤ}
use lib.ListN.{get_or}
use Rattle.lists.specs.Written.{tab}
use Rattle.lists.proofs.Writing.{get_d_tab}
use Rattle.heads.specs.declared.Head.{Head}
use Rattle.plan.specs.Fields.{RadiusFailsFirst}
use Rattle.plan.specs.Limits.{PositionWithin, RadiusWithin, HeadWithin, no_head}
use Rattle.watered.specs.Handed.{head_of, heads_of, ground_of, plan_of}
use Rattle.demands.specs.Numbers.{HeadRadiusFails, FiveOfNumbers, ElevenOfNumbers}

pub five_of_numbers : FiveOfNumbers
unfolding plan_of ground_of
five_of_numbers n box heads = (
  (λ s. record { count = s.count; x = s.x; y = s.y; sides = s.sides }),
  (λ s. record { count = s.count; x = s.x; y = s.y; sides = s.sides }),
)

-- head i of ten is of the numbers 3i, 3i + 1 and 3i + 2
head_handed : (l : List ℤ) (i : ℕ) → i < 10 → get_or (heads_of l) i no_head ≡ head_of l i
unfolding tab
head_handed l i h = get_d_tab (head_of l) 10 i no_head h

module _ (n : ℕ) (box heads : List ℤ) where
  -- what holds of head i holds of its numbers, and back
  read : (P : Head → Type 0) (i : ℕ) → i < 10 → P (get_or (heads_of heads) i no_head) → P (head_of heads i)
  read P i h = subst P (head_handed heads i h)

  back : (P : Head → Type 0) (i : ℕ) → i < 10 → P (head_of heads i) → P (get_or (heads_of heads) i no_head)
  back P i h = subst P (sym (head_handed heads i h))

  to_numbers : RadiusFailsFirst (plan_of n box heads) → HeadRadiusFails n box heads
  unfolding plan_of ground_of head_of
  to_numbers s =
      let of = s.first in
      let here : s.head < 10 = omega (arith, of.below, s.count) in record {
        count = s.count;
        x = s.ground.0;
        y = s.ground.1;
        width = s.ground.2;
        height = s.ground.3;
        head = s.head;
        below = of.below;
        before = λ j lt.
            let w = read HeadWithin j (omega (arith, here)) (of.before j lt) in
            ((w.0, w.1), w.2);
        place = (read (λ h. PositionWithin h.x) s.head here of.x, read (λ h. PositionWithin h.y) s.head here of.y);
        radius = read (λ h. ¬ RadiusWithin h.radius) s.head here of.radius;
      }

  of_numbers : HeadRadiusFails n box heads → RadiusFailsFirst (plan_of n box heads)
  unfolding plan_of ground_of head_of
  of_numbers s =
      let here : s.head < 10 = omega (arith, s.below, s.count) in record {
        count = s.count;
        ground = (s.x, s.y, s.width, s.height);
        head = s.head;
        first = record {
          below = s.below;
          before = λ j lt.
              let w = s.before j lt in
              back HeadWithin j (omega (arith, here)) (w.0.0, w.0.1, w.1);
          x = back (λ h. PositionWithin h.x) s.head here s.place.0;
          y = back (λ h. PositionWithin h.y) s.head here s.place.1;
          radius = back (λ h. ¬ RadiusWithin h.radius) s.head here s.radius;
        };
      }

pub eleven_of_numbers : ElevenOfNumbers
eleven_of_numbers n box heads = (to_numbers n box heads, of_numbers n box heads)
