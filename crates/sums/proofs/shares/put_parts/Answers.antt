-- `shares::put_parts`: one part more is put, or is not in the box.
use mathlib.Core.Path.{◌≡◌, sym, ap, ◌∙◌}
use mathlib.Core.List.{◌∷◌, [], ◌++◌}
use Prim.Native.Nat.{ℕ, ◌≤◌}
use native.Mathlib.Omega.{arith}
use borrow.Author.Rules.{rules}
use lib.ListN.{length, get_or, take}
use lib.Ieee.{nan}
use Rattle.std.specs.Slice.Iter.{windows_rest}
use Rattle.inside.specs.Breaks.{breaks}
use Rattle.sums.proofs.Sloping.{putting_skips, putting_puts, putting_ends}
use Rattle.sums.proofs.shares.put_parts.Goals as goal

pub loop-ends-preserved-then-summed : goal.loop-ends-preserved-then-summed
loop-ends-preserved-then-summed c =
    let l = c.loop-ends in
    let rest = windows_rest c.loop-ends.ends-iterator in
    let steps = c.in-Some.ensures.steps in
    let more : 2 ≤ length (windows_rest c.loop-ends.ends-iterator) = omega (arith, steps.1.0, l.invariant.0) in
    let two = steps.1.1 ∙ ap (λ (k : ℕ). take k rest) l.invariant.0 in (
      steps.0 ∙ l.invariant.0,
      rw (steps.1.2, c.part_of-part.ensures.integral)
          (putting_puts l.invariant.1 more (ap (λ e. get_or e 0 nan) two) (ap (λ e. get_or e 1 nan) two)
          (sym c.summed.ensures ∙ c.if-summed.true)
          (c.push.ensures.items ∙ ap (λ t. l.shares.items ++ t ∷ []) c.part_of-part.ensures.share)),
    )

pub loop-ends-preserved : goal.loop-ends-preserved
loop-ends-preserved c =
    let l = c.loop-ends in
    let rest = windows_rest c.loop-ends.ends-iterator in
    let steps = c.in-Some.ensures.steps in
    let more : 2 ≤ length (windows_rest c.loop-ends.ends-iterator) = omega (arith, steps.1.0, l.invariant.0) in
    let two = steps.1.1 ∙ ap (λ (k : ℕ). take k rest) l.invariant.0 in (
      steps.0 ∙ l.invariant.0,
      rw steps.1.2
          (putting_skips l.invariant.1 more (ap (λ e. get_or e 0 nan) two) (ap (λ e. get_or e 1 nan) two)
          (sym c.summed.ensures ∙ c.if-summed.false)),
    )

pub returns : goal.returns
unfolding breaks
returns c =
    let all : windows_rest c.into_iter-ends-iterator.result ≡ c.breaks_between-breaks.result.items = search rules in
    putting_ends c.loop-ends.invariant.1 (omega (arith, c.in-None.ensures.steps.1.0, c.loop-ends.invariant.0))
    (all ∙ c.breaks_between-breaks.ensures.1)
