-- `presence::clear_absent`: one row more is cleared, or kept.
use mathlib.Core.Path.{◌≡◌, sym, ap, ◌∙◌}
use mathlib.Core.Bool.{Bool, cond}
use mathlib.Core.List.{◌++◌}
use Prim.Native.Nat.{ℕ}
use native.Mathlib.Nat.{le_refl}
use native.Mathlib.Omega.{arith}
use lib.Ieee.{Float, nan}
use lib.ListN.{take, drop, get_or, length, length-take}
use lib.Seq.{get_or-take}
use Rattle.binary64.specs.Constants.{zero64}
use Rattle.lists.specs.Written.{written}
use Rattle.lists.proofs.Writing.{written_none, write_next, written_past, written_whole, tab_cong}
use Rattle.masks.specs.Presence.{stands}
use Rattle.sums.specs.Presence.{among}
use Rattle.sums.proofs.Bytes.{among_own}
use Rattle.sums.proofs.presence.clear_absent.Goals as goal
use Rattle.sums.proofs.presence.clear_absent.Goals.{then-not-is_there, else-not-is_there}

pub loop-mask-init : goal.loop-mask-init
loop-mask-init c = written_none _ _

pub loop-mask-preserved : goal.loop-mask-preserved
loop-mask-preserved c =
    let l = c.loop-mask in
    let a = c.args in
    let part = take c.row_count-count.result a.areas.now in
    let room = c.loop-mask-test.true in
    let stood = get_or part l.mask nan in
    let f : ℕ → Float = λ S. cond (among a.has_box (stands a.sets.now) S) (get_or part S nan) zero64 in
    let is = sym (among_own a.has_box (stands a.sets.now) l.mask) ∙ sym c.is_there.ensures in
    let kept = λ (b : Bool). cond b stood zero64 in
    elim c.if-not-is_there.branch [
      | then-not-is_there w ↦ w.area-items-is ∙ rw l.invariant (write_next f l.mask part zero64 nan room
          (sym (ap kept (is ∙ w.if-not-is_there.true))))
      | else-not-is_there w ↦ w.area-items-is ∙ rw l.invariant (write_next f l.mask part _ nan room
          (written_past f l.mask l.mask part nan (le_refl l.mask)
          ∙ sym (ap kept (is ∙ w.if-not-is_there.false))))
    ]

pub returns : goal.returns
returns c =
    let a = c.args in
    let n = c.row_count-count.result in
    let part = take n a.areas.now in
    let F : ℕ → Float = λ S. cond (among a.has_box (stands a.sets.now) S) (get_or part S nan) zero64 in
    let G : ℕ → Float = λ S. cond (among a.has_box (stands a.sets.now) S) (get_or a.areas.now S nan) zero64 in
    let long : length (take c.row_count-count.result c.args.areas.now) ≡ c.row_count-count.result =
    omega (arith, length-take c.row_count-count.result c.args.areas.now, c.row_count-count.ensures.value) in
    let all : c.loop-mask.mask ≡ c.row_count-count.result = omega (arith, long, c.loop-mask-test.false) in
    ap (λ t. t ++ drop n a.areas.now)
    (c.loop-mask.invariant ∙ written_whole F c.loop-mask.mask n part all long
    ∙ tab_cong F G n
    (λ i h. ap (λ (x : Float). cond (among a.has_box (stands a.sets.now) i) x zero64)
    (get_or-take n a.areas.now i nan h)))
    ∙ ap (λ (m : ℕ). written G m a.areas.now) c.row_count-count.ensures.value
