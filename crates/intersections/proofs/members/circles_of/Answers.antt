-- `members::circles_of`: the circles of the heads before the index.
use mathlib.Core.Path.{sym, ap, ◌∙◌}
use mathlib.Core.List.{[], ◌∷◌, map-append}
use native.Mathlib.Omega.{arith}
use native.Mathlib.Numerals.{add-one}
use lib.ListN.{length, get_or, take, length-map, length-take}
use lib.Seq.{take-suc, take_all}
use Rattle.intersections.specs.Heads.{circle_list, head_circle}
use Rattle.intersections.proofs.members.circles_of.Goals as goal

pub loop-member-init : goal.loop-member-init
loop-member-init c = c.new-circles.ensures

pub loop-member-preserved : goal.loop-member-preserved
loop-member-preserved c =
    let i = c.loop-member.member-index in
    let set = c.deref-member-items.result.now in
    c.push.ensures.items (omega (
      arith,
      ap length c.loop-member.invariant,
      length-map (take i set) (λ h. h.circle),
      length-take i set,
      c.deref-member-items.ensures.1,
    ))
    ∙ rw (c.loop-member.invariant, add-one i, take-suc set i (head_circle [] 0) (omega arith))
    (sym (map-append (λ h. h.circle) (take i set) (get_or set i (head_circle [] 0) ∷ [])))

pub returns : goal.returns
returns c =
    let i = c.loop-member.member-index in
    let set = c.deref-member-items.result.now in
    c.loop-member.invariant ∙ ap circle_list (take_all i set (omega arith) ∙ c.deref-member-items.ensures.0)
