-- `ownership::MemberOf::push_arcs`: one arc more after each angle, if there is one.
use mathlib.Core.Path.{◌≡◌, sym, ap, ◌∙◌}
use mathlib.Core.List.{append-nil, ◌++◌, ◌∷◌, []}
use mathlib.Core.Bool.{false≢true}
use native.Mathlib.Omega.{arith}
use lib.ListN.{length, length-append}
use Rattle.std.specs.Option.{option_to_list}
use Rattle.lists.specs.Lists.{up_to}
use Rattle.intersections.specs.Heads.{circle_list}
use Rattle.boundary.specs.Outline.{arc_from}
use Rattle.boundary.proofs.Gaps.{arc_after, arcs_after_all, next_given}
use Rattle.boundary.proofs.ownership.MemberOf.push_arcs.Goals as goal
use Rattle.boundary.proofs.ownership.MemberOf.push_arcs.Goals.{in-Some-arc_between, in_default-arc_between}

pub loop-i-init : goal.loop-i-init
unfolding up_to
loop-i-init c = (sym (append-nil _), omega arith)

pub loop-i-preserved : goal.loop-i-preserved
loop-i-preserved c =
    let a = c.args in
    let l = c.loop-i in
    let f = arc_from (circle_list a.self.set.now) a.self.k a.self.circle a.angles.now.items in
    let found : option_to_list c.arc_between.result ≡ f l.i =
    c.arc_between.ensures ∙ rw (c.len.ensures.value, c.deref.ensures.0, c.deref-phi-items.ensures.0)
    (arc_after (circle_list a.self.set.now) a.self.k a.self.circle a.angles.now.items l.i) in
    let next = next_given a.all.now.items f l.i (option_to_list c.arc_between.result) found in
    elim c.match-arc_between.branch [
      | in-Some-arc_between w ↦
          let arc = w.in-Some-arc_between.arc in
          let pushed = w.push-in-Some-arc_between.ensures.items
          (omega (arith, c.requires, l.invariant.1, c.loop-i-test.true, c.deref-phi-items.ensures.1)) in
          rw w.all-is (
            pushed ∙ ap (λ t. t ++ arc ∷ []) l.invariant.0 ∙ (rw w.in-Some-arc_between.is at next),
            omega (arith, ap length pushed, length-append l.all.items (arc ∷ []), l.invariant.1),
          )
      | in_default-arc_between w ↦ rw w.all-is
          (l.invariant.0 ∙ sym (append-nil _) ∙ (rw w.in_default-arc_between.is at next), omega (arith, l.invariant.1))
    ]

pub returns-clause-arcs : goal.returns-clause-arcs
returns-clause-arcs c =
    let a = c.args in
    let f = arc_from (circle_list a.self.set.now) a.self.k a.self.circle a.angles.now.items in
    let last : c.loop-i.i ≡ length a.angles.now.items = omega (arith, ap length c.deref-phi-items.ensures.0) in
    c.loop-i.invariant.0 ∙ ap (λ n. a.all.now.items ++ up_to f n) last
    ∙ ap (λ t. a.all.now.items ++ t) (sym (arcs_after_all (circle_list a.self.set.now) a.self.k a.self.circle a.angles.now.items (λ e. false≢true (rw e at c.if-is_empty.ensures))))
