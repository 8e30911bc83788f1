-- Identical heads that are not closed, in any set, whatever points are counted there. Document 01: "containment still
-- makes the row, and the lower index owns the arc." Proved in proofs/Theorem.antt.
use Rattle.std.specs.Prelude.{◌≡◌, false, List, ◌∷◌, ◌++◌, suc, ◌+◌, T, length}
use Rattle.heads.specs.declared.Head.{Head}
use Rattle.heads.specs.Limits.{in_limits}
use Rattle.heads.specs.Pair.{is_closed}
use Rattle.exact.specs.Circle.{circle_of}
use Rattle.intersections.specs.Members.{Member}
use Rattle.boundary.specs.NoArc.{NoneOf}
use Rattle.boundary.specs.Outline.{outline}

-- In a set with two identical heads the higher one, m, gets no arc: a point of its edge is on the edge of the lower one, l. Of the lower one's arcs nothing is
-- claimed: with a third head a meeting point may fail its twin's distance test by a rounding.
abbrev pub HigherHasNoArc : Type 0
HigherHasNoArc =
    (h : Head) → T (in_limits h) → is_closed h ≡ false → (before between after : List Member) (l m : Member)
    → l.circle ≡ circle_of h → m.circle ≡ circle_of h
    → NoneOf (length before + suc (length between)) (outline (before ++ (l ∷ (between ++ (m ∷ after)))))
