-- The arc of one gap, and the arcs of a member, gap by gap.
use mathlib.Core.Path.{◌≡◌, refl, ◌∙◌}
use borrow.Author.Rules.{rules}
use mathlib.Core.Bool.{Bool, true, false, not, ◌&&◌, cond}
use mathlib.Core.List.{List, [], ◌∷◌, ◌++◌, append_assoc}
use Prim.Native.Nat.{ℕ, ◌+◌, ◌%◌, ◌<◌}
use native.Mathlib.Nat.{mod-lt}
use native.Mathlib.Numerals.{add-one}
use native.Mathlib.Omega.{arith}
use lib.ListN.{length, get_or}
use lib.Ieee.{Float, nan}
use Rattle.std.specs.Prelude.{Option, None, Some, IfSome}
use Rattle.std.specs.Option.{is_some, option_to_list}
use Rattle.lists.specs.Lists.{up_to}
use Rattle.geometry.specs.declared.point.Point.{Point}
use Rattle.geometry.specs.declared.circle.Circle.{Circle}
use Rattle.boundary.specs.declared.arcs.BoundaryArc.{BoundaryArc}
use Rattle.boundary.specs.Gaps.{arc_between}
use Rattle.boundary.specs.Outline.{gap, collapsed, midpoint, gap_midpoint, owned, between, arc_from, arcs_at}

-- what `then` gives, as a list
pub one_if : {X : Type 0} (o : Option X) (b : Bool) (x : X) → is_some o ≡ b → IfSome o (λ r. r ≡ x) → option_to_list o ≡ cond b (x ∷ []) []
one_if None b x e h = rw (← e)
one_if (Some r) b x e h = rw (← e, h)

-- the next index round a list of n is below n
pub next_below : (i n : ℕ) → i < n → (i + 1) % n < n
next_below i n h = mod-lt (i + 1) {m = n} (omega arith)

module _ (cs : List Circle) (k : ℕ) (c : Circle) (a b : Float) where
  -- a collapsed gap has no midpoint and no arc
  pub none_between : gap_midpoint c a b ≡ None → arc_between cs k c a b ≡ []
  unfolding gap_midpoint arc_between
  none_between e = by (collapsed (gap a b)) e
    where
      by : (t : Bool) → cond t None (Some (midpoint c a b)) ≡ None
          → cond (not t && owned k (midpoint c a b) cs) (between k c a (gap a b) ∷ []) [] ≡ []
      by true e = refl
      by false e = search rules

  -- any other has one where its midpoint is the member's own
  pub some_between : (p : Point) → gap_midpoint c a b ≡ Some p
      → arc_between cs k c a b ≡ cond (owned k p cs) (between k c a (gap a b) ∷ []) []
  unfolding gap_midpoint arc_between
  some_between p e = by (collapsed (gap a b)) e
    where
      by : (t : Bool) → cond t None (Some (midpoint c a b)) ≡ Some p
          → cond (not t && owned k (midpoint c a b) cs) (between k c a (gap a b) ∷ []) []
          ≡ cond (owned k p cs) (between k c a (gap a b) ∷ []) []
      by true e = search rules
      by false e = search rules

-- the arc after the i-th angle is that of the gap from it to the next
pub arc_after : (cs : List Circle) (k : ℕ) (c : Circle) (phis : List Float) (i : ℕ)
    → arc_between cs k c (get_or phis i nan) (get_or phis ((i + 1) % length phis) nan) ≡ arc_from cs k c phis i
unfolding arc_between arc_from midpoint
arc_after cs k c phis i = refl

-- a member with angles has the arcs after each of them
pub arcs_after_all : (cs : List Circle) (k : ℕ) (c : Circle) (phis : List Float) → (length phis ≡ 0 → ⊥)
    → arcs_at cs k c phis ≡ up_to (arc_from cs k c phis) (length phis)
unfolding arcs_at
arcs_after_all cs k c [] h = absurd (h refl)
arcs_after_all cs k c (phi ∷ phis) h = refl

-- one more of the lists that f gives
pub next_given : (start : List BoundaryArc) (f : ℕ → List BoundaryArc) (i : ℕ) (arcs : List BoundaryArc) → arcs ≡ f i
    → (start ++ up_to f i) ++ arcs ≡ start ++ up_to f (i + 1)
unfolding up_to
next_given start f i arcs e = append_assoc start (up_to f i) arcs ∙ rw (add-one i, e) refl
