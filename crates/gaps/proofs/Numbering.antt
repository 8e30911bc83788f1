-- The number of a gap: as the code tests it between neighbours, and what it can be.
use mathlib.Core.Path.{◌≡◌, refl, sym, subst}
use mathlib.Core.Bool.{Bool, true, false, cond}
use mathlib.Core.List.{List}
use Prim.Native.Nat.{ℕ, ◌+◌, ◌*◌, ◌<◌}
use borrow.Author.Tests.{lt-ltb, eq-eqb, ne_eqb, eqb-true, eqb-false}
use lib.Dec.{eqb}
use lib.ListN.{length, get_or}
use Rattle.std.specs.Prelude.{Option, None, Some}
use Rattle.std.specs.Bool.{then_some}
use Rattle.masks.specs.Mask.{subset}
use Rattle.geometry.specs.declared.circle.Circle.{Circle}
use Rattle.boundary.specs.declared.sort.Mark.{Mark}
use Rattle.boundary.specs.Marks.{no_mark}
use Rattle.gaps.specs.Gaps.{is_arc, next_of}
use Rattle.gaps.specs.Marks.{phi_at}
use Rattle.gaps.specs.Numbers.{neighbour_number, other_number, gap_number}

some_if : (t : Bool) (x : ℕ) → then_some t x ≡ cond t (Some x) None
some_if true x = refl
some_if false x = refl

module _ (circles : List Circle) (marks : List Mark) (n S j a b : ℕ) where
  -- the number between neighbours, and that between others
  abbrev near : ℕ
  near = j * 32 + a

  abbrev far : ℕ
  far = 330 + (j * 32 + a) * 320 + (j * 32 + b)

  -- whether there is an arc, as held and as worked out
  abbrev held : Bool
  held = subset 64 S (get_or marks a no_mark).lets

  abbrev arc : Bool
  arc = is_arc circles S j (phi_at marks a) (phi_at marks b)

  module _ (hj : j < length circles) (ha : a < length marks) (hb : b < length marks) where
    between_neighbours : b ≡ next_of a n → gap_number circles marks n S j a b ≡ cond held (Some near) None
    unfolding gap_number neighbour_number
    between_neighbours e =
        let m = length marks in
        rw (lt-ltb j (length circles) hj, lt-ltb a m ha, lt-ltb b m hb, eq-eqb b (next_of a n) e) refl

    between_others : (b ≡ next_of a n → ⊥) → gap_number circles marks n S j a b ≡ cond arc (Some far) None
    unfolding gap_number other_number
    between_others e =
        let m = length marks in
        rw (lt-ltb j (length circles) hj, lt-ltb a m ha, lt-ltb b m hb, ne_eqb b (next_of a n) e) refl

    -- as the code tests them
    pub by_masks : b ≡ next_of a n → then_some held near ≡ gap_number circles marks n S j a b
    by_masks e = rw (between_neighbours e) (some_if held near)

    pub by_arc : (b ≡ next_of a n → ⊥) → then_some arc far ≡ gap_number circles marks n S j a b
    by_arc e = rw (between_others e) (some_if arc far)

    -- what holds in each of the four cases holds of the number
    pub by_cases : (P : Option ℕ → Type 0)
        → (b ≡ next_of a n → (s : Bool) → held ≡ s → P (cond s (Some near) None))
        → ((s : Bool) → arc ≡ s → P (cond s (Some far) None))
        → P (gap_number circles marks n S j a b)
    by_cases P neighbours others = by (eqb b (next_of a n)) refl
      where
        by : (t : Bool) → eqb b (next_of a n) ≡ t → P (gap_number circles marks n S j a b)
        by true q = let e = eqb-true b (next_of a n) q in subst P (sym (between_neighbours e)) (neighbours e _ refl)
        by false q = subst P (sym (between_others (eqb-false b (next_of a n) q))) (others _ refl)

pub ruleset numbering = (by_masks, by_arc)
