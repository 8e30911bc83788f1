-- How many rows a pass writes, and what a row looks at: its own place, and the heads of the plan. Afresh is
-- an edit with no sets before.
use mathlib.Core.Path.{◌≡◌, refl, sym, subst, ap, ◌∙◌}
use mathlib.Core.Bool.{Bool, true, false, not, ◌&&◌, cond, or-true}
use mathlib.Core.List.{List, [], ◌∷◌}
use Prim.Native.Nat.{ℕ, zero, suc, ◌^◌, ◌≤◌, ◌<◌}
use lib.Dec.{eqb, leb}
use lib.Ieee.{Float}
use lib.ListN.{length, get_or, take}
use lib.Pow.{pow_mono}
use lib.Seq.{get_or-take, length-take-le}
use mir.Val.{bool_byte}
use borrow.Author.Tests.{le-leb}
use Rattle.binary64.specs.Constants.{zero64}
use Rattle.heads.specs.declared.Head.{Head}
use Rattle.masks.specs.Gather.{gather_lt, in_gather, gather_unique}
use Rattle.masks.specs.Presence.{byte}
use Rattle.plan.specs.Limits.{no_head}
use Rattle.sums.specs.Rows.{number_at}
use Rattle.sums.specs.Presence.{among}
use Rattle.regions.specs.Edit.{Row, present, absent, box_row, afresh_row, meets_any, met, reworked, edited_row}
use Rattle.regions.specs.Slices.{slices_of, row_at}
use Rattle.table.specs.declared.rows.Change.{Change}
use Rattle.table.specs.Rows.{worked_out}

-- 2^n rows, at most 1024
pub rows_count : (n count : ℕ) → n ≤ 10 → count ≡ cond (leb n 10) (2 ^ n) 0 → count ≡ 2 ^ n
rows_count n count h e = e ∙ rw (le-leb n 10 h)

pub rows_most : (n : ℕ) → n ≤ 10 → 2 ^ n ≤ 1024
rows_most n h = pow_mono {i = n} {j = 10} h

pub rows_few : (n count : ℕ) → n ≤ 10 → count ≡ cond (leb n 10) (2 ^ n) 0 → count ≤ 1024
rows_few n count h e = subst (λ m. m ≤ 1024) (sym (rows_count n count h e)) (rows_most n h)

-- the heads met look at the first n heads
pub met_first : (heads : List Head) (n k : ℕ) (head : Head) → n ≤ length heads → k < n
    → met (get_or (take n heads) k no_head ∷ head ∷ []) (λ j. get_or (take n heads) j no_head)
    (length (take n heads)) k
    ≡ met (get_or heads k no_head ∷ head ∷ []) (λ j. get_or heads j no_head) n k
unfolding met
met_first heads n k head room within =
    let values = get_or heads k no_head ∷ head ∷ [] in
    rw (length-take-le n heads room, get_or-take n heads k no_head within)
    (gather_unique n _ _ (gather_lt n _) (λ i h. in_gather n _ i h
    ∙ ap (λ other. not (eqb i k) && meets_any values other) (get_or-take n heads i no_head h)))

-- whether a row is worked out looks at its own place among the sets before and after
pub worked_own : (c : Change) (before after : ℕ → Bool) (S : ℕ)
    → worked_out c (λ T. before S) (λ T. after S) S ≡ worked_out c before after S
unfolding reworked
worked_own c before after zero = refl
worked_own c before after (suc S) = refl

-- the number of a bool is its byte
pub number_is_byte : (b : Bool) → bool_byte b ≡ byte b
number_is_byte true = refl
number_is_byte false = refl

-- what a row is worked out from, at its own place
pub row_cong : (own met : ℕ) (has_box has_box' : Bool) (area area' : ℕ → Float)
    (before before' after after' : ℕ → Bool) (rows : ℕ → Row) (S : ℕ)
    → has_box ≡ has_box' → area S ≡ area' S → before S ≡ before' S → after S ≡ after' S
    → edited_row has_box own met area before after rows S ≡ edited_row has_box' own met area' before' after' rows S
unfolding edited_row reworked
row_cong own met has_box has_box' area area' before before' after after' rows zero box a b c = rw box
row_cong own met has_box has_box' area area' before before' after after' rows (suc S) box a b c = rw (a, b, c)

-- afresh: no sets before, and, where there is a box, its area in row 0
pub afresh_edited : (has_box : Bool) (own met : ℕ) (box : Float) (area : ℕ → Float) (sets : ℕ → Bool)
    (rows : ℕ → Row) (S : ℕ) → box_row has_box (rows 0).number ≡ box_row has_box box
    → edited_row has_box own met area (λ T. false) sets rows S ≡ afresh_row has_box box area sets S
unfolding edited_row afresh_row reworked
afresh_edited has_box own met box area sets rows zero e = e
afresh_edited has_box own met box area sets rows (suc S) e = simp or-true

-- ---- a row as the passes leave it: its area where it is worked out, +0 where it is absent, else the number handed in

there_byte : (b : Bool) (v : Float) → byte b ≡ (cond b (present v) absent).byte
there_byte true v = refl
there_byte false v = refl

there_number : (b : Bool) (v : Float) → cond b v zero64 ≡ (cond b (present v) absent).number
there_number true v = refl
there_number false v = refl

-- what is worked out of a row that is there
there_worked : (is worked : Bool) (x y : Float)
    → cond is (cond (is && worked) x y) zero64 ≡ (cond is (present (cond worked x y)) absent).number
there_worked true worked x y = refl
there_worked false worked x y = refl

module _ (has_box : Bool) (c : Change) (area : ℕ → Float) (before after : ℕ → Bool) (bytes : List ℕ)
    (numbers : List Float) where
  abbrev left : ℕ → Row
  left S = edited_row has_box c.own c.met area before after (row_at (slices_of bytes numbers)) S

  -- its byte is that of the sets after
  pub byte_left : (S : ℕ) → byte (among has_box after S) ≡ (left S).byte
  unfolding edited_row
  byte_left zero = there_byte has_box _
  byte_left (suc S) = there_byte (after (suc S)) _

  pub number_left : (wanted : ℕ → Bool) (S : ℕ) → wanted S ≡ worked_out c before after S
      → cond (among has_box after S) (number_at wanted area numbers S) zero64 ≡ (left S).number
  unfolding edited_row
  number_left wanted zero e = rw e (there_number has_box _)
  number_left wanted (suc S) e = rw e (there_worked (after (suc S)) _ _ _)
