-- Laws of the lines of a table and of a refusal's line: as they are put, and as the rows go on.
use mathlib.Core.Path.{◌≡◌, refl, sym, ap, ◌∙◌}
use mathlib.Core.Bool.{Bool, true, false, cond, ◌&&◌}
use mathlib.Core.List.{List, [], ◌∷◌, ◌++◌, append_assoc, append-nil, flat_map}
use Prim.Native.Nat.{ℕ, zero, suc, ◌+◌, ◌*◌, ◌^◌, ◌≤◌, ◌<◌}
use native.Mathlib.Numerals.{add-one}
use native.Mathlib.Omega.{arith}
use borrow.Author.Tests.{lt-ltb, le-ltb, ltb-true, ltb-false}
use lib.Count.{ones}
use lib.Dec.{eqb, ltb}
use lib.Ieee.{Float, nan, binary64, to_bits}
use lib.ListN.{length, get_or, length-append}
use Rattle.lists.specs.Lists.{up_to}
use Rattle.lists.proofs.Lists.{up_to_cong, up_to_through}
use Rattle.masks.specs.Presence.{stands}
use Rattle.exclusive.specs.RowOrder.{rows_of, row_order}
use Rattle.exclusive.proofs.Places.{few_rows, masks_le, level_next, rows_next}
use Rattle.exclusive.proofs.RowOrder.{row}
use Rattle.printing.specs.declared.text.Cursor.{Cursor}
use Rattle.printing.specs.Text.{digits, decimal, line_end, Advances}
use Rattle.printing.specs.Rows.{line_of, row_line, row_lines, level_lines, table_lines, LinesFew, LinesSame}
use Rattle.printing.specs.Rows.{refused_word, at_word, refusal_line, RefusalFew}
use Rattle.printing.proofs.Putting.{advance_then}
use Rattle.printing.proofs.Digits.{length_digits, decimal_few}

-- ---- a line, as its parts are put

pub line_put : (mask bits : ℕ) {a b c d e : Cursor}
    → Advances (digits 16 3 mask) a b → Advances (32 ∷ []) b c → Advances (digits 16 16 bits) c d → Advances line_end d e
    → Advances (line_of mask bits) a e
unfolding line_of
line_put mask bits first gap second last =
    advance_then (digits 16 3 mask) _ first (advance_then (32 ∷ []) _ gap (advance_then (digits 16 16 bits) line_end second last))

pub length_line : (mask bits : ℕ) → length (line_of mask bits) ≡ 21
unfolding line_of
length_line mask bits =
    omega (
      arith,
      length-append (digits 16 3 mask) (32 ∷ (digits 16 16 bits ++ line_end)),
      length-append (digits 16 16 bits) line_end,
      length_digits 16 3 mask,
      length_digits 16 16 bits,
    )

-- a refusal's line
pub refusal_put : (number offset : ℕ) {a b c d e f : Cursor}
    → Advances refused_word a b → Advances (decimal number) b c → Advances at_word c d → Advances (decimal offset) d e → Advances line_end e f
    → Advances (refusal_line number offset) a f
unfolding refusal_line
refusal_put number offset first second third fourth last =
    advance_then refused_word _ first
    (advance_then (decimal number) _ second (advance_then at_word _ third (advance_then (decimal offset) line_end fourth last)))

pub refusal_few : RefusalFew
unfolding refusal_line
refusal_few number offset =
    omega (
      arith,
      length-append refused_word (decimal number ++ (at_word ++ (decimal offset ++ line_end))),
      length-append (decimal number) (at_word ++ (decimal offset ++ line_end)),
      length-append at_word (decimal offset ++ line_end),
      length-append (decimal offset) line_end,
      decimal_few number,
      decimal_few offset,
    )

-- ---- as the rows go on

pub flat_append : {A B : Type 0} (f : A → List B) (s t : List A) → flat_map f (s ++ t) ≡ flat_map f s ++ flat_map f t
unfolding flat_map
flat_append f [] t = refl
flat_append f (x ∷ s) t =
    ap (λ l. f x ++ l) (flat_append f s t) ∙ sym (append_assoc (f x) (flat_map f s) (flat_map f t))

flat_one : {A B : Type 0} (f : A → List B) (x : A) → flat_map f (x ∷ []) ≡ f x
unfolding flat_map
flat_one f x = append-nil (f x)

flat_none : {A B : Type 0} (f : A → List B) → flat_map f [] ≡ []
unfolding flat_map
flat_none f = refl

module _ (present : ℕ → Bool) (line : ℕ → List ℕ) where
  -- the lines of the rows of c heads below row s, and of those of fewer than c heads
  abbrev pub lines_at : ℕ → ℕ → List ℕ
  lines_at c s = flat_map line (rows_of present c s)

  abbrev pub lines_below : ℕ → ℕ → List ℕ
  lines_below m c = flat_map line (up_to (λ d. rows_of present d m) c)

  pub no_level : (c : ℕ) → lines_at c 0 ≡ []
  unfolding up_to rows_of flat_map
  no_level c = refl

  -- mask s is a row, or not
  pub level_row : (c s : ℕ) → (present s && eqb (ones s) c) ≡ true → lines_at c (s + 1) ≡ lines_at c s ++ line s
  level_row c s e =
      ap (flat_map line) (level_next present c s ∙ ap (λ b. rows_of present c s ++ cond b (s ∷ []) []) e)
      ∙ flat_append line (rows_of present c s) (s ∷ []) ∙ ap (λ l. lines_at c s ++ l) (flat_one line s)

  pub level_skip : (c s : ℕ) → (present s && eqb (ones s) c) ≡ false → lines_at c (s + 1) ≡ lines_at c s
  level_skip c s e =
      ap (flat_map line) (level_next present c s ∙ ap (λ b. rows_of present c s ++ cond b (s ∷ []) []) e ∙ append-nil (rows_of present c s))

  pub none_below : (m : ℕ) → lines_below m 0 ≡ []
  unfolding up_to flat_map
  none_below m = refl

  pub lines_next : (m c : ℕ) → lines_below m (c + 1) ≡ lines_below m c ++ lines_at c m
  lines_next m c = ap (flat_map line) (rows_next present m c) ∙ flat_append line (up_to (λ d. rows_of present d m) c) (rows_of present c m)

-- ---- the levels of the table, one after another

module _ (n : ℕ) (bytes : List ℕ) (numbers : List Float) where
  abbrev pub levels_below : ℕ → List ℕ
  levels_below c = lines_below (stands bytes) (row_line (λ S. get_or numbers S nan)) (2 ^ n) c

  pub level_put : (c m : ℕ) {a b d : Cursor} → m ≡ 2 ^ n → Advances (levels_below c) a b
      → Advances (level_lines bytes numbers c m) b d
      → Advances (levels_below (c + 1)) a d
  level_put c m e before level =
      let next = lines_next (stands bytes) (row_line (λ S. get_or numbers S nan)) (2 ^ n) c in
      rw next (advance_then (levels_below c) _ before (rw e at level))

  -- all levels are the table
  pub lines_all : n ≤ 10 → levels_below (n + 1) ≡ table_lines n bytes numbers
  unfolding table_lines row_lines row_order
  lines_all h = rw (add-one, le-ltb 10 n h)

pub lines_none : (n : ℕ) (bytes : List ℕ) (numbers : List Float) → 10 < n → table_lines n bytes numbers ≡ []
unfolding table_lines
lines_none n bytes numbers h = rw (lt-ltb 10 n h)

-- ---- how many bytes

flat_length : (number : ℕ → Float) (l : List ℕ) → length (flat_map (row_line number) l) ≡ 21 * length l
unfolding flat_map
flat_length number [] = refl
flat_length number (S ∷ l) =
    omega (
      arith,
      length-append (row_line number S) (flat_map (row_line number) l),
      length_line S (to_bits binary64 (number S)),
      flat_length number l,
    )

pub level_few : (bytes : List ℕ) (numbers : List Float) (c s : ℕ) → length (level_lines bytes numbers c s) ≤ 21 * s
level_few bytes numbers c zero =
    omega (arith, ap length (no_level (stands bytes) (row_line (λ S. get_or numbers S nan)) c))
level_few bytes numbers c (suc s) =
    rw (← add-one s) (by (stands bytes s && eqb (ones s) c) refl (level_few bytes numbers c s))
  where
    line : ℕ → List ℕ
    line = row_line (λ S. get_or numbers S nan)

    by : (b : Bool) → (stands bytes s && eqb (ones s) c) ≡ b → length (level_lines bytes numbers c s) ≤ 21 * s
        → length (level_lines bytes numbers c (s + 1)) ≤ 21 * (s + 1)
    by true e few =
        omega (
          arith,
          ap length (level_row (stands bytes) line c s e),
          length-append (level_lines bytes numbers c s) (line s),
          length_line s (to_bits binary64 (get_or numbers s nan)),
        )
    by false e few = omega (arith, ap length (level_skip (stands bytes) line c s e))

pub levels_few : (n : ℕ) (bytes : List ℕ) (numbers : List Float) (c : ℕ)
    → length (levels_below n bytes numbers c) ≤ 21 * 2 ^ n
levels_few n bytes numbers c =
    omega (arith, flat_length (λ S. get_or numbers S nan) (up_to (λ d. rows_of (stands bytes) d (2 ^ n)) c), few_rows (stands bytes) (2 ^ n) c)

pub lines_few : LinesFew
lines_few n bytes numbers = by (ltb 10 n) refl
  where
    by : (b : Bool) → ltb 10 n ≡ b → length (table_lines n bytes numbers) ≤ 21504
    by true e = rw (lines_none n bytes numbers (ltb-true 10 n e)) (omega arith)
    by false e =
        rw (← lines_all n bytes numbers (ltb-false 10 n e)) (omega (arith, levels_few n bytes numbers (n + 1), masks_le n (ltb-false 10 n e)))

-- ---- what the lines look at

module _ (n : ℕ) (present : ℕ → Bool) (number : ℕ → Float) where
  -- the line of mask S among the rows of c heads, or none
  line_at : ℕ → ℕ → List ℕ
  line_at c S = flat_map (row_line number) (row present c S)

  by_mask : row_lines n present number ≡ up_to (λ c. up_to (line_at c) (2 ^ n)) (suc n)
  unfolding row_lines row_order rows_of line_at
  by_mask =
      up_to_through (flat_map (row_line number)) (flat_none (row_line number)) (flat_append (row_line number)) (λ c. rows_of present c (2 ^ n)) (suc n)
      ∙ up_to_cong _ _ (suc n)
      (λ c h. up_to_through (flat_map (row_line number)) (flat_none (row_line number)) (flat_append (row_line number)) (row present c) (2 ^ n))

pub lines_same : LinesSame
unfolding line_at
lines_same n present present' number number' e =
    by_mask n present number
    ∙ up_to_cong (λ c. up_to (line_at n present number c) (2 ^ n)) (λ c. up_to (line_at n present' number' c) (2 ^ n)) (suc n)
    (λ c h. up_to_cong (line_at n present number c) (line_at n present' number' c) (2 ^ n) (λ S k. same c S (e S k).0 (e S k).1))
    ∙ sym (by_mask n present' number')
  where
    one : (b : Bool) (S : ℕ) → number S ≡ number' S
        → flat_map (row_line number) (cond b (S ∷ []) []) ≡ flat_map (row_line number') (cond b (S ∷ []) [])
    one true S q =
        flat_one (row_line number) S ∙ ap (λ v. line_of S (to_bits binary64 v)) q ∙ sym (flat_one (row_line number') S)
    one false S q = flat_none (row_line number) ∙ sym (flat_none (row_line number'))

    same : (c S : ℕ) → present S ≡ present' S → number S ≡ number' S
        → line_at n present number c S ≡ line_at n present' number' c S
    same c S p q =
        one (present S && eqb (ones S) c) S q
        ∙ ap (λ b. flat_map (row_line number') (cond (b && eqb (ones S) c) (S ∷ []) [])) p

-- the lines of slices of at most ten heads
pub table-lines : (n : ℕ) (bytes : List ℕ) (numbers : List Float) → n ≤ 10
    → table_lines n bytes numbers ≡ row_lines n (stands bytes) (λ S. get_or numbers S nan)
unfolding table_lines
table-lines n bytes numbers h = rw (le-ltb 10 n h)
